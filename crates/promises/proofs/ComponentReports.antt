-- The promises of the report of one component: what is counted is the hypermap of that component, which is connected,
-- and over all components the counts add up.
use mathlib.Core.Path.{◌≡◌, sym, ap, ◌∙◌}
use mathlib.Core.Bool.{true}
use mathlib.Core.List.{[], ◌∷◌}
use Prim.Native.Nat.{ℕ}
use lib.ListN.{length}
use Rattle.lists.proofs.Lists.{Mem}
use Rattle.lists.proofs.Sums.{sum_ext, sum_of_integers_ext}
use Rattle.hypermap.specs.Hypermap.{edge, vertex, Hypermap, is_hypermap, of, face, edges, vertices, faces, components}
use Rattle.hypermap.specs.Hypermap.{genus, component_at}
use Rattle.hypermap.specs.ComponentLaws.{representatives, sum_over_components, IsConnected, AddsUp}
use Rattle.hypermap.proofs.Laws.Components.{component_law}
use Rattle.hypermap.proofs.Laws.ComponentGenus.{component_shared, representative_dart, component_genus_law}
use Rattle.table.specs.Layout.{Table, hypermap_of}
use Rattle.table.proofs.Holding.{mem_present, table_hypermap}
use Rattle.parts.specs.Counts.{lifts}
use Rattle.parts.specs.Sharing.{is_same}
use Rattle.parts.specs.declared.Part.TheVariants.{Component}
use Rattle.parts.proofs.Lifting.{lifts_by_darts, lifts_add_up}
use Rattle.soundness.specs.Soundness.{table_refusal}
use Rattle.kernel.specs.Calls.{report_on, question_refusal, component_report_of}
use Rattle.promises.specs.ComponentReports.{IsOfOneComponent, sum_of_reports, ReportsAddUp, ComponentPromise}
use Rattle.kernel.specs.declared.Totals.{Totals}
use Rattle.soundness.proofs.Passing.{table_passed}
use Rattle.kernel.proofs.Judging.{dart_ready}
use Rattle.promises.proofs.Accepted.{Reported, plan_reported, report_passed, question_fits, question_table}
use Rattle.promises.proofs.Accepted.{component_passed, component_reported}

-- ONE
module _ (w : Table) (x : ℕ) (z : question_refusal w (x ∷ []) ≡ 0) where
  wf : is_hypermap (hypermap_of w) ≡ true
  wf = table_hypermap w (dart_ready w x z).at.hypermap

  dart : Mem x (hypermap_of w).darts
  dart = mem_present w x ∙ (dart_ready w x z).at.here

  connected : IsConnected (component_at (hypermap_of w) x)
  connected = (component_genus_law (hypermap_of w) wf).0 x dart

  shared : (y : ℕ) → is_same w Component x y ≡ true → component_report_of w y ≡ component_report_of w x
  shared y t =
      let i = rw mem_present at ((component_law (hypermap_of w) wf).1.within x y dart t) in
      let f = question_fits w y (question_table w (x ∷ []) z) i in
      ap (λ n. report_on n (component_at (hypermap_of w) y)) (f ∙ sym z) ∙
      ap (report_on (question_refusal w (x ∷ []))) (component_shared (hypermap_of w) wf x y dart t)

  one_component : IsOfOneComponent (component_report_of w x)
  one_component =
      let r = component_reported w x z in
      record {
        components = r.components ∙ connected.one;
        lifts = rw (r.lifts, r.darts) (lifts_by_darts (hypermap_of w) wf x dart);
        euler = rw (r.vertices, r.edges, r.faces, r.genus, r.darts) connected.euler;
      }

-- ALL
module _ (w : Table) (t : table_refusal w ≡ 0) where
  abbrev m : Hypermap
  m = hypermap_of w

  wf_all : is_hypermap m ≡ true
  wf_all = table_hypermap w (table_passed w t).hypermap

  sums : AddsUp m
  sums = (component_genus_law m wf_all).1

  given : (x : ℕ) → Mem x (representatives m) → Reported (component_report_of w x) (component_at m x)
  given x i = component_reported w x (question_fits w x t (rw mem_present at (representative_dart m wf_all x i)))

  sum :
      (f : Totals → ℕ) (g : Hypermap → ℕ) →
      ((x : ℕ) → Reported (component_report_of w x) (component_at m x) →
      f (component_report_of w x) ≡ g (component_at m x)) →
      sum_of_reports w f ≡ sum_over_components m g
  sum f g h = sum_ext _ _ (representatives m) (λ x i. h x (given x i))

  adds_up : ReportsAddUp w
  adds_up =
      let r = plan_reported w t in
      record {
        darts = sum (λ t. t.darts) (λ c. length c.darts) (λ x k. k.darts) ∙ sums.darts ∙ sym r.darts;
        edges = sum (λ t. t.edges) edges (λ x k. k.edges) ∙ sums.orbits (of edge) ∙ sym r.edges;
        vertices = sum (λ t. t.vertices) vertices (λ x k. k.vertices) ∙ sums.orbits (of vertex) ∙ sym r.vertices;
        faces = sum (λ t. t.faces) faces (λ x k. k.faces) ∙ sums.orbits face ∙ sym r.faces;
        components =
            sum (λ t. t.components) components (λ x k. k.components) ∙ sums.components ∙ sym r.components;
        characteristic =
            sum_of_integers_ext _ _ (representatives m) (λ x i. (given x i).characteristic) ∙ sums.characteristic ∙
            sym r.characteristic;
        genus = sum (λ t. t.genus) genus (λ x k. k.genus) ∙ sums.genus ∙ sym r.genus;
        lifts = sum (λ t. t.lifts) lifts (λ x k. k.lifts) ∙ lifts_add_up m wf_all ∙ sym r.lifts;
      }

pub component_promise : ComponentPromise
component_promise = record {
  one = λ w x e. one_component w x (component_passed w x e);
  shared = λ w x y e. shared w x (component_passed w x e) y;
  all = λ w e. adds_up w (report_passed w e);
}
