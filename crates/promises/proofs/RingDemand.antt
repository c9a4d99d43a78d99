-- The third demand for ring cuts: an accepted call has a sound table and an accepted list, to which Theorem 2.9 applies
-- where the ring's own component is planar. On a planar plan every component is.
use mathlib.Core.Path.{◌≡◌, refl, sym, ap, ◌∙◌}
use mathlib.Core.Bool.{true, false}
use mathlib.Core.List.{List, [], ◌∷◌}
use Prim.Native.Nat.{ℕ, suc}
use native.Mathlib.Omega.{arith}
use borrow.Author.Tests.{eqb-true, eq-eqb}
use Rattle.lists.specs.Lists.{all}
use Rattle.lists.proofs.Bools.{and_left, and_right}
use Rattle.lists.proofs.Lists.{Mem}
use Rattle.hypermap.specs.Hypermap.{is_dart, is_hypermap, genus, is_planar, component_at}
use Rattle.hypermap.specs.Ring.{DoubleLink}
use Rattle.hypermap.specs.RingLaws.{IsParted}
use Rattle.hypermap.proofs.Laws.ComponentGenus.{genus_below}
use Rattle.hypermap.proofs.Laws.Jordan.{break_darts}
use Rattle.table.specs.Layout.{Table, holds_hypermap, hypermap_of}
use Rattle.table.proofs.Holding.{mem_present, table_hypermap}
use Rattle.parts.specs.Sharing.{is_same}
use Rattle.parts.specs.declared.Part.TheVariants.{Component}
use Rattle.parts.proofs.Lifting.{untouched_counts}
use Rattle.rings.specs.Rings.{links_of, ring_refusal, cut_along}
use Rattle.rings.specs.Laws.{IsCut, are_darts}
use Rattle.rings.proofs.Conditions.{some_links, conditions_law}
use Rattle.rings.proofs.Parting.{accepted_darts, accepted_cut, parting_law, planar_parting_law}
use Rattle.soundness.specs.Soundness.{table_refusal}
use Rattle.kernel.specs.Calls.{totals_of, report_of, ring_call_refusal, question_refusal, component_report_of}
use Rattle.promises.specs.ThirdDemand.{IsPartedByReports, ComponentRingDemand, IsRingCut, RingDemand}
use Rattle.kernel.proofs.Answering.{given_report}
use Rattle.soundness.proofs.Passing.{table_passed, table_fits, size_stays, holds_sound}
use Rattle.kernel.proofs.Judging.{dart_ready}
use Rattle.promises.proofs.Accepted.{ring_passed, ring_leaves, plan_reported, component_passed, component_reported}
use Rattle.promises.proofs.Accepted.{question_fits}

-- the links of an accepted list
some_link : (ls : List DoubleLink) → (ls ≡ [] → ⊥) → (l : DoubleLink) × (ks : List DoubleLink) × (ls ≡ l ∷ ks)
some_link [] n = absurd (n refl)
some_link (l ∷ ls) n = (l, ls, refl)

module _ (w : Table) (ws : List ℕ) (e : ring_call_refusal w ws ≡ 0) where
  t : table_refusal w ≡ 0
  t = (ring_passed w ws e).0

  f : ring_refusal w ws ≡ 0
  f = (ring_passed w ws e).1

  hypermap : holds_hypermap w ≡ true
  hypermap = (table_passed w t).hypermap

  abbrev v : Table
  v = cut_along (links_of ws) w

  is_cut : IsCut w (links_of ws)
  is_cut = accepted_cut w ws hypermap f

  fits : table_refusal v ≡ 0
  fits = table_fits v (size_stays v w is_cut.size (table_passed w t).size) (holds_sound v is_cut.hypermap)

  wf : is_hypermap (hypermap_of w) ≡ true
  wf = table_hypermap w hypermap

  same_darts : (hypermap_of v).darts ≡ (hypermap_of w).darts
  same_darts = is_cut.holds.darts ∙ break_darts (links_of ws) (hypermap_of w)

  -- THE RING'S OWN COMPONENT
  module _ (l : DoubleLink) (ls : List DoubleLink) (q : links_of ws ≡ l ∷ ls) where
    in_ring : (Mem l.first (hypermap_of w).darts) × (Mem l.second (hypermap_of w).darts)
    unfolding all
    in_ring =
        let d = and_left _ (are_darts (hypermap_of w) ls) (rw q at (accepted_darts w ws f)) in
        (and_left (is_dart (hypermap_of w) l.first) _ d, and_right (is_dart (hypermap_of w) l.first) _ d)

    -- a report of a dart, before and after
    asked : (x : ℕ) → Mem x (hypermap_of w).darts → (question_refusal w (x ∷ []) ≡ 0) ×
        (question_refusal v (x ∷ []) ≡ 0)
    asked x d = (
      question_fits w x t (rw mem_present at d),
      question_fits v x fits (sym (mem_present v x) ∙ rw same_darts d),
    )

    module _ (g : (component_report_of w l.first).genus ≡ 0) where
      parted : IsParted (hypermap_of w) (hypermap_of v) l ls
      parted =
          let r = component_reported w l.first (asked l.first in_ring.0).0 in
          parting_law w ws l ls hypermap f q
          (eq-eqb (genus (component_at (hypermap_of w) l.first)) 0 (sym r.genus ∙ g))

      planar :
          (x : ℕ) → Mem x (hypermap_of w).darts → is_planar (component_at (hypermap_of v) x) ≡ true →
          ((component_report_of v x).number ≡ 0) × ((component_report_of v x).genus ≡ 0)
      planar x d i =
          let r = component_reported v x (asked x d).1 in
          (r.number, r.genus ∙ eqb-true (genus (component_at (hypermap_of v) x)) 0 i)

      others :
          (x : ℕ) → (component_report_of w x).number ≡ 0 → is_same w Component l.first x ≡ false →
          component_report_of v x ≡ component_report_of w x
      others x i n =
          let d : Mem x (hypermap_of w).darts = mem_present w x ∙ (dart_ready w x (component_passed w x i)).at.here in
          let z = asked x d in
          let c = untouched_counts (hypermap_of w) (hypermap_of v) wf (table_hypermap v is_cut.hypermap) same_darts x d
          (parted.others x d n) in
          sym (given_report _ (component_at (hypermap_of v) x) 0 _ (sym z.1) refl refl) ∙ ap totals_of c ∙
          given_report _ (component_at (hypermap_of w) x) 0 _ (sym z.0) refl refl

      by_reports : IsPartedByReports w v l ls
      by_reports = record {
        parted = parted;
        before = (component_reported w l.first (asked l.first in_ring.0).0).number;
        first = planar l.first in_ring.0 parted.first_planar;
        second = planar l.second in_ring.1 parted.second_planar;
        others = others;
      }

  -- A PLANAR PLAN: each of its components is planar
  module _ (g : (report_of w).genus ≡ 0) where
    ring : (l : DoubleLink) × (ls : List DoubleLink) × (links_of ws ≡ l ∷ ls)
    ring = some_link (links_of ws) (some_links ws ((conditions_law w ws).0 f).0)

    no_genus : genus (hypermap_of w) ≡ 0
    no_genus = sym (plan_reported w t).genus ∙ g

    of_ring : (component_report_of w ring.0.first).genus ≡ 0
    of_ring =
        let d = (in_ring ring.0 ring.1 ring.2).0 in
        let below = genus_below (hypermap_of w) wf ring.0.first d in
        (component_reported w ring.0.first (asked ring.0 ring.1 ring.2 ring.0.first d).0).genus ∙
        omega (arith, below, no_genus)

    ring_cut :
        IsRingCut w v ws × ((report_of v).number ≡ 0) × ((report_of v).components ≡ suc (report_of w).components) ×
        ((report_of v).genus ≡ 0)
    ring_cut =
        let k = parted ring.0 ring.1 ring.2 of_ring in
        let p = planar_parting_law w ws ring.0 ring.1 hypermap f ring.2
        (eq-eqb (genus (hypermap_of w)) 0 no_genus) in
        let r = plan_reported v fits in (
          record { link = ring.0; links = ring.1; listed = ring.2; parted = k },
          r.number,
          r.components ∙ k.one_more ∙ ap suc (sym (plan_reported w t).components),
          r.genus ∙ eqb-true (genus (hypermap_of v)) 0 p.1,
        )

pub component_ring_demand : ComponentRingDemand
component_ring_demand w ws l ls e q g = rw (ring_leaves w ws e) (by_reports w ws e l ls q g)

pub ring_demand : RingDemand
ring_demand w ws e g = rw (ring_leaves w ws e) (ring_cut w ws e g)
