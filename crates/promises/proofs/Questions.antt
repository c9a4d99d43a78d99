-- The second demand for questions: what two darts share, rounds, component marks and reports. A question that is not
-- refused has a sound table and darts of it, to which the laws of orbits and components apply.
use mathlib.Core.Path.{◌≡◌, refl, ap, sym, ◌∙◌}
use mathlib.Core.Logic.{◌↔◌}
use mathlib.Core.Bool.{true, false}
use mathlib.Core.List.{List, [], ◌∷◌, ◌++◌}
use Prim.Native.Nat.{ℕ, ◌+◌, ◌-◌, ◌≤◌}
use native.Mathlib.Omega.{arith}
use lib.ListN.{length, get_or, drop}
use borrow.Author.Tests.{eq-eqb}
use Rattle.lists.proofs.Ranges.{map_up_from}
use Rattle.hypermap.specs.Hypermap.{edge, vertex, of, face, is_dart, is_hypermap, component_of, component_at}
use Rattle.hypermap.specs.Laws.{Connects}
use Rattle.hypermap.proofs.Laws.Orbits.{orbit_law}
use Rattle.hypermap.proofs.Laws.Distances.{distance_law}
use Rattle.hypermap.proofs.Laws.Components.{component_law}
use Rattle.hypermap.proofs.Laws.Counts.{least_has, least_low}
use Rattle.table.specs.Layout.{Table, capacity, is_present, hypermap_of}
use Rattle.table.specs.Inner.{kind_of}
use Rattle.table.specs.declared.Orbit.{Orbit}
use Rattle.table.proofs.Holding.{low, high, mem_present, table_hypermap}
use Rattle.parts.specs.Counts.{counts_of}
use Rattle.parts.specs.Marks.{mark_of, marks_of, component_marks}
use Rattle.parts.specs.Sharing.{is_same, steps_round}
use Rattle.parts.specs.declared.Part.{Part}
use Rattle.parts.specs.declared.Part.TheVariants.{Edge, Vertex, Face, Component}
use Rattle.parts.proofs.LeastMarks.{marks_length}
use Rattle.soundness.specs.Soundness.{table_refusal}
use Rattle.soundness.proofs.Passing.{table_passed}
use Rattle.kernel.specs.Calls.{question_refusal, same_answer, list_refusal, list_leaves, list_answer, round_of}
use Rattle.kernel.specs.Calls.{round_answer, marks_answer, report_of, totals_of, component_report_of}
use Rattle.kernel.proofs.Answering.{given_answer, given_report}
use Rattle.kernel.proofs.Judging.{dart_ready, darts_ready}
use Rattle.promises.specs.SecondDemand.{Shares, IsRound, IsSmallest, AreMarks}
use Rattle.promises.proofs.Accepted.{answer_number, list_passed, report_passed, component_passed}

-- WHAT TWO DARTS SHARE
shares :
    (w : Table) (p : Part) (a b : ℕ) → is_hypermap (hypermap_of w) ≡ true → is_dart (hypermap_of w) a ≡ true →
    (is_same w p a b ≡ true) ↔ Shares (hypermap_of w) p a b
shares w Edge a b wf d = (distance_law (hypermap_of w) wf (of edge) a b d).reached
shares w Vertex a b wf d = (distance_law (hypermap_of w) wf (of vertex) a b d).reached
shares w Face a b wf d = (distance_law (hypermap_of w) wf face a b d).reached
shares w Component a b wf d = ((component_law (hypermap_of w) wf).0 a d).members b

module _ (w : Table) (p : Part) (a b : ℕ) where
  pub same_given :
      question_refusal w (a ∷ b ∷ []) ≡ 0 →
      same_answer w p a b ≡ record { number = 0; yes = is_same w p a b; count = steps_round w p a b }
  unfolding same_answer
  same_given z = sym (given_answer 0 (question_refusal w (a ∷ b ∷ [])) (is_same w p a b) (steps_round w p a b)
      (sym z) refl)

  pub same_passed : (same_answer w p a b).number ≡ 0 → question_refusal w (a ∷ b ∷ []) ≡ 0
  unfolding same_answer
  same_passed e = sym (answer_number (question_refusal w (a ∷ b ∷ [])) (is_same w p a b) (steps_round w p a b)) ∙ e

  pub same : (same_answer w p a b).number ≡ 0 → ((same_answer w p a b).yes ≡ true) ↔ Shares (hypermap_of w) p a b
  same e =
      let z = same_passed e in
      let r = (darts_ready w a b z).both in
      rw (same_given z) (shares w p a b (table_hypermap w r.hypermap) (mem_present w a ∙ r.first))

-- A ROUND
pub round : (w : Table) (o : Orbit) (x : ℕ) (out : List ℕ) → (round_answer w o x out).number ≡ 0 → IsRound w o x out
unfolding list_answer list_leaves
round w o x out e =
    let q = question_refusal w (x ∷ []) in
    let l = round_of w o x in
    let p = list_passed q l out e in
    let r = dart_ready w x p.0 in
    record {
      orbit = (orbit_law (hypermap_of w) (table_hypermap w r.at.hypermap) (kind_of o)).0 x
          (mem_present w x ∙ r.at.here);
      count = ap (λ a. a.count) (sym (given_answer _ (list_refusal q l out) false (length l) refl p.1));
      written = rw (eq-eqb (list_refusal q l out) 0 p.1);
    }

-- MARKS: the mark of x stands at place x − 1
mark_at :
    (w : Table) (x : ℕ) → 1 ≤ x → x ≤ capacity w →
    get_or (component_marks w) (x - 1) 0 ≡ mark_of w (component_of (hypermap_of w)) x
unfolding marks_of
mark_at w x l h =
    let e : 1 + (x - 1) ≡ x = omega arith in
    map_up_from (mark_of w (component_of (hypermap_of w))) 1 (capacity w) (x - 1) (omega arith) ∙
    ap (mark_of w (component_of (hypermap_of w))) e

smallest :
    (w : Table) → table_refusal w ≡ 0 → (x : ℕ) → is_dart (hypermap_of w) x ≡ true →
    IsSmallest (hypermap_of w) x (get_or (component_marks w) (x - 1) 0)
unfolding mark_of
smallest w e x d =
    let p : is_present w x ≡ true = sym (mem_present w x) ∙ d in
    let c = (component_law (hypermap_of w) (table_hypermap w (table_passed w e).hypermap)).0 x d in
    rw (mark_at w x (low w x p) (high w x p), p) (record {
      connected =
          least_has (Connects (hypermap_of w).next x) x (component_of (hypermap_of w) x) ([], refl)
          (λ y m. (c.members y).0 m);
      least = λ y t. (least_low x (component_of (hypermap_of w) x)).1 y ((c.members y).1 t);
    })

none :
    (w : Table) (x : ℕ) → 1 ≤ x → x ≤ capacity w → is_dart (hypermap_of w) x ≡ false →
    get_or (component_marks w) (x - 1) 0 ≡ 0
unfolding mark_of
none w x l h d =
    let p : is_present w x ≡ false = sym (mem_present w x) ∙ d in
    mark_at w x l h ∙ rw p

pub marks : (w : Table) (out : List ℕ) → (marks_answer w out).number ≡ 0 → AreMarks w out
unfolding list_answer list_leaves
marks w out e =
    let q = table_refusal w in
    let l = component_marks w in
    let p = list_passed q l out e in
    let n = marks_length w (component_of (hypermap_of w)) in
    record {
      count = ap (λ a. a.count) (sym (given_answer _ (list_refusal q l out) false (length l) refl p.1)) ∙ n;
      written = rw (eq-eqb (list_refusal q l out) 0 p.1) (ap (λ k. l ++ drop k out) n);
      darts = smallest w p.0;
      absent = none w;
    }

-- REPORTS
pub report : (w : Table) → (report_of w).number ≡ 0 → report_of w ≡ totals_of (counts_of (hypermap_of w))
report w e = sym (given_report (table_refusal w) (hypermap_of w) 0 _ (sym (report_passed w e)) refl refl)

pub component_report :
    (w : Table) (x : ℕ) → (component_report_of w x).number ≡ 0 →
    component_report_of w x ≡ totals_of (counts_of (component_at (hypermap_of w) x))
component_report w x e =
    let z = component_passed w x e in
    sym (given_report (question_refusal w (x ∷ [])) (component_at (hypermap_of w) x) 0 _ (sym z) refl refl)
