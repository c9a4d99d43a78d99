-- The customer's third demand for the public calls: a table that a report accepts is sound and holds a hypermap, to
-- which the genus theorem and the join criterion apply; the four words that a join writes are the change of that
-- hypermap.
use mathlib.Core.Path.{◌≡◌, ap, sym, ◌∙◌}
use mathlib.Core.Bool.{true, false, not}
use mathlib.Core.Logic.{inl, inr, ⊎_elim, ◌↔◌}
use Prim.Native.Nat.{ℕ, suc, ◌+◌, ◌*◌, ◌≤◌}
use native.Mathlib.Omega.{arith}
use lib.Dec.{ltb}
use lib.IntN.{pos, ◌-ℤ◌, +ℤ_comm, +ℤ-neg_ℤ_cancel}
use lib.ListN.{length}
use borrow.Author.Tests.{ltb-true, ltb-false, not-true}
use Rattle.lists.proofs.Bools.{by_cases, refuted, or_cases, or_left, or_right}
use Rattle.lists.proofs.Integers.{difference_above, difference_below}
use Rattle.hypermap.specs.Hypermap.{Dimension, is_dart, is_hypermap, same_component, all_orbits, characteristic, genus}
use Rattle.hypermap.specs.Change.{change, keeps_genus}
use Rattle.hypermap.proofs.Hypermaps.Agreeing.{agree}
use Rattle.hypermap.proofs.Laws.Changes.{change_hypermap}
use Rattle.hypermap.proofs.Laws.GenusTheorem.{euler_equation, orbits_least, orbits_most, genus_theorem}
use Rattle.hypermap.proofs.Laws.Joins.{join_law}
use Rattle.table.specs.Limits.{max_capacity}
use Rattle.table.specs.Layout.{Table, hypermap_of}
use Rattle.table.specs.Commands.{joins, swapped, is_together}
use Rattle.table.specs.Laws.{IsSwapped}
use Rattle.table.proofs.Holding.{mem_present, table_hypermap, darts_few}
use Rattle.table.proofs.Swaps.{swap_law}
use Rattle.soundness.specs.Soundness.{table_refusal}
use Rattle.kernel.specs.Calls.{report_of}
use Rattle.promises.specs.ThirdDemand.{GenusReported, GenusDemand, JoinsFreely, JoinDemand, ThirdDemand}
use Rattle.soundness.proofs.Passing.{table_passed, table_fits, size_stays, holds_sound}
use Rattle.table.proofs.Accepting.{Joined, join_passed}
use Rattle.promises.proofs.RingDemand.{ring_demand, component_ring_demand}
use Rattle.promises.proofs.Accepted.{plan_reported, report_passed, call_passed, accepted_leaves}

-- THE GENUS
module _ (w : Table) (t : table_refusal w ≡ 0) where
  wf : is_hypermap (hypermap_of w) ≡ true
  wf = table_hypermap w (table_passed w t).hypermap

  few_darts : length (hypermap_of w).darts ≤ max_capacity
  few_darts = omega (arith, darts_few w, (table_passed w t).room)

  -- by evenness the lowest is −4,092 and not 3 − 4,096
  reach : length (hypermap_of w).darts ≤ all_orbits (hypermap_of w) + 4092
  reach =
      let n = length (hypermap_of w).darts in
      by_cases (ltb 0 n)
      (λ u. omega (
        arith,
        orbits_least (hypermap_of w) wf (ltb-true 0 n u),
        euler_equation (hypermap_of w) wf,
        few_darts,
      ))
      (λ u. omega (arith, ltb-false 0 n u))

  genus_reported : GenusReported w
  genus_reported =
      let m = hypermap_of w in
      let r = plan_reported w t in
      record {
        half = rw (r.components, r.characteristic, r.genus)
            (ap (λ z. z -ℤ characteristic m)
            (sym (genus_theorem m wf).euler ∙ +ℤ_comm (characteristic m) (pos (2 * genus m))) ∙
            +ℤ-neg_ℤ_cancel (pos (2 * genus m)) (characteristic m));
        lowest = rw r.characteristic (difference_above (all_orbits m) (length m.darts) 4091 reach);
        highest =
            rw r.characteristic
            (difference_below (all_orbits m) (length m.darts) 8192 (omega (arith, orbits_most m wf, few_darts)));
      }

pub genus_demand : GenusDemand
genus_demand w e = genus_reported w (report_passed w e)

-- THE JOINS
module _ (w : Table) (k : Dimension) (a b : ℕ) (t : table_refusal w ≡ 0) (j : Joined w k a b) where
  abbrev v : Table
  v = swapped k a b w

  s : IsSwapped w k a b
  s = swap_law w (table_passed w t).hypermap k a b j.first j.second

  fits : table_refusal v ≡ 0
  fits = table_fits v (size_stays v w s.size (table_passed w t).size) (holds_sound v s.hypermap)

  in_a : is_dart (hypermap_of w) a ≡ true
  in_a = mem_present w a ∙ j.first

  in_b : is_dart (hypermap_of w) b ≡ true
  in_b = mem_present w b ∙ j.second

  changed : is_hypermap (change k a b (hypermap_of w)) ≡ true
  changed = change_hypermap (hypermap_of w) k a b (wf w t) in_a in_b

  same_genus : genus (hypermap_of v) ≡ genus (change k a b (hypermap_of w))
  same_genus =
      (agree (change k a b (hypermap_of w)) (hypermap_of v) changed (table_hypermap v s.hypermap) s.holds.darts
      s.holds.next s.holds.back).same_genus

  freely : JoinsFreely w k a b ↔ keeps_genus (hypermap_of w) k a b ≡ true
  freely = (
    λ f. ⊎_elim (λ u. or_left _ _ (ap not u)) (λ u. or_right (not (same_component (hypermap_of w) a b)) _ u) f,
    λ u. ⊎_elim (λ x. inl (not-true _ x)) (λ x. inr x) (or_cases (not (same_component (hypermap_of w) a b)) _ u),
  )

  law :
      (genus (change k a b (hypermap_of w)) ≡ genus (hypermap_of w) ↔ keeps_genus (hypermap_of w) k a b ≡ true) ×
      (keeps_genus (hypermap_of w) k a b ≡ false → genus (change k a b (hypermap_of w)) ≡ suc (genus (hypermap_of w)))
  unfolding is_together
  law = join_law (hypermap_of w) (wf w t) k a b in_a in_b j.apart

  -- the genus that the reports give
  before : (report_of w).genus ≡ genus (hypermap_of w)
  before = (plan_reported w t).genus

  after : (report_of v).genus ≡ genus (change k a b (hypermap_of w))
  after = (plan_reported v fits).genus ∙ same_genus

  joined :
      ((report_of v).number ≡ 0) × ((report_of v).genus ≡ (report_of w).genus ↔ JoinsFreely w k a b) ×
      ((JoinsFreely w k a b → ⊥) → (report_of v).genus ≡ suc (report_of w).genus)
  joined = (
    (plan_reported v fits).number,
    (λ e. freely.1 (law.0.0 (sym after ∙ e ∙ before)), λ f. after ∙ law.0.1 (freely.0 f) ∙ sym before),
    λ n. after ∙ law.1 (refuted _ (λ u. n (freely.1 u))) ∙ ap suc (sym before),
  )

pub join_demand : JoinDemand
join_demand w k a b e =
    let p = call_passed w (joins k a b) e in
    rw (accepted_leaves w (joins k a b) e) (joined w k a b p.0 (join_passed w k a b p.1))

-- DEMAND 3, whole
pub third_demand : ThirdDemand
third_demand = record {
  genus = genus_demand;
  joins = join_demand;
  rings = ring_demand;
  component_rings = component_ring_demand;
}
