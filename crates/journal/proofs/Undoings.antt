-- One entry undone, by its byte, and the loop that goes back entry by entry.
use Rattle.std.specs.Bool.{⊤}
use mathlib.Core.Path.{◌≡◌, refl, ap, sym, ◌∙◌}
use mathlib.Core.Bool.{false, ◌&&◌}
use mathlib.Core.List.{◌∷◌}
use Prim.Native.Nat.{ℕ, zero, suc, ◌+◌, ◌-◌, ◌*◌, ◌≤◌, ◌<◌}
use native.Mathlib.Omega.{arith}
use lib.Dec.{leb, eqb}
use lib.ListN.{length}
use Rattle.std.proofs.lemmas.Bool.{false≢true}
use borrow.Author.Tests.{le-leb, eqb-true, eq-eqb, ne_eqb, leb-true, lt-ltb}
use Rattle.lists.proofs.Bools.{refuted, and_left, and_right}
use Rattle.table.specs.Limits.{words_per_entry}
use Rattle.table.specs.Refusals.{undo_unfit, unless}
use Rattle.table.specs.Layout.{Table}
use Rattle.table.specs.Commands.{opposite, command_refusal, leaves}
use Rattle.table.specs.Runs.{run_by, rule_leaves}
use Rattle.table.specs.Inner.{WithinCapacity}
use Rattle.table.proofs.Stages.{fitting}
use Rattle.table.proofs.Commands.{keeps_hypermap_law}
use Rattle.table.proofs.Runs.{run_law, run_stops, run_goes_on, later, later_one, later_stopped}
use Rattle.journal.specs.Entries.{Journal, Entry, is_change, command_in, entry_at}
use Rattle.journal.specs.Undoing.{undo_refusal, undo_on, undo_rule, latest_first, undoing}
use Rattle.tape.specs.Tapes.{operand_sizes, is_command}
use Rattle.journal.specs.Inner.{entry}

-- a byte of no command
pub no_change : (byte a b : ℕ) → is_command byte ≡ false → is_change (entry byte a b) ≡ false
unfolding is_change is_command operand_sizes
no_change byte a b e =
    refuted _ (λ t.
    let i = and_left (leb 1 byte && leb byte 6) _ t in
    let l = leb-true 1 byte (and_left (leb 1 byte) _ i) in
    let h = leb-true byte 6 (and_right (leb 1 byte) _ i) in
    false≢true (sym e ∙ rw (le-leb 1 byte l, lt-ltb byte 9 (omega arith))))

-- the definitions that the check opens by itself on one entry, by one name
unfoldable pub definitions : ⊤
unfolding undo_refusal unless leaves
definitions = tt

-- an entry that is undone has an opposite command that is accepted
pub undo_passed : (w : Table) (y : Entry) → undo_refusal w y ≡ 0 → command_refusal w (opposite (command_in y)) ≡ 0
unfolding undo_refusal
undo_passed w y z =
    let t = fitting (is_change y && eqb (command_refusal w (opposite (command_in y))) 0) undo_unfit (omega arith) z in
    eqb-true _ 0 (and_right (is_change y) _ t)

pub latest_length : (j : Journal) (p n : ℕ) → length (latest_first j p n) ≡ n
latest_length j p zero = refl
latest_length j p (suc n) = ap suc (latest_length j p n)

-- no more are undone than there are
pub undone_at_most : (w : Table) (j : Journal) (p n : ℕ) → (undoing w j p n).accepted ≤ n
undone_at_most w j p n = omega (
  arith,
  (run_law Table Entry undo_rule w (latest_first j p n) 0).few,
  latest_length j p n,
)

-- GOING BACK: from w₀ and all used entries down to n of them
pub record Going (w₀ : Table) (j : Journal) (used to : ℕ) (w : Table) (n : ℕ) : Type 0 where
  pub low : to ≤ n
  pub high : n ≤ used
  pub words : words_per_entry * used ≤ length j
  pub table : WithinCapacity w
  pub size : length w ≡ length w₀
  pub same : undoing w₀ j to (used - to) ≡ later (used - n) (undoing w j to (n - to))

module _ (w₀ : Table) (j : Journal) (used to : ℕ) (w : Table) (n : ℕ) (h : Going w₀ j used to w n) where
  abbrev Ends : (number undone : ℕ) → Table → Type 0
  Ends m k v = undoing w₀ j to (used - to) ≡ record { number = m; accepted = k; state = v }

  pub going_end : n ≤ to → Ends 0 (used - to) w
  unfolding run_by
  going_end l =
      let low = h.low in
      let e : n ≡ to = omega arith in
      let z : n - to ≡ 0 = omega arith in
      h.same ∙ ap (λ k. later (used - n) (undoing w j to k)) z ∙ later_stopped (used - n) 0 w ∙
      ap (λ k. record { number = 0; accepted = used - k; state = w }) e

-- entry n - 1, with its refusal f and the table v that it leaves
module _
    (w₀ : Table) (j : Journal) (used to : ℕ) (w : Table) (n : ℕ) (h : Going w₀ j used to w n) (l : to < n) where
  abbrev y : Entry
  y = entry_at j (n - 1)

  opened : latest_first j to (n - to) ≡ y ∷ latest_first j to (n - 1 - to)
  opened =
      let k : n - to ≡ suc (n - 1 - to) = omega arith in
      let i : to + (n - 1 - to) ≡ n - 1 = omega arith in
      ap (latest_first j to) k ∙ ap (λ x. x ∷ latest_first j to (n - 1 - to)) (ap (entry_at j) i)

  module _ (f : ℕ) (v : Table) (e : f ≡ undo_refusal w y) (g : v ≡ rule_leaves undo_rule w y) where
    pub going_stop :
        (f ≡ 0 → ⊥) → undoing w₀ j to (used - to) ≡ record { number = f; accepted = used - 1 - (n - 1); state = v }
    unfolding leaves
    going_stop d =
        let q : v ≡ w = g ∙ rw (ne_eqb (undo_refusal w y) 0 (λ z. d (e ∙ z))) in
        let k : used - n ≡ used - 1 - (n - 1) = omega arith in
        h.same ∙ ap (λ es. later (used - n) (run_by undo_rule w es 0)) opened ∙
        ap (later (used - n)) (run_stops undo_rule y _ w 0 (λ z. d (e ∙ z))) ∙ later_stopped (used - n) _ w ∙
        rw (q, e, k)

    pub going_on : f ≡ 0 → Going w₀ j used to v (n - 1)
    unfolding leaves
    going_on z =
        let a : undo_refusal w y ≡ 0 = sym e ∙ z in
        let q : v ≡ undo_on w y = g ∙ rw (eq-eqb (undo_refusal w y) 0 a) in
        let i = keeps_hypermap_law w h.table.hypermap (opposite (command_in y)) (undo_passed w y a) in
        let high = h.high in
        let k : used - n + 1 ≡ used - (n - 1) = omega arith in
        rw q (record {
          low = omega arith;
          high = omega arith;
          words = h.words;
          table = record { hypermap = i.0; room = rw i.1 h.table.room };
          size = i.1 ∙ h.size;
          same =
              h.same ∙ ap (λ es. later (used - n) (run_by undo_rule w es 0)) opened ∙
              ap (later (used - n)) (run_goes_on undo_rule y _ w 0 a) ∙ later_one (used - n) _ ∙
              ap (λ c. later c (undoing (undo_on w y) j to (n - 1 - to))) k;
        })
