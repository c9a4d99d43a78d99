-- What a table has passed that is not refused, and that what has passed is not refused.
use mathlib.Core.Path.{◌≡◌}
use mathlib.Core.Bool.{true}
use mathlib.Core.List.{List}
use Prim.Native.Nat.{ℕ, ◌*◌, ◌%◌, ◌≤◌}
use native.Mathlib.Omega.{arith}
use lib.Dec.{eqb, leb}
use lib.ListN.{length}
use borrow.Author.Tests.{eqb-true, leb-true}
use Rattle.lists.proofs.Bools.{and_left, and_right}
use Rattle.table.specs.Limits.{words_per_dart, max_capacity, max_tape}
use Rattle.table.specs.Refusals.{wrong_size, bent_table, or_else, unless}
use Rattle.table.specs.Layout.{Table, capacity, holds_hypermap}
use Rattle.table.specs.Inner.{WithinCapacity}
use Rattle.table.proofs.Stages.{passed, fitting}
use Rattle.soundness.specs.Soundness.{size_fits, is_sound, table_refusal, tape_refusal}

-- THE SIZE
pub size_room : (w : Table) → size_fits w ≡ true → capacity w ≤ max_capacity
unfolding size_fits
size_room w t =
    let l = leb-true (length w) (words_per_dart * max_capacity)
    (and_right (eqb (length w % words_per_dart) 0) (leb (length w) (words_per_dart * max_capacity)) t) in
    omega arith

pub whole_words : (w : Table) → size_fits w ≡ true → length w ≡ words_per_dart * capacity w
unfolding size_fits
whole_words w t =
    let e = eqb-true (length w % words_per_dart) 0
    (and_left (eqb (length w % words_per_dart) 0) (leb (length w) (words_per_dart * max_capacity)) t) in
    omega arith

pub size_stays : (v w : Table) → length v ≡ length w → size_fits w ≡ true → size_fits v ≡ true
unfolding size_fits
size_stays v w e t = rw e t

-- A SOUND TABLE
pub sound_holds : (w : Table) → is_sound w ≡ true → holds_hypermap w ≡ true
unfolding is_sound
sound_holds w s = s

pub holds_sound : (w : Table) → holds_hypermap w ≡ true → is_sound w ≡ true
unfolding is_sound
holds_sound w s = s

pub record Passed (w : Table) : Type 0 where
  pub size : size_fits w ≡ true
  pub sound : is_sound w ≡ true
  pub hypermap : holds_hypermap w ≡ true
  pub room : capacity w ≤ max_capacity

pub table_passed : (w : Table) → table_refusal w ≡ 0 → Passed w
unfolding table_refusal
table_passed w e =
    let p = passed (unless (size_fits w) wrong_size) (unless (is_sound w) bent_table) e in
    let z = fitting (size_fits w) wrong_size (omega arith) p.0 in
    let s = fitting (is_sound w) bent_table (omega arith) p.1 in
    record { size = z; sound = s; hypermap = sound_holds w s; room = size_room w z }

pub table_within : (w : Table) → table_refusal w ≡ 0 → WithinCapacity w
table_within w e = let t = table_passed w e in record { hypermap = t.hypermap; room = t.room }

pub table_fits : (w : Table) → size_fits w ≡ true → is_sound w ≡ true → table_refusal w ≡ 0
unfolding table_refusal or_else unless
table_fits w s t = rw (s, t)

-- A TAPE that is not too long
pub tape_passed : (bs : List ℕ) → tape_refusal bs ≡ 0 → length bs ≤ max_tape
unfolding tape_refusal
tape_passed bs e =
    leb-true (length bs) max_tape (fitting (leb (length bs) max_tape) wrong_size (omega arith) e)

-- WHAT THE CHECK TRIES BY ITSELF on what has passed. It takes a lemma up at the first term of what it says, so these
-- say that term first
pub table_judged : (w : Table) → table_refusal w ≡ 0 → (table_refusal w ≡ 0) × WithinCapacity w
table_judged w e = (e, table_within w e)

pub tape_judged : (bs : List ℕ) → tape_refusal bs ≡ 0 → (tape_refusal bs ≡ 0) × (length bs ≤ max_tape)
tape_judged bs e = (e, tape_passed bs e)

pub ruleset passing = (table_judged, tape_judged)
