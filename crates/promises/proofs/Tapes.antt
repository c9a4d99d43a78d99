-- The second demand for tapes: a canonical tape builds its table and no other, and the screen gets the report and the
-- tape of a sound table.
use mathlib.Core.Path.{◌≡◌, refl, ap, sym}
use mathlib.Core.List.{List, ◌∷◌, ◌++◌}
use Prim.Native.Nat.{ℕ, ◌*◌, ◌%◌, ◌≤◌}
use native.Mathlib.Omega.{arith}
use lib.Dec.{leb}
use lib.ListN.{length, drop, replicate, length-replicate}
use borrow.Author.Tests.{eq-eqb, le-leb}
use Rattle.lists.proofs.Bools.{and_true}
use Rattle.table.specs.Limits.{words_per_dart, max_capacity, longest_canonical, screen_room}
use Rattle.table.specs.Refusals.{short_room, unless}
use Rattle.table.specs.Layout.{Table, capacity, hypermap_of}
use Rattle.table.proofs.Stages.{passed}
use Rattle.table.proofs.Zeros.{zeros_hold}
use Rattle.soundness.specs.Soundness.{size_fits, table_refusal, tape_refusal}
use Rattle.soundness.proofs.Passing.{table_passed, table_fits, whole_words, holds_sound}
use Rattle.table.specs.Runs.{Outcome}
use Rattle.writer.specs.Canonical.{tape_of}
use Rattle.writer.specs.Screens.{numbers_bytes, screen_bytes}
use Rattle.writer.specs.Laws.{IsBuilt}
use Rattle.writer.proofs.Sizes.{tape_fits}
use Rattle.writer.proofs.Building.{build_law, only_tape_law}
use Rattle.kernel.specs.Tapes.{play_outcome, empty_table, screen_refusal, screen_leaves}
use Rattle.kernel.proofs.Answering.{given_report}
use Rattle.kernel.proofs.Tapes.{played}
use Rattle.promises.specs.Plans.{report_numbers}
use Rattle.promises.specs.SecondDemand.{screen_run, reported_bytes, IsScreened}
use Rattle.promises.proofs.Accepted.{play_fits, play_ran}
use Rattle.promises.proofs.Changes.{run_stays}

-- EMPTY TABLES are sound
empty_sound : (n : ℕ) → n ≤ max_capacity → table_refusal (empty_table n) ≡ 0
unfolding empty_table size_fits
empty_sound n h =
    table_fits (empty_table n)
    (rw (length-replicate {A = ℕ} (words_per_dart * n) 0)
    (and_true _ _ (eq-eqb (words_per_dart * n % words_per_dart) 0 (omega arith))
    (le-leb (words_per_dart * n) (words_per_dart * max_capacity) (omega arith))))
    (holds_sound (empty_table n) (zeros_hold (words_per_dart * n)))

-- also that of the size of a sound one
sized_sound : (w : Table) → table_refusal w ≡ 0 → table_refusal (replicate (length w) 0) ≡ 0
unfolding empty_table
sized_sound w e = let t = table_passed w e in rw (whole_words w t.size) (empty_sound (capacity w) t.room)

-- THE TAPE
pub short : (w : Table) → table_refusal w ≡ 0 → length (tape_of w) ≤ longest_canonical
short w e = let t = table_passed w e in tape_fits w t.hypermap t.room

pub built : (w : Table) → table_refusal w ≡ 0 → IsBuilt w (play_outcome (replicate (length w) 0) (tape_of w))
built w e =
    let t = table_passed w e in
    let f = sized_sound w e in
    let s = short w e in
    rw (played (replicate (length w) 0) (tape_of w) (omega arith) 0 (sym f) refl)
    (build_law w t.hypermap (whole_words w t.size))

pub only_tape :
    (v w : Table) → table_refusal v ≡ 0 → table_refusal w ≡ 0 → length v ≡ length w → tape_of v ≡ tape_of w → v ≡ w
only_tape v w e f l t =
    let p = table_passed v e in
    only_tape_law v w p.hypermap (table_passed w f).hypermap (whole_words v p.size) l t

-- THE SCREEN
reported : (o : Outcome Table) → table_refusal o.state ≡ 0 → screen_bytes o ≡ reported_bytes o
unfolding screen_bytes
reported o t =
    ap (λ r. numbers_bytes (o.number ∷ o.accepted ∷ report_numbers r) ++ tape_of o.state)
    (given_report (table_refusal o.state) (hypermap_of o.state) 0 _ (sym t) refl refl)

pub screen : (tape out : List ℕ) → screen_refusal tape out ≡ 0 → IsScreened tape out
unfolding screen_leaves screen_refusal
screen tape out e =
    let p = passed (tape_refusal tape) (unless (leb screen_room (length out)) short_room) e in
    let w = empty_table max_capacity in
    let s = empty_sound max_capacity (omega arith) in
    let ran = play_ran w tape (play_fits w tape p.0 s) in
    let t = (run_stays w s tape).sound in
    record {
      sound = t;
      written =
          rw (eq-eqb (screen_refusal tape out) 0 e, ← ran)
          (ap (λ l. l ++ drop (length l) out) (reported (screen_run tape) t));
    }
