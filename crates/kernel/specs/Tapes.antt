-- What the calls about tapes answer, and what they leave in lent memory. Document 01, "Tape".
use Rattle.std.specs.Prelude.{cond, List, ◌++◌, ℕ, ◌*◌, leb, eqb, length, drop, replicate}
use Rattle.table.specs.Refusals.{short_room, or_else, unless}
use Rattle.table.specs.Limits.{words_per_dart, max_capacity, screen_room}
use Rattle.table.specs.Layout.{Table}
use Rattle.tape.specs.Tapes.{contents_of}
use Rattle.table.specs.Runs.{Outcome, stopped}
use Rattle.tape.specs.Runs.{run_of}
use Rattle.writer.specs.Canonical.{tape_of}
use Rattle.writer.specs.Screens.{screen_bytes}
use Rattle.needs.specs.Amounts.{refused_needs, needed_by}
use Rattle.needs.specs.declared.Needs.{Needs}
use Rattle.soundness.specs.Soundness.{table_refusal, tape_refusal}
use Rattle.kernel.specs.Calls.{list_answer, list_leaves}
use Rattle.kernel.specs.declared.Answer.{Answer}

-- PLAYING: 1 for the tape or the table, then 2, before the first command is read
unfoldable pub play_refusal : Table → (tape : List ℕ) → ℕ
play_refusal w bs = or_else (tape_refusal bs) (table_refusal w)

-- a call that is refused has accepted nothing; else the run, whose accepted commands stay also where it is stopped
unfoldable pub play_outcome : Table → (tape : List ℕ) → Outcome Table
play_outcome w bs = cond (eqb (play_refusal w bs) 0) (run_of w bs) (stopped (play_refusal w bs) w)

-- WRITING the canonical tape into a lent buffer; the count is its bytes
abbrev pub tape_answer : Table → (out : List ℕ) → Answer
tape_answer w o = list_answer (table_refusal w) (tape_of w) o

abbrev pub tape_leaves : Table → (out : List ℕ) → List ℕ
tape_leaves w o = list_leaves (table_refusal w) (tape_of w) o

-- THE NEEDS of a tape: 1 for its size, then the first 15 or 16
unfoldable pub needs_answer : (tape : List ℕ) → Needs
needs_answer bs = cond (eqb (tape_refusal bs) 0) (needed_by (contents_of bs)) (refused_needs (tape_refusal bs))

-- THE SCREEN'S CALL. Its buffer has room for every answer
unfoldable pub screen_refusal : (tape out : List ℕ) → ℕ
screen_refusal bs o = or_else (tape_refusal bs) (unless (leb screen_room (length o)) short_room)

unfoldable pub empty_table : (capacity : ℕ) → Table
empty_table n = replicate (words_per_dart * n) 0

abbrev pub screen_answer : (tape : List ℕ) → List ℕ
screen_answer bs = screen_bytes (run_of (empty_table max_capacity) bs)

unfoldable pub screen_leaves : (tape out : List ℕ) → List ℕ
screen_leaves bs o = cond (eqb (screen_refusal bs o) 0) (screen_answer bs ++ drop (length (screen_answer bs)) o) o
