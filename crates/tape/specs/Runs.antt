-- A run of a tape: its commands in a row, up to the first that is refused. Document 01, "Tape".
use Rattle.std.specs.Prelude.{List, ℕ}
use Rattle.table.specs.Layout.{Table}
use Rattle.table.specs.Refusals.{or_else}
use Rattle.table.specs.Commands.{leaves}
use Rattle.table.specs.Runs.{Rule, Outcome, run_by}
use Rattle.tape.specs.Steps.{TapeCommand, step_rule}
use Rattle.tape.specs.Tapes.{command_of, read_refusal, contents_of}
use Rattle.tape.specs.declared.Run.{Run}

-- all commands accepted, it ends by what stopped the reading
abbrev pub tape_run : {S : Type 0} → Rule S TapeCommand → S → (tape : List ℕ) → Outcome S
tape_run r s bs = run_by r s (contents_of bs).commands (contents_of bs).refusal

-- on a table by itself
abbrev pub run_of : Table → (tape : List ℕ) → Outcome Table
run_of w bs = tape_run step_rule w bs

-- THE FIRST COMMAND of a tape, by a rule: it cannot be read, or it is refused; and the state that it leaves
unfoldable pub first_refusal : {S : Type 0} → Rule S TapeCommand → S → (tape : List ℕ) → ℕ
first_refusal r s bs = or_else (read_refusal bs) (r.refusal s (command_of bs))

unfoldable pub first_leaves : {S : Type 0} → Rule S TapeCommand → S → (tape : List ℕ) → S
first_leaves r s bs = leaves (first_refusal r s bs) (r.on s (command_of bs)) s

-- what the player answers
abbrev pub told_of : {S : Type 0} → Outcome S → Run
told_of o = record { number = o.number; accepted = o.accepted }
