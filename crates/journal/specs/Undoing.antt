-- Going back: a run over the entries, the latest first, by their opposite commands. Document 02, Job 5: "Where a record
-- is no change or its opposite command is refused, it stops".
use Rattle.std.specs.Prelude.{◌&&◌, List, [], ◌∷◌, ℕ, zero, suc, ◌+◌, eqb}
use Rattle.table.specs.Refusals.{undo_unfit, unless}
use Rattle.table.specs.Layout.{Table}
use Rattle.table.specs.Commands.{command_refusal, command_on, opposite}
use Rattle.table.specs.Runs.{Rule, Outcome, run_by}
use Rattle.journal.specs.Entries.{Journal, Entry, is_change, command_in, entry_at}

unfoldable pub undo_refusal : Table → Entry → ℕ
undo_refusal w e = unless (is_change e && eqb (command_refusal w (opposite (command_in e))) 0) undo_unfit

abbrev pub undo_on : Table → Entry → Table
undo_on w e = command_on w (opposite (command_in e))

abbrev pub undo_rule : Rule Table Entry
undo_rule = record { refusal = undo_refusal; on = undo_on }

-- the n entries from number p on, the latest first
abbrev pub latest_first : Journal → (p n : ℕ) → List Entry
latest_first j p zero = []
latest_first j p (suc n) = entry_at j (p + n) ∷ latest_first j p n

-- back to p entries from n more
abbrev pub undoing : Table → Journal → (p n : ℕ) → Outcome Table
undoing w j p n = run_by undo_rule w (latest_first j p n) 0
