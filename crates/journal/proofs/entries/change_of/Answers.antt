use Rattle.journal.proofs.Undoings.{no_change}
use Rattle.journal.proofs.entries.change_of.Goals as goal

pub returns-in_err-opcode_in : goal.returns-in_err-opcode_in
returns-in_err-opcode_in c = rw c.from_residual.ensures (no_change _ _ _ c.in_err-opcode_in.ensures)
