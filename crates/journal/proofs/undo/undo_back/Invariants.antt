use Rattle.journal.proofs.Undoings.{Going}
use Rattle.journal.proofs.undo.undo_back.Given as goal

abbrev pub invariant-loop-n : goal.invariant-loop-n
invariant-loop-n l = Going l.initial.table l.journal l.used l.to l.table l.n-counter
