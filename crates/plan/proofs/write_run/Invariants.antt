use Rattle.std.proofs.Common.{◌≡◌, length}
use Rattle.plan.proofs.Writing.{Writing}
use Rattle.plan.proofs.write_run.Given as goal

abbrev pub invariant-loop-rest : goal.invariant-loop-rest
invariant-loop-rest g l =
    Writing l.initial.machine.table.now l.tape l.machine.table.now l.rest (g.W.Write.contents l.fn.lines)
    (g.W.Write.contents l.lines) × (l.machine.table.ghost_name ≡ l.initial.machine.table.ghost_name)

abbrev pub decreases-loop-rest : goal.decreases-loop-rest
decreases-loop-rest g l = length l.rest
