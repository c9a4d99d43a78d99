use Rattle.std.proofs.Common.{◌+◌, ◌-◌}
use Rattle.parts.specs.Marking.{Skipped}
use Rattle.parts.proofs.marks.skip_marked.Given as goal

abbrev pub invariant-loop-at : goal.invariant-loop-at
invariant-loop-at l = Skipped l.marks l.x l.n l.at

abbrev pub decreases-loop-at : goal.decreases-loop-at
decreases-loop-at l = l.n + 1 - l.at
