use Rattle.std.proofs.Common.{◌+◌, ◌-◌}
use Rattle.parts.proofs.FloodingAll.{FloodingAll}
use Rattle.parts.proofs.count.flood_all.Given as goal

abbrev pub invariant-loop-queue : goal.invariant-loop-queue
invariant-loop-queue l = FloodingAll l.table l.x l.found.components l.found.lifts l.found.faces l.marks

abbrev pub decreases-loop-queue : goal.decreases-loop-queue
decreases-loop-queue l = l.n + 1 - l.x
