use Rattle.table.specs.Inner.{kind_of}
use Rattle.parts.proofs.Walking.{Walking, to_come}
use Rattle.parts.proofs.marks.mark_orbit.Given as goal

abbrev pub invariant-loop-at : goal.invariant-loop-at
invariant-loop-at l = Walking l.table (kind_of l.orbit) l.x l.value l.fn.marks l.marks l.at

abbrev pub decreases-loop-at : goal.decreases-loop-at
decreases-loop-at l = to_come l.table (kind_of l.orbit) l.x l.at
