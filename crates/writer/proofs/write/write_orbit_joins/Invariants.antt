use Rattle.table.specs.Inner.{dimension_of}
use Rattle.writer.proofs.OrbitJoins.{Joining, to_come}
use Rattle.writer.proofs.write.write_orbit_joins.Given as goal

abbrev pub invariant-loop-y : goal.invariant-loop-y
invariant-loop-y l =
    Joining l.table (dimension_of l.d) l.x l.from l.initial.out l.out l.at l.y

abbrev pub decreases-loop-y : goal.decreases-loop-y
decreases-loop-y l =
    to_come l.table (dimension_of l.d) l.x l.y
