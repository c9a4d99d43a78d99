use Rattle.std.proofs.Common.{length}
use Rattle.table.specs.Inner.{kind_of}
use Rattle.table.proofs.Walking.{way_home}
use Rattle.table.proofs.Meeting.{Turns}
use Rattle.table.proofs.walk.distance.Given as goal

abbrev pub invariant-loop-x : goal.invariant-loop-x
invariant-loop-x l =
    Turns l.table (kind_of l.orbit) l.a l.b l.x l.y l.walked

abbrev pub decreases-loop-x : goal.decreases-loop-x
decreases-loop-x l =
    length (way_home l.table (kind_of l.orbit) l.a l.x)
