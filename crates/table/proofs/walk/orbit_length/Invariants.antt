use Rattle.std.proofs.Common.{length}
use Rattle.table.specs.Inner.{kind_of}
use Rattle.table.proofs.Walking.{way_home}
use Rattle.table.proofs.Walking.{Walks}
use Rattle.table.proofs.walk.orbit_length.Given as goal

abbrev pub invariant-loop-at : goal.invariant-loop-at
invariant-loop-at l =
    Walks l.table (kind_of l.orbit) l.x l.at l.steps

abbrev pub decreases-loop-at : goal.decreases-loop-at
decreases-loop-at l =
    length (way_home l.table (kind_of l.orbit) l.x l.at)
