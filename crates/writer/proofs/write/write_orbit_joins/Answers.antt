use Rattle.writer.proofs.OrbitJoins.{joining_first, joining_at, joining_room, joining_on, joining_less, joining_all}
use Rattle.writer.proofs.write.write_orbit_joins.Goals as goal

pub loop-y-init : goal.loop-y-init
loop-y-init c = joining_first c.requires c.neighbour-y.ensures.value

pub write_bytes-at-requires : goal.write_bytes-at-requires
write_bytes-at-requires c =
    rw c.join_bytes.ensures (joining_room c.requires c.loop-y.invariant c.loop-y-test.true)

pub neighbour-y-requires-in-loop-y : goal.neighbour-y-requires-in-loop-y
neighbour-y-requires-in-loop-y c =
    joining_at c.requires c.loop-y.invariant

pub loop-y-smaller : goal.loop-y-smaller
loop-y-smaller c =
    joining_less c.requires c.loop-y.invariant c.loop-y-test.true c.neighbour-y-in-loop-y.ensures.value

pub loop-y-preserved : goal.loop-y-preserved
loop-y-preserved c =
    joining_on c.requires c.loop-y.invariant c.loop-y-test.true c.neighbour-y-in-loop-y.ensures.value
    (rw c.join_bytes.ensures at c.write_bytes-at.ensures)

pub returns : goal.returns
returns c =
    joining_all c.requires c.loop-y.invariant c.loop-y-test.false
