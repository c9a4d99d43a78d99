use Rattle.std.proofs.Common.{arith}
use Rattle.table.proofs.Walking.{walks_first, walks_counted, walks_on}
use Rattle.table.proofs.walk.orbit_length.Goals as goal

pub loop-at-init : goal.loop-at-init
loop-at-init c = walks_first

pub overflow_add-steps : goal.overflow_add-steps
overflow_add-steps c =
    let f = walks_counted c.loop-at.invariant c.requires c.shared_slice_known-1.given in
    omega arith

pub loop-at-preserved : goal.loop-at-preserved
loop-at-preserved c =
    walks_on c.loop-at.invariant c.requires c.step-at.ensures c.if-at-x.false
