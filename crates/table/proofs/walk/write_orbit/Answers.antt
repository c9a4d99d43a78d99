use Rattle.table.proofs.Walking.{writes_first, writes_on}
use Rattle.table.proofs.walk.write_orbit.Goals as goal

pub loop-word-init : goal.loop-word-init
loop-word-init c = writes_first

pub loop-word-preserved : goal.loop-word-preserved
loop-word-preserved c = writes_on c.requires c.loop-word.invariant c.step-at.ensures c.if-at-x.false
