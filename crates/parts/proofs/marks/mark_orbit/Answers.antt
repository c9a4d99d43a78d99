use Rattle.parts.proofs.Walking.{walking_on}
use Rattle.parts.proofs.marks.mark_orbit.Goals as goal

pub loop-at-smaller : goal.loop-at-smaller
loop-at-smaller c =
    (walking_on _ _ _ _ _ c.requires _ _ c.loop-at.invariant _ c.step-at.ensures _
    c.mark_dart.ensures c.if-at-x.false).1

pub loop-at-preserved : goal.loop-at-preserved
loop-at-preserved c =
    (walking_on _ _ _ _ _ c.requires _ _ c.loop-at.invariant _ c.step-at.ensures _
    c.mark_dart.ensures c.if-at-x.false).0
