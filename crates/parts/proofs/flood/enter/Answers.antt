use Rattle.parts.proofs.Entering.{entry_none, entry_mark, entry_at, entry_back, entry_place, entry_on, entry_home}
use Rattle.parts.proofs.flood.enter.Goals as goal

pub loop-at-init : goal.loop-at-init
loop-at-init c = entry_none _ _ _ _ c.requires

pub mark_dart-requires : goal.mark_dart-requires
mark_dart-requires c = entry_mark _ _ _ _ c.requires _ _ c.loop-at.invariant

pub word-back-requires : goal.word-back-requires
word-back-requires c = entry_at _ _ _ _ c.requires _ _ c.loop-at.invariant

pub bounds-queue-end : goal.bounds-queue-end
bounds-queue-end c = entry_place _ _ _ _ c.requires _ _ c.loop-at.invariant

pub word-at-requires : goal.word-at-requires
word-at-requires c =
    rw c.word-back.ensures (entry_back _ _ _ _ c.requires _ _ c.loop-at.invariant)

pub returns-then-at-y : goal.returns-then-at-y
returns-then-at-y c =
    entry_home _ _ _ _ c.requires _ _ c.loop-at.invariant _ c.mark_dart.ensures _ c.word-back.ensures _
    c.word-at.ensures c.if-at-y.true

pub loop-at-smaller : goal.loop-at-smaller
loop-at-smaller c =
    (entry_on _ _ _ _ c.requires _ _ c.loop-at.invariant _ c.mark_dart.ensures _ c.word-back.ensures _
    c.word-at.ensures c.if-at-y.false).1

pub loop-at-preserved : goal.loop-at-preserved
loop-at-preserved c =
    (entry_on _ _ _ _ c.requires _ _ c.loop-at.invariant _ c.mark_dart.ensures _ c.word-back.ensures _
    c.word-at.ensures c.if-at-y.false).0
