use Rattle.hypermap.specs.Hypermap.{face}
use Rattle.parts.specs.Floods.{front}
use Rattle.parts.proofs.Walking.{to_come}
use Rattle.parts.proofs.Entering.{Entry}
use Rattle.parts.proofs.flood.enter.Given as goal

abbrev pub invariant-loop-at : goal.invariant-loop-at
invariant-loop-at l =
    Entry l.table l.y l.value (front l.fn.marks l.fn.queue l.tail) (front l.marks l.queue l.end) l.at

abbrev pub decreases-loop-at : goal.decreases-loop-at
decreases-loop-at l = to_come l.table face l.y l.at
