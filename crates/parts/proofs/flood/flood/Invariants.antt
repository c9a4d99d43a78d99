use Rattle.std.proofs.Common.{◌-◌, length}
use Rattle.parts.specs.Floods.{front}
use Rattle.parts.proofs.Flooding.{Flood}
use Rattle.parts.proofs.flood.flood.Given as goal

abbrev pub invariant-loop-head : goal.invariant-loop-head
invariant-loop-head l =
    Flood l.table l.x l.value (front l.fn.marks l.fn.queue 0) (front l.marks l.queue l.tail) l.head l.count

abbrev pub decreases-loop-head : goal.decreases-loop-head
decreases-loop-head l = length l.fn.queue - l.head
