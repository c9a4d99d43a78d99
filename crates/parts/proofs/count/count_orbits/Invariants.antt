use Rattle.table.specs.Inner.{kind_of}
use Rattle.parts.proofs.Marking.{Passed}
use Rattle.parts.proofs.MarkedSets.{raising_sweep}
use Rattle.parts.proofs.count.count_orbits.Given as goal

abbrev pub invariant-loop-x : goal.invariant-loop-x
invariant-loop-x l =
    Passed l.table (raising_sweep l.table l.fn.marks l.value (kind_of l.orbit)) l.x l.count l.marks
