use Rattle.hypermap.specs.Hypermap.{orbit_of}
use Rattle.table.specs.Layout.{hypermap_of}
use Rattle.table.specs.Inner.{kind_of}
use Rattle.parts.proofs.Marking.{Passed}
use Rattle.parts.proofs.LeastMarks.{least_sweep}
use Rattle.parts.proofs.marks.mark_orbits.Given as goal

abbrev pub invariant-loop-x : goal.invariant-loop-x
invariant-loop-x l =
    Passed l.table (least_sweep l.table (orbit_of (hypermap_of l.table) (kind_of l.orbit))) l.x l.count l.marks
