use Rattle.hypermap.specs.Hypermap.{component_of}
use Rattle.table.specs.Layout.{hypermap_of}
use Rattle.parts.proofs.Marking.{Passed}
use Rattle.parts.proofs.LeastMarks.{least_sweep}
use Rattle.parts.proofs.flood.mark_components.Given as goal

abbrev pub invariant-loop-x : goal.invariant-loop-x
invariant-loop-x l =
    Passed l.table (least_sweep l.table (component_of (hypermap_of l.table))) l.x l.count l.marks
