use Rattle.parts.proofs.Marking.{Passed}
use Rattle.parts.proofs.ShortEdges.{edge_sweep}
use Rattle.parts.proofs.edges.count_edges.Given as goal

abbrev pub invariant-loop-x : goal.invariant-loop-x
invariant-loop-x l = Passed l.table (edge_sweep l.table l.fn.marks l.value) l.x l.count l.marks
