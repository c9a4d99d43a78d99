use Rattle.std.proofs.Common.{sym, ◌∙◌, arith}
use Rattle.hypermap.specs.Hypermap.{edge, of}
use Rattle.parts.proofs.MarkedSets.{set_none, set_count}
use Rattle.parts.proofs.ShortEdges.{edge_pass, edge_other, edge_tallied}
use Rattle.parts.proofs.edges.count_edges.Goals as goal
use Rattle.parts.proofs.edges.count_edges.Goals.{then-mark_of-value, else-mark_of-value}

pub loop-x-init : goal.loop-x-init
loop-x-init c =
    let k = c.requires.0 in set_none _ _ _ k (of edge) _ _ (edge_pass _ _ _ k)

pub loop-x-preserved : goal.loop-x-preserved
loop-x-preserved c =
    let k = c.requires.0 in
    let e = sym c.mark_of.ensures in
    elim c.if-mark_of-value.branch [
      | then-mark_of-value w ↦
          let t = w.tally-count in
          rw (w.marks-is, w.count-is)
          (edge_tallied _ _ _ k _ _ _ c.loop-x.invariant (omega arith) (e ∙ w.if-mark_of-value.true) _
          t.ensures.marks t.auto.marks _ t.ensures.value)
      | else-mark_of-value w ↦
          rw (w.marks-is, w.count-is)
          (edge_other _ _ _ k _ _ _ c.loop-x.invariant (omega arith) (λ q. w.if-mark_of-value.false (sym e ∙ q)))
    ]

pub returns : goal.returns
returns c =
    let k = c.requires.0 in
    set_count _ _ _ k (of edge) _ _ (edge_pass _ _ _ k) _ _ _ c.loop-x.invariant (omega arith)
