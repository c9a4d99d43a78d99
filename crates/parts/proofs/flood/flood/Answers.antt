use Rattle.std.proofs.Common.{sym, ◌∙◌, arith}
use Rattle.parts.proofs.Flooding.{first_asks, first_done, head_mark, head_old, head_asks, head_new}
use Rattle.parts.proofs.FloodEnds.{count_few}
use Rattle.parts.proofs.FloodEnds.{flooded_all}
use Rattle.parts.proofs.flood.flood.Goals as goal
use Rattle.parts.proofs.flood.flood.Goals.{then-mark_of-eq0, else-mark_of-eq0}

pub enter-tail-requires : goal.enter-tail-requires
enter-tail-requires c = let d = c.requires in first_asks _ _ _ d.marking.at d.low _ _ d

pub loop-head-init : goal.loop-head-init
loop-head-init c =
    let d = c.requires in
    first_done _ _ _ d.marking.at d.low _ _ d _ c.enter-tail.ensures c.enter-tail.auto.marks c.enter-tail.auto.queue

pub mark_of-requires : goal.mark_of-requires
mark_of-requires c =
    head_mark _ _ _ c.requires.marking.at c.requires.low _ _ _ _ c.loop-head.invariant (omega arith)

pub enter-tail-requires-then-mark_of-eq0 : goal.enter-tail-requires-then-mark_of-eq0
enter-tail-requires-then-mark_of-eq0 c =
    head_asks _ _ _ c.requires.marking.at c.requires.low _ _ _ _ c.loop-head.invariant (omega arith)
    (sym c.mark_of.ensures ∙ c.if-mark_of-eq0.true)

pub overflow_add-count : goal.overflow_add-count
overflow_add-count c =
    let p = c.requires in
    let f = count_few _ _ _ p.marking.at p.low c.loop-head.marks _ p.few c.loop-head.invariant.counted in
    record { fits = omega arith }

pub loop-head-preserved : goal.loop-head-preserved
loop-head-preserved c =
    let p = c.requires in
    let e = c.mark_of.ensures in
    elim c.if-mark_of-eq0.branch [
      | then-mark_of-eq0 w ↦
          let n = w.enter-tail-then-mark_of-eq0 in
          rw (w.marks-is, w.queue-is, w.tail-is, w.count-is)
          (head_new _ _ _ p.marking.at p.low _ _ _ _ c.loop-head.invariant (omega arith)
          (sym e ∙ w.if-mark_of-eq0.true) _ n.ensures n.auto.marks n.auto.queue)
      | else-mark_of-eq0 w ↦
          rw (w.marks-is, w.queue-is, w.tail-is, w.count-is)
          (head_old _ _ _ p.marking.at p.low _ _ _ _ c.loop-head.invariant (omega arith)
          (rw e at w.if-mark_of-eq0.false))
    ]

pub returns : goal.returns
returns c =
    let a = flooded_all _ _ _ c.requires.marking.at c.requires.low _ _ _ _ c.loop-head.invariant (omega arith) in
    record { value = a.0; marks = a.1 }
