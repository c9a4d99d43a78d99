use Rattle.std.proofs.Common.{sym, arith}
use Rattle.table.proofs.Holding.{low}
use Rattle.parts.proofs.Marking.{fresh_marking, fresh_part, passed_other}
use Rattle.parts.proofs.LeastMarks.{least_pass, least_on, least_all}
use Rattle.parts.proofs.ComponentDarts.{component_parts}
use Rattle.parts.proofs.flood.mark_components.Goals as goal
use Rattle.parts.proofs.flood.mark_components.Goals.{then-is_fresh, else-is_fresh}

pub flood-requires : goal.flood-requires
flood-requires c =
    let q = least_pass _ _ (component_parts _ c.requires.hypermap) in
    let e = sym c.if-is_fresh.ensures in
    let m = fresh_marking _ _ q _ _ _ c.loop-x.invariant (omega arith) e c.requires.hypermap in
    record {
      low = low _ _ m.at.here;
      few = c.requires.room;
      marking = m;
      room = omega arith;
      unmarked = fresh_part _ _ q _ _ _ c.loop-x.invariant (omega arith) e;
    }

pub loop-x-preserved : goal.loop-x-preserved
loop-x-preserved c =
    let i = c.loop-x.invariant in
    let r = component_parts _ c.requires.hypermap in
    elim c.if-is_fresh.branch [
      | then-is_fresh w ↦
          rw (w.marks-is, w.count-is)
          (least_on _ _ r _ _ _ i (omega arith) (sym w.if-is_fresh.ensures) _ w.flood.auto.marks w.flood.ensures.marks)
      | else-is_fresh w ↦
          rw (w.marks-is, w.count-is)
          (passed_other _ _ (least_pass _ _ r) _ _ _ i (omega arith) (sym w.if-is_fresh.ensures))
    ]

pub returns : goal.returns
returns c =
    let r = component_parts _ c.requires.hypermap in
    let a = least_all _ _ r _ _ _ c.loop-x.invariant (omega arith) in
    record { value = a.0; marks = a.1 }
