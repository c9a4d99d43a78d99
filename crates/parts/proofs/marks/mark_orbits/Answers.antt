use Rattle.std.proofs.Common.{sym, arith}
use Rattle.table.specs.Inner.{kind_of}
use Rattle.parts.proofs.Marking.{passed_other}
use Rattle.parts.proofs.LeastMarks.{least_pass, least_on, least_all}
use Rattle.parts.proofs.Walking.{orbit_parts}
use Rattle.parts.proofs.marks.mark_orbits.Goals as goal
use Rattle.parts.proofs.marks.mark_orbits.Goals.{then-is_fresh, else-is_fresh}

pub loop-x-preserved : goal.loop-x-preserved
loop-x-preserved c =
    let r = orbit_parts _ c.requires.hypermap (kind_of c.args.orbit) in
    let i = c.loop-x.invariant in
    elim c.if-is_fresh.branch [
      | then-is_fresh w ↦
          rw (w.marks-is, w.count-is)
          (least_on _ _ r _ _ _ i (omega arith) (sym w.if-is_fresh.ensures) _ w.mark_orbit.auto.marks
          w.mark_orbit.ensures)
      | else-is_fresh w ↦
          rw (w.marks-is, w.count-is)
          (passed_other _ _ (least_pass _ _ r) _ _ _ i (omega arith) (sym w.if-is_fresh.ensures))
    ]

pub returns : goal.returns
returns c =
    let r = orbit_parts _ c.requires.hypermap (kind_of c.args.orbit) in
    let a = least_all _ _ r _ _ _ c.loop-x.invariant (omega arith) in
    record { value = a.0; marks = a.1 }
