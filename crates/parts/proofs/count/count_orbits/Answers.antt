use Rattle.std.proofs.Common.{sym, ◌∙◌, arith, eq-eqb, ne_eqb}
use Rattle.table.specs.Inner.{kind_of}
use Rattle.parts.proofs.Marking.{passed_fresh, passed_other}
use Rattle.parts.proofs.MarkedSets.{raising_pass, set_none, set_count, raising_done}
use Rattle.parts.proofs.count.count_orbits.Goals as goal
use Rattle.parts.proofs.count.count_orbits.Goals.{then-mark_of-value, else-mark_of-value}

pub loop-x-init : goal.loop-x-init
loop-x-init c =
    let k = c.requires.0 in
    let o = kind_of c.args.orbit in
    set_none _ _ _ k o _ _ (raising_pass _ _ _ k o)

pub loop-x-preserved : goal.loop-x-preserved
loop-x-preserved c =
    let p = raising_pass _ _ _ c.requires.0 (kind_of c.args.orbit) in
    let e = sym c.mark_of.ensures in
    elim c.if-mark_of-value.branch [
      | then-mark_of-value w ↦
          rw (w.marks-is, w.count-is)
          (passed_fresh _ _ p _ _ _ c.loop-x.invariant (omega arith)
          (eq-eqb _ _ (e ∙ w.if-mark_of-value.true)) _ w.mark_orbit.auto.marks w.mark_orbit.ensures)
      | else-mark_of-value w ↦
          rw (w.marks-is, w.count-is)
          (passed_other _ _ p _ _ _ c.loop-x.invariant (omega arith)
          (ne_eqb _ _ (λ q. w.if-mark_of-value.false (sym e ∙ q))))
    ]

pub returns : goal.returns
returns c =
    let k = c.requires.0 in
    let o = kind_of c.args.orbit in
    let i = c.loop-x.invariant in
    record {
      value = set_count _ _ _ k o _ _ (raising_pass _ _ _ k o) _ _ _ i (omega arith);
      marks = raising_done _ _ _ k o _ _ _ i (omega arith);
    }
