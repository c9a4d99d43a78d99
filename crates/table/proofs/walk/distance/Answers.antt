use Rattle.std.proofs.Common.{arith}
use Rattle.table.proofs.Meeting.{turns_first, turns_met, turns_few, back_here}
use Rattle.table.proofs.Meeting.{half_home, half_met, turn_home, turns_on}
use Rattle.table.proofs.walk.distance.Goals as goal

pub loop-x-init : goal.loop-x-init
loop-x-init c = turns_first

pub returns-then-x-y : goal.returns-then-x-y
returns-then-x-y c = turns_met c.requires c.loop-x.invariant c.if-x-y.true

pub step-y-requires : goal.step-y-requires
step-y-requires c = back_here c.requires c.loop-x.invariant

pub returns-then-y-b : goal.returns-then-y-b
returns-then-y-b c =
    half_home c.requires c.loop-x.invariant c.if-x-y.false c.step-y.ensures c.if-y-b.true

pub overflow_add-result : goal.overflow_add-result
overflow_add-result c =
    let f = turns_few c.requires c.loop-x.invariant in omega arith

pub returns-then-x-y-2 : goal.returns-then-x-y-2
returns-then-x-y-2 c =
    half_met c.requires c.loop-x.invariant c.if-x-y.false c.step-y.ensures c.if-x-y-2.true

pub returns-then-x-a : goal.returns-then-x-a
returns-then-x-a c =
    turn_home c.requires c.loop-x.invariant c.if-x-y.false c.step-y.ensures
    c.if-x-y-2.false c.step-x.ensures c.if-x-a.true

pub overflow_add-walked : goal.overflow_add-walked
overflow_add-walked c =
    let f = turns_few c.requires c.loop-x.invariant in
    omega arith

pub loop-x-preserved : goal.loop-x-preserved
loop-x-preserved c =
    turns_on c.requires c.loop-x.invariant c.if-x-y.false c.step-y.ensures
    c.if-x-y-2.false c.step-x.ensures c.if-x-a.false
