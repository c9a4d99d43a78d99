use Rattle.std.proofs.Common.{refl, sym, arith}
use Rattle.journal.proofs.Additions.{accepted_leaves, change_judged, change_within, change_room}
use Rattle.journal.proofs.Additions.{change_writable, change_written}
use Rattle.journal.proofs.Running.{left_within}
use Rattle.journal.proofs.machine.JournaledTableMachine.perform.Goals as goal

pub invariant_of-self : goal.invariant_of-self
invariant_of-self c =
    let p = c.perform_with.ensures in
    record { within = change_within _ _ _ _ _ _ c.judge_room-room.ensures p.value _ p.table c.args.self.now.within }

pub write_change-requires : goal.write_change-requires
write_change-requires c =
    let p = c.in_ok-perform_with.ensures in
    change_writable _ _ _ _ _ _ c.judge_room-room.ensures p.value _ p.table refl c.args.self.now.within

pub overflow_add-self : goal.overflow_add-self
overflow_add-self c =
    let p = c.in_ok-perform_with.ensures in
    omega (arith, (change_room _ _ _ _ _ _ c.judge_room-room.ensures p.value _ p.table refl).1)

pub invariant_of-self-2 : goal.invariant_of-self-2
invariant_of-self-2 c =
    let p = c.in_ok-perform_with.ensures in
    let r = c.judge_room-room.ensures in
    record {
      within =
          left_within _ _ c.args.self.now.within (sym (change_judged _ _ _ _ _ _ r p.value)) _
          (change_written _ _ _ _ _ _ r p.value _ p.table refl _ c.write_change.ensures);
    }

pub returns-clause-state : goal.returns-clause-state
returns-clause-state c =
    let p = c.in_ok-perform_with.ensures in
    let r = c.judge_room-room.ensures in
    accepted_leaves _ _ _ (change_judged _ _ _ _ _ _ r p.value) refl _
    (change_written _ _ _ _ _ _ r p.value _ p.table refl _ c.write_change.ensures)
