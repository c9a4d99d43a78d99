use Rattle.std.proofs.Common.{refl, sym, arith}
use Rattle.parts.proofs.Marking.{fresh_marking, fresh_part}
use Rattle.parts.proofs.FloodingAll.{all_pass, all_none, all_other, all_fresh, all_few, all_counts, all_part_marked}
use Rattle.parts.proofs.FloodingAll.{all_skip}
use Rattle.parts.proofs.count.flood_all.Goals as goal

pub loop-queue-init : goal.loop-queue-init
loop-queue-init c = all_none _ c.requires.0 _ c.requires.1

pub flood-requires : goal.flood-requires
flood-requires c =
    let s = c.requires.0 in
    let q = all_pass _ s in
    let i = c.loop-queue.invariant.passed in
    let e = sym c.if-is_fresh.ensures in
    record {
      low = omega arith;
      few = s.room;
      marking = fresh_marking _ _ q _ _ _ i (omega arith) e s.hypermap;
      room = omega (arith, i.size);
      unmarked = fresh_part _ _ q _ _ _ i (omega arith) e;
    }

pub overflow_add-found : goal.overflow_add-found
overflow_add-found c =
    let few = all_few _ c.requires.0 _ _ _ _ _ (all_fresh _ c.requires.0 _ _ _ _ _ c.loop-queue.invariant (omega arith)
    (sym c.if-is_fresh.ensures) _ c.flood.auto.marks c.flood.ensures.marks _ _ refl c.flood.ensures.value) in
    record { fits = omega (arith, few.1) }

pub overflow_add-found-then-is_fresh : goal.overflow_add-found-then-is_fresh
overflow_add-found-then-is_fresh c =
    let few = all_few _ c.requires.0 _ _ _ _ _ (all_fresh _ c.requires.0 _ _ _ _ _ c.loop-queue.invariant (omega arith)
    (sym c.if-is_fresh.ensures) _ c.flood.auto.marks c.flood.ensures.marks _ _ c.component_lifts.ensures refl) in
    record { fits = omega (arith, few.0) }

pub loop-queue-preserved-then-is_fresh : goal.loop-queue-preserved-then-is_fresh
loop-queue-preserved-then-is_fresh c =
    all_skip _ c.requires.0 _ _ _ _ _ _ _ c.capacity_of-n.ensures c.skip_marked-next.ensures
    (all_fresh _ c.requires.0 _ _ _ _ _ c.loop-queue.invariant (omega arith)
    (sym c.if-is_fresh.ensures) _ c.flood.auto.marks c.flood.ensures.marks
    _ _ c.component_lifts.ensures c.flood.ensures.value)

pub loop-queue-preserved : goal.loop-queue-preserved
loop-queue-preserved c =
    all_other _ c.requires.0 _ _ _ _ _ c.loop-queue.invariant (omega arith)
    (sym c.if-is_fresh.ensures)

pub returns : goal.returns
returns c =
    let p = c.requires in
    let i = c.loop-queue.invariant in
    record {
      value = all_counts _ p.0 _ _ _ _ _ i (omega arith);
      marks = rw p.1 (all_part_marked _ p.0 _ _ _ _ _ i (omega arith));
    }
