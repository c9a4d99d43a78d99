use Rattle.std.proofs.Common.{arith}
use Rattle.table.specs.Limits.{max_capacity}
use Rattle.parts.proofs.FloodEnds.{unmarked_zeros, flooded_test}
use Rattle.parts.proofs.flood.same_component.Goals as goal

pub flood-requires : goal.flood-requires
flood-requires c =
    let p = c.requires in
    unmarked_zeros _ _ _ (record { hypermap = p.both.hypermap; here = p.both.first }) (omega arith) max_capacity
    p.room p.room

pub returns : goal.returns
returns c =
    let p = c.requires in
    rw c.mark_of.ensures
    (flooded_test _ _ _ (record { hypermap = p.both.hypermap; here = p.both.first }) (omega arith) max_capacity
    p.room p.room
    _ _ p.both.second c.flood.ensures.marks)
