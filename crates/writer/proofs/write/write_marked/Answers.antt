use mathlib.Core.Path.{◌≡◌}
use native.Mathlib.Omega.{arith}
use lib.ListN.{length}
use Rattle.writer.specs.Canonical.{tape_of}
use Rattle.writer.proofs.WholeTape.{counts_few, size_by_counts, short_buffer, puts_room, edges_room, vertices_room}
use Rattle.writer.proofs.WholeTape.{tape_laid}
use Rattle.writer.proofs.write.write_marked.Goals as goal
use Rattle.writer.proofs.write.write_marked.Goals.{After-tape_size-size}

size : (c : After-tape_size-size) → c.tape_size-size.result ≡ length (tape_of c.args.table.now)
size c =
    size_by_counts _ c.requires.table c.count_darts-darts.ensures c.mark_orbits-edges.ensures.value
    c.mark_orbits-vertices.ensures.value c.tape_size-size.ensures

pub tape_size-size-requires : goal.tape_size-size-requires
tape_size-size-requires c =
    counts_few _ c.requires.table c.count_darts-darts.ensures c.mark_orbits-edges.ensures.value
    c.mark_orbits-vertices.ensures.value

pub returns-then-out-size : goal.returns-then-out-size
returns-then-out-size c =
    let h = short_buffer _ _ (size (goal.at.returns-then-out-size c).After-tape_size-size) (omega arith) in
    record { value = h.0; out = h.1 }

pub write_puts-puts-requires : goal.write_puts-puts-requires
write_puts-puts-requires c =
    let s = size (goal.at.write_puts-puts-requires c).After-tape_size-size in
    (c.requires.table, puts_room _ _ s (omega arith))

pub write_joins-joins-requires : goal.write_joins-joins-requires
write_joins-joins-requires c =
    let s = size (goal.at.write_joins-joins-requires c).After-tape_size-size in
    record {
      table = c.requires.table;
      marked = c.mark_orbits-edges.ensures.marks;
      room = edges_room _ _ s (omega arith) c.write_puts-puts.ensures (omega arith);
    }

pub write_joins-requires : goal.write_joins-requires
write_joins-requires c =
    let s = size (goal.at.write_joins-requires c).After-tape_size-size in
    record {
      table = c.requires.table;
      marked = c.mark_orbits-vertices.ensures.marks;
      room = vertices_room _ _ s (omega arith) c.write_puts-puts.ensures c.write_joins-joins.ensures (omega arith);
    }

pub returns : goal.returns
returns c =
    let s = size (goal.at.returns c).After-tape_size-size in
    let h = tape_laid _ _ s (omega arith) c.write_puts-puts.ensures c.write_joins-joins.ensures
    c.write_joins.ensures in
    record { value = h.0; out = h.1 }
