use mathlib.Core.Path.{◌∙◌}
use native.Mathlib.Omega.{arith}
use borrow.Author.Tests.{eq-eqb}
use Rattle.lists.proofs.Bools.{and_left}
use Rattle.table.specs.Inner.{dimension_of}
use Rattle.writer.proofs.Passing.{passing_room, passing_all, all_joins, first_test}
use Rattle.writer.proofs.write.write_joins.Goals as goal

pub write_orbit_joins-at-requires : goal.write_orbit_joins-at-requires
write_orbit_joins-at-requires c =
    let t = first_test _ (dimension_of c.args.d) _ _ _ c.loop-x.invariant.low (omega arith) c.requires.marked
    c.mark_of.ensures ∙ eq-eqb _ _ c.if-mark_of-x.true in
    record {
      dart = record { hypermap = c.requires.table.hypermap; here = and_left _ _ t };
      room = passing_room _ _ _ _ _ _ _ _ c.loop-x.invariant (omega arith) t;
    }

pub returns : goal.returns
returns c =
    rw all_joins (passing_all _ _ _ _ _ _ _ _ c.loop-x.invariant (omega arith))
