use mathlib.Core.Path.{sym, ◌∙◌}
use native.Mathlib.Omega.{arith}
use borrow.Author.Tests.{ltb-true}
use Rattle.table.proofs.Holding.{present_from}
use Rattle.writer.proofs.Passing.{passing_room, passing_all, all_puts}
use Rattle.writer.proofs.write.write_puts.Goals as goal

pub write_bytes-at-requires : goal.write_bytes-at-requires
write_bytes-at-requires c =
    rw c.put_bytes.ensures (passing_room _ _ _ _ _ _ _ _ c.loop-x.invariant (omega arith)
    (present_from _ _ c.loop-x.invariant.low (omega arith)
    (ltb-true 0 _ (rw c.into.ensures at (sym c.is_dart.ensures ∙ c.if-is_dart.true)))))

pub returns : goal.returns
returns c =
    rw all_puts (passing_all _ _ _ _ _ _ _ _ c.loop-x.invariant (omega arith))
