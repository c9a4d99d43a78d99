use Rattle.std.proofs.Common.{arith}
use Rattle.tape.proofs.Decoding.{fills_on}
use Rattle.tape.proofs.decode.read_numbers.Goals as goal

pub loop-k-preserved : goal.loop-k-preserved
loop-k-preserved c = fills_on c.loop-k.invariant (omega arith) c.number_at.ensures
