use Rattle.std.specs.Prelude.{length}
use Rattle.std.specs.Io.KnownBytes.{Keeps}
use Rattle.plan.specs.Buffers.{held, written}
use Rattle.plan.proofs.buffered.BufferedWrite.flush.Given as goal

abbrev pub invariant-loop-self : goal.invariant-loop-self
invariant-loop-self g l = Keeps (written g.W.Write.contents l.initial.self) (written g.W.Write.contents l.self)

abbrev pub decreases-loop-self : goal.decreases-loop-self
decreases-loop-self g l = length (held l.self)
