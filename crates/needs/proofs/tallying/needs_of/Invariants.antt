use Rattle.std.proofs.Common.{length}
use Rattle.needs.proofs.Tallies.{Counting}
use Rattle.needs.proofs.tallying.needs_of.Given as goal

abbrev pub invariant-loop-rest : goal.invariant-loop-rest
invariant-loop-rest l = Counting l.tape l.rest l.tally

abbrev pub decreases-loop-rest : goal.decreases-loop-rest
decreases-loop-rest l = length l.rest
