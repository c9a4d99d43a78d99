use Rattle.tape.proofs.Playing.{something_left}
use Rattle.needs.proofs.Tallies.{counting_refused}
use Rattle.needs.proofs.tallying.needs_of.Goals as goal

pub returns-in_err-instruction : goal.returns-in_err-instruction
returns-in_err-instruction c =
    counting_refused _ _ _ c.loop-rest.invariant (something_left _ _ c.is_empty.ensures c.loop-rest-test.true) _ _
    c.from_residual.ensures.1 c.in_err-instruction.ensures
