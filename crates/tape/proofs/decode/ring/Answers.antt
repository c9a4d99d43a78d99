use Rattle.std.proofs.Common.{arith}
use Rattle.tape.specs.Tapes.{command_of, command_size, operand_sizes}
use Rattle.tape.proofs.Decoding.{ring_sized, torn_refusal, whole_refusal}
use Rattle.tape.proofs.decode.ring.Goals as goal

pub overflow_add-size : goal.overflow_add-size
unfolding command_size operand_sizes
overflow_add-size c = omega arith

pub returns-then-tape-size : goal.returns-then-tape-size
returns-then-tape-size c = torn_refusal (ring_sized c.requires (cc)) c.if-tape-size.true

pub returns : goal.returns
unfolding command_of
returns c =
    let s = ring_sized c.requires (cc) in
    (whole_refusal s c.if-tape-size.false, rw c.requires (cc), s.size)
