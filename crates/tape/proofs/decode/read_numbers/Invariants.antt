use Rattle.tape.proofs.Decoding.{Fills}
use Rattle.tape.proofs.decode.read_numbers.Given as goal

abbrev pub invariant-loop-k : goal.invariant-loop-k
invariant-loop-k l = Fills l.tape l.from l.initial.words l.words l.k
