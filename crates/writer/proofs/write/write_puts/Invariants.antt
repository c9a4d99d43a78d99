use Rattle.table.specs.Layout.{capacity, is_present}
use Rattle.table.specs.Commands.{puts}
use Rattle.tape.specs.Tapes.{bytes_of}
use Rattle.writer.proofs.Passing.{Passing}
use Rattle.writer.proofs.write.write_puts.Given as goal

abbrev pub invariant-loop-x : goal.invariant-loop-x
invariant-loop-x l =
    Passing (capacity l.table) (is_present l.table) (λ x. bytes_of (puts x)) 0 l.initial.out l.out l.at l.x
