use Rattle.table.specs.Inner.{kind_of}
use Rattle.table.proofs.Walking.{Writes}
use Rattle.table.proofs.walk.write_orbit.Given as goal

abbrev pub invariant-loop-word : goal.invariant-loop-word
invariant-loop-word l =
    Writes l.table (kind_of l.orbit) l.x l.fn.out l.out l.at l.word-index
