use Rattle.table.specs.Layout.{capacity, hypermap_of}
use Rattle.table.specs.Inner.{dimension_of}
use Rattle.tape.specs.Tapes.{tape_bytes}
use Rattle.writer.specs.Canonical.{orbit_joins}
use Rattle.writer.proofs.Passing.{Passing, is_first}
use Rattle.writer.proofs.write.write_joins.Given as goal

abbrev pub invariant-loop-x : goal.invariant-loop-x
invariant-loop-x l =
    Passing (capacity l.table) (is_first l.table (dimension_of l.d))
    (λ x. tape_bytes (orbit_joins (hypermap_of l.table) (dimension_of l.d) x)) l.from l.initial.out l.out l.at l.x
