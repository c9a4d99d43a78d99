use Rattle.std.proofs.Common.{drop}
use Rattle.table.specs.Inner.{kind_of}
use Rattle.rings.specs.Inner.{links_in}
use Rattle.rings.proofs.MarkingFirsts.{Firsts}
use Rattle.rings.proofs.first_darts.mark_firsts.Given as goal

abbrev pub invariant-loop-first : goal.invariant-loop-first
invariant-loop-first o l =
    Firsts l.table (kind_of l.orbit) (links_in l.links) (links_in (drop l.first-index l.links)) l.marks l.are_apart
