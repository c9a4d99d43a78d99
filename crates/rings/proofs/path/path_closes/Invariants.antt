use Rattle.std.proofs.Common.{drop}
use Rattle.rings.specs.Inner.{links_in}
use Rattle.rings.proofs.Paths.{Follows}
use Rattle.rings.proofs.path.path_closes.Given as goal

abbrev pub invariant-loop-first : goal.invariant-loop-first
invariant-loop-first l =
    Follows l.table l.marks (links_in l.links) l.before (links_in (drop l.first-index l.links))
