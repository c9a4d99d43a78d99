use Rattle.std.proofs.Common.{drop}
use Rattle.rings.specs.Rings.{links_of}
use Rattle.rings.specs.Inner.{links_in}
use Rattle.rings.proofs.Cutting.{Cutting}
use Rattle.rings.proofs.cut.cut_along.Given as goal

abbrev pub invariant-loop-first : goal.invariant-loop-first
invariant-loop-first l =
    Cutting l.initial.table (links_of l.ring) (links_in (drop l.first-index l.links)) l.table
