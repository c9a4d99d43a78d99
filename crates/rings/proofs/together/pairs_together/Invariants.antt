use Rattle.std.proofs.Common.{◌≡◌, eqb, drop}
use Rattle.lists.specs.Lists.{all}
use Rattle.table.specs.Layout.{hypermap_of}
use Rattle.parts.specs.Marking.{mark_at}
use Rattle.rings.specs.Rings.{pairs_together}
use Rattle.rings.specs.Inner.{links_in}
use Rattle.rings.proofs.together.pairs_together.Given as goal

abbrev pub invariant-loop-first : goal.invariant-loop-first
invariant-loop-first l =
    pairs_together (hypermap_of l.table) (links_in l.links) ≡
    all (λ k. eqb (mark_at l.marks k.second) (mark_at l.marks k.first)) (links_in (drop l.first-index l.links))
