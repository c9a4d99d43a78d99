use Rattle.std.proofs.Common.{◌≡◌, drop}
use Rattle.hypermap.specs.Ring.{pairs_differ}
use Rattle.rings.specs.Inner.{links_in}
use Rattle.rings.proofs.list.pairs_differ.Given as goal

abbrev pub invariant-loop-first : goal.invariant-loop-first
invariant-loop-first l = pairs_differ (links_in l.links) ≡ pairs_differ (links_in (drop l.first-index l.links))
