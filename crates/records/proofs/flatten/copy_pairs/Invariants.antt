use Rattle.std.proofs.Common.{◌≡◌, map, take}
use Rattle.records.proofs.Words.{pair_of}
use Rattle.records.proofs.flatten.copy_pairs.Given as goal

abbrev pub invariant-loop-link : goal.invariant-loop-link
invariant-loop-link l = l.pairs.items ≡ map pair_of (take l.link-index l.link-items)
