use Rattle.std.proofs.Common.{◌≡◌, length}
use Rattle.table.specs.Limits.{checkpoint_count}
use Rattle.journal.specs.Heads.{kept_to}
use Rattle.journal.proofs.Dropping.{mapped_to}
use Rattle.journal.proofs.Head.cut_back.Given as goal

abbrev pub invariant-loop-checkpoint : goal.invariant-loop-checkpoint
invariant-loop-checkpoint l =
    (length l.initial.checkpoint-items ≡ checkpoint_count) ×
    (l.checkpoint-items ≡ mapped_to l.checkpoint-index (kept_to l.n) l.initial.checkpoint-items)
