use Rattle.std.proofs.Common.{rules}
use Rattle.journal.proofs.CheckpointReads.{read_kept}
use Rattle.journal.proofs.Head.checkpoint.Goals as goal

pub returns : goal.returns
returns c =
    read_kept _ _ _ _ _ (search rules) (rw c.to_usize.ensures at c.get.ensures.lookup) (λ x b k. search rules)
    (rw c.copied.ensures at c.filter.ensures)
