use Rattle.std.proofs.Common.{◌≡◌, rules, refl, sym, ap, ◌∙◌, arith}
use borrow.Author.Tests.{lt-ltb, le-ltb}
use Rattle.table.specs.Limits.{checkpoint_count}
use Rattle.journal.proofs.Dropping.{mapped_to, mapped_all, map_step}
use Rattle.journal.proofs.Head.cut_back.Goals as goal
use Rattle.journal.proofs.Head.cut_back.Goals.{then-n-checkpoint, else-n-checkpoint}

pub loop-checkpoint-init : goal.loop-checkpoint-init
unfolding mapped_to
loop-checkpoint-init c = (search rules, refl)

pub loop-checkpoint-preserved : goal.loop-checkpoint-preserved
loop-checkpoint-preserved c =
    let i = c.loop-checkpoint.invariant in (
      i.0,
      elim c.if-n-checkpoint.branch [
        | then-n-checkpoint w ↦
            map_step _ _ _ _ _ (omega (arith, i.0)) i.1 _ (rw (lt-ltb _ _ w.if-n-checkpoint.true))
            w.checkpoint-items-is
        | else-n-checkpoint w ↦
            map_step _ _ _ _ _ (omega (arith, i.0)) i.1 _ (rw (le-ltb _ _ w.if-n-checkpoint.false))
            w.checkpoint-items-is
      ],
    )

pub returns : goal.returns
returns c =
    let i = c.loop-checkpoint.invariant in
    let z : c.loop-checkpoint.checkpoint-index ≡ checkpoint_count = omega arith in
    ap (λ m. record { checkpoints = m; length = c.args.n }) (i.1 ∙ mapped_all _ _ _ (i.0 ∙ sym z))
