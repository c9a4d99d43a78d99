use Rattle.std.proofs.Common.{sym, ◌∙◌, [], eq-eqb, arith}
use Rattle.std.proofs.lemmas.List.{drop_more}
use Rattle.rings.proofs.Asking.{asking_on}
use Rattle.rings.proofs.together.pairs_together.Goals as goal

pub loop-first-preserved : goal.loop-first-preserved
loop-first-preserved c =
    let more = drop_more c.args.links.now c.loop-first.first-index [] (omega arith) in
    asking_on _ _ _ _ (rw more at c.loop-first.invariant)
    (eq-eqb _ _ (sym c.mark_of.ensures ∙ c.if-mark_of.false ∙ c.mark_of-in-loop-first.ensures))
