use Rattle.std.proofs.Common.{[], arith}
use Rattle.std.proofs.lemmas.List.{drop_more, drop_all}
use Rattle.rings.proofs.Cutting.{cutting_none, cutting_here, cutting_on, cutting_all}
use Rattle.rings.proofs.cut.cut_along.Goals as goal

pub loop-first-init : goal.loop-first-init
loop-first-init c = cutting_none _ _ _ c.requires c.as_chunks.ensures.front

pub swap-requires : goal.swap-requires
swap-requires c =
    let more = drop_more c.as_chunks.result.0.now c.loop-first.first-index [] (omega arith) in
    cutting_here _ _ _ _ _ (rw more at c.loop-first.invariant)

pub loop-first-preserved : goal.loop-first-preserved
loop-first-preserved c =
    let more = drop_more c.as_chunks.result.0.now c.loop-first.first-index [] (omega arith) in
    cutting_on _ _ _ _ _ (rw more at c.loop-first.invariant) _ c.swap.ensures

pub returns : goal.returns
returns c =
    let none = drop_all c.loop-first.first-index c.as_chunks.result.0.now (omega arith) in
    cutting_all _ _ _ (rw none at c.loop-first.invariant)
