use Rattle.std.proofs.Common.{[], arith}
use Rattle.std.proofs.lemmas.List.{drop_more, drop_all}
use Rattle.rings.proofs.Links.{chunks_links}
use Rattle.journal.proofs.CutEntries.{none_written, one_written, all_written}
use Rattle.journal.proofs.machine.write_cuts.Goals as goal

pub loop-first-init : goal.loop-first-init
loop-first-init c = rw (c.as_chunks.ensures.front, chunks_links c.args.ring.now) (none_written _ _ _)

pub loop-first-preserved : goal.loop-first-preserved
loop-first-preserved c =
    let more = drop_more c.as_chunks.result.0.now c.loop-first.first-index [] (omega arith) in
    one_written _ _ _ _ _ _ _ (rw more at c.loop-first.invariant) _ c.write.ensures

pub returns : goal.returns
returns c =
    let none = drop_all c.loop-first.first-index c.as_chunks.result.0.now (omega arith) in
    all_written _ _ _ _ _ (rw none at c.loop-first.invariant)
