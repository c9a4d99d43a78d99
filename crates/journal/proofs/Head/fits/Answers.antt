use Rattle.std.proofs.Common.{rules, tests}
use Rattle.std.proofs.lemmas.Iterator.{YieldsList-from_slice}
use Rattle.std.proofs.lemmas.Iterator.Search.{all_from_yields_List}
use Rattle.lists.proofs.Ranges.{words_all}
use Rattle.journal.specs.Heads.{checkpoint_fits, head_fits}
use Rattle.journal.proofs.Head.fits.Goals as goal

pub returns : goal.returns
unfolding head_fits
returns c =
    let h = c.args.self.now in
    let r = all_from_yields_List (checkpoint_fits h.length) _ _ _ c.all.ensures.ran
    (YieldsList-from_slice h.checkpoints cc) (λ x b q k. search (rules, tests)) in
    rw (c.room_in.ensures h.length, r, words_all (checkpoint_fits h.length) h.checkpoints)
