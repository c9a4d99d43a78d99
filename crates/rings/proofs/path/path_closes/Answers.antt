use Rattle.std.proofs.Common.{sym, ◌∙◌, [], arith}
use Rattle.std.proofs.lemmas.List.{drop_more, drop_all}
use Rattle.rings.proofs.Paths.{none_follow, follows_last, follows_mark, follows_stop, follows_on, follows_all}
use Rattle.rings.proofs.path.path_closes.Goals as goal

pub returns-in_default : goal.returns-in_default
returns-in_default c = sym (none_follow _ c.args.links.now c.in_default.ensures.value)

pub loop-first-init : goal.loop-first-init
loop-first-init c = follows_last _ _ _ _ c.requires c.in-Some.ensures.value

pub mark_of-requires : goal.mark_of-requires
mark_of-requires c =
    let more = drop_more c.args.links.now c.loop-first.first-index [] (omega arith) in
    follows_mark _ _ _ _ _ _ (rw more at c.loop-first.invariant) c.requires.marking

pub returns-then-mark_of-first : goal.returns-then-mark_of-first
returns-then-mark_of-first c =
    let more = drop_more c.args.links.now c.loop-first.first-index [] (omega arith) in
    sym (follows_stop _ _ _ _ _ _ (rw more at c.loop-first.invariant)
    (λ e. c.if-mark_of-first.true (c.mark_of.ensures ∙ e)))

pub loop-first-preserved : goal.loop-first-preserved
loop-first-preserved c =
    let more = drop_more c.args.links.now c.loop-first.first-index [] (omega arith) in
    follows_on _ _ _ _ _ _ (rw more at c.loop-first.invariant)
    (sym c.mark_of.ensures ∙ c.if-mark_of-first.false)

pub returns : goal.returns
returns c =
    let none = drop_all c.loop-first.first-index c.args.links.now (omega arith) in
    sym (follows_all _ _ _ _ (rw none at c.loop-first.invariant))
