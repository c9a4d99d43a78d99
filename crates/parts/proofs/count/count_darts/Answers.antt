use Rattle.std.proofs.Common.{◌+◌, ltb, length, ap, ◌∙◌, rules, tests, arith}
use Rattle.std.proofs.lemmas.Iterator.{YieldsList-from_range}
use Rattle.std.proofs.lemmas.Iterator.Consumers.{YieldsList-at, YieldsList-from_filter, count_from_yields_List}
use Rattle.table.specs.Limits.{edge_next}
use Rattle.table.specs.Layout.{capacity, word_at}
use Rattle.parts.proofs.Counting.{darts_kept}
use Rattle.parts.proofs.count.count_darts.Goals as goal

pub returns : goal.returns
returns c =
    let w = c.args.table.now in
    count_from_yields_List _ _ c.count.ensures.ran
    (YieldsList-from_filter _ (λ x. ltb 0 (word_at w x edge_next))
    (YieldsList-at c.filter.ensures.source (YieldsList-from_range 1 (capacity w + 1) (capacity w) (cc) (omega arith)))
    c.filter.ensures.closure (λ x b q k. search (rules, tests))) ∙
    ap length (darts_kept w 1 (capacity w) (omega arith) (omega arith))
