use Rattle.std.proofs.Common.{◌+◌, ◌*◌, ◌∙◌, ap, rules, tests, arith}
use Rattle.std.specs.Option.{unwrap_or}
use Rattle.std.proofs.lemmas.Iterator.{YieldsList-from_range, YieldsList-from_map}
use Rattle.std.proofs.lemmas.Iterator.Consumers.{YieldsList-at, reduce_from_yields_List}
use Rattle.std.specs.Ordering.{nat_cmp, max_by_ordering}
use Rattle.tape.specs.Tapes.{number_at}
use Rattle.needs.proofs.Greatest.{greatest_found}
use Rattle.needs.proofs.named.greatest_number.Goals as goal

pub returns : goal.returns
returns c =
    let bs = c.args.tape.now in
    let n = c.args.n in
    greatest_found bs n _ (c.unwrap_or.ensures ∙ ap (λ r. unwrap_or r 0)
    (reduce_from_yields_List (λ p z. max_by_ordering (nat_cmp p z) p z) _ _ c.max.ensures.ran
    (YieldsList-from_map _ (λ k. number_at bs (2 + 2 * k))
    (YieldsList-at c.map.ensures.source (YieldsList-from_range 0 n n (cc) (omega arith)))
    c.map.ensures.closure (λ x r q k. search (rules, tests)))))
