use Rattle.std.proofs.Common.{◌∙◌, ◌+◌, rules, tests, arith}
use Rattle.std.proofs.lemmas.Iterator.{YieldsList-from_range}
use Rattle.std.proofs.lemmas.Iterator.Search.{all_from_yields_List}
use Rattle.table.specs.Layout.{capacity}
use Rattle.table.specs.Inner.{half_fits}
use Rattle.table.proofs.HalfTest.{half_holds}
use Rattle.table.proofs.hypermap_test.holds_hypermap.Goals as goal

pub returns : goal.returns
returns c =
    let w = c.args.table.now in
    all_from_yields_List (half_fits w) _ _ _ c.all.ensures.ran
    (YieldsList-from_range 1 (capacity w + 1) (capacity w) (cc) (omega arith)) (λ x b q k. search (rules, tests)) ∙
    half_holds w
