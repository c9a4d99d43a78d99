use Rattle.std.proofs.Common.{sym, ◌∙◌, rules}
use borrow.Author.Rules.{part_to_end}
use Rattle.tape.specs.Steps.{step_rule}
use Rattle.tape.proofs.Playing.{nothing_left, something_left, first_fits, first_rest}
use Rattle.plan.proofs.Taking.{accepts, refuses}
use Rattle.plan.proofs.Writing.{writing_done, writing_done-table, writing_on, writing_refused}
use Rattle.plan.proofs.write_run.Goals as goal

pub slice_bounds-rest-count : goal.slice_bounds-rest-count
slice_bounds-rest-count g c =
    first_fits step_rule _ _ (sym c.in-Ok.ensures.value) _ c.in-Ok.ensures.first.1

pub slice_bounds-rest-start : goal.slice_bounds-rest-start
slice_bounds-rest-start g c = slice_bounds-rest-count g c

pub loop-rest-smaller : goal.loop-rest-smaller
loop-rest-smaller g c =
    first_rest step_rule _ _ (sym c.in-Ok.ensures.value) _ c.in-Ok.ensures.first.1
    (something_left _ _ c.is_empty.ensures c.loop-rest-test.true)

pub loop-rest-preserved : goal.loop-rest-preserved
loop-rest-preserved g c =
    let i = c.loop-rest.invariant in
    let some = something_left _ _ c.is_empty.ensures c.loop-rest-test.true in
    let a = accepts _ _ some _ _ c.in-Ok.ensures.first c.in-Ok.ensures.value _ c.in-Ok.ensures.state in
    (rw part_to_end (writing_on i.0 _ _ _ _ a c.in_ok-write_accepted-in-Ok.ensures), c.in-Ok.ensures.names ∙ i.1)

pub returns-in-Err-clause-lines : goal.returns-in-Err-clause-lines
returns-in-Err-clause-lines g c =
    let some = something_left _ _ c.is_empty.ensures c.loop-rest-test.true in
    writing_refused c.loop-rest.invariant.0 _ _ _ _
    (refuses _ _ some _ c.in-Err.ensures.value _ c.in-Err.ensures.state) c.write_refused.ensures

pub returns-in-Err-clause-table : goal.returns-in-Err-clause-table
returns-in-Err-clause-table g c =
    let i = c.loop-rest.invariant in
    let some = something_left _ _ c.is_empty.ensures c.loop-rest-test.true in
    let r = refuses _ _ some _ c.in-Err.ensures.value _ c.in-Err.ensures.state in
    let t = sym (i.0.table ∙ r.table) in
    search rules

pub returns-clause-lines : goal.returns-clause-lines
returns-clause-lines g c =
    writing_done c.loop-rest.invariant.0 (nothing_left _ _ c.is_empty.ensures c.loop-rest-test.false)

pub returns-clause-table : goal.returns-clause-table
returns-clause-table g c =
    writing_done-table c.loop-rest.invariant.0 (nothing_left _ _ c.is_empty.ensures c.loop-rest-test.false)
