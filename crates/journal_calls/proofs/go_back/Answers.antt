use Rattle.std.proofs.Common.{◌≡◌, ◌-◌, rules, sym, ap, ◌∙◌, arith}
use Rattle.tape.specs.Replies.{run_reply}
use Rattle.journal.specs.Heads.{cut_back}
use Rattle.journal_calls.proofs.Replies.{back_ready, back_bent, back_none, undone_few, went_back_to}
use Rattle.journal_calls.proofs.go_back.Goals as goal
use Rattle.journal_calls.proofs.go_back.Goals.{in-Ok, in-Ok-2}

pub returns-in_err-judge_state : goal.returns-in_err-judge_state
returns-in_err-judge_state c = back_bent _ _ _ _ c.from_residual.ensures.1 c.in_err-judge_state.ensures

pub returns-in_err-to : goal.returns-in_err-to
returns-in_err-to c =
    back_none _ _ c.in_ok-judge_state.ensures _ c.checkpoint.ensures _ c.in_err-to.ensures.value _
    c.from_residual-in_err-to.ensures.1

pub undo_back-went-requires : goal.undo_back-went-requires
undo_back-went-requires c =
    back_ready _ (sym c.in_ok-judge_state.ensures) _ _ (rw c.in_ok-to.ensures.ok_part at c.checkpoint.ensures)

pub overflow_sub-used : goal.overflow_sub-used
overflow_sub-used c =
    let few = undone_few _ _ c.in_ok-judge_state.ensures _ (rw c.in_ok-to.ensures.ok_part at c.checkpoint.ensures) _ _
    c.undo_back-went.ensures.value c.undo_back-went.ensures.table in
    let u : (run_reply c.undo_back-went.result).accepted ≡ c.match-went.undone =
    elim c.match-went.branch [ in-Ok w ↦ search rules | in-Ok-2 w ↦ search rules ] in
    omega (arith, few, u)

pub returns : goal.returns
returns c =
    let u : (run_reply c.undo_back-went.result).accepted ≡ c.match-went.undone =
    elim c.match-went.branch [ in-Ok w ↦ search rules | in-Ok-2 w ↦ search rules ] in
    went_back_to _ _ c.in_ok-judge_state.ensures _ (rw c.in_ok-to.ensures.ok_part at c.checkpoint.ensures) _ _
    c.undo_back-went.ensures.value c.undo_back-went.ensures.table _
    (c.cut_back.ensures ∙ ap (λ n. cut_back (c.args.head.now.length - n) c.args.head.now) (sym u))
