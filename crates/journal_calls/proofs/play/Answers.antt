use Rattle.journal_calls.proofs.Replies.{play_long, play_bent}
use Rattle.journal_calls.proofs.play.Goals as goal

pub returns-in_err-judge_tape : goal.returns-in_err-judge_tape
returns-in_err-judge_tape c = play_long _ _ _ _ c.from_residual.ensures.1 c.in_err-judge_tape.ensures

pub returns-in_err-judge_state : goal.returns-in_err-judge_state
returns-in_err-judge_state c =
    play_bent _ _ c.in_ok-judge_tape.ensures _ _ c.from_residual-in_err-judge_state.ensures.1
    c.in_err-judge_state.ensures
