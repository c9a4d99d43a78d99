use Rattle.table.proofs.Stages.{stage_on}
use Rattle.table.proofs.Replying.{stops}
use Rattle.rings.specs.Rings.{ring_refusal}
use Rattle.rings.proofs.rules.judge_ring.Goals as goal

pub returns-in_err-judge_words : goal.returns-in_err-judge_words
unfolding ring_refusal
returns-in_err-judge_words c =
    stage_on _ _ _ _ _ c.is_list.ensures c.if-not-is_list.false
    (stops _ _ _ _ c.from_residual.ensures.1 c.in_err-judge_words.ensures)
