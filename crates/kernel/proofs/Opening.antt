-- What the check tries by itself on a public call: its definitions, opened, and what has passed that is not refused.
use Rattle.std.specs.Bool.{⊤}
use lib.Seq.{length-take-le}
use Rattle.table.specs.Refusals.{or_else, unless}
use Rattle.table.specs.Commands.{leaves}
use Rattle.table.proofs.Stages.{stages}
use Rattle.table.proofs.Reading.{reads}
use Rattle.rings.specs.Rings.{ring_leaves}
use Rattle.writer.specs.Inner.{written_of, written_leaves}
use Rattle.soundness.proofs.Passing.{passing}
use Rattle.kernel.specs.Calls.{call_refusal, call_leaves, ring_call_refusal, ring_call_leaves, report_on}
use Rattle.kernel.specs.Calls.{question_refusal, answer, same_answer, list_refusal, list_leaves, list_answer, look_of}
use Rattle.kernel.specs.Calls.{look_place}
use Rattle.kernel.specs.Tapes.{play_refusal, play_outcome, needs_answer, screen_refusal, screen_leaves, empty_table}
use Rattle.kernel.proofs.Judging.{dart_judged, darts_judged, marks_many, no_steps}

-- the definitions of the public calls, opened by one name
unfoldable pub definitions : ⊤
unfolding call_refusal call_leaves ring_call_refusal ring_call_leaves ring_leaves report_on question_refusal answer
    same_answer list_refusal list_leaves list_answer look_of look_place play_refusal play_outcome needs_answer
    written_of written_leaves screen_refusal screen_leaves empty_table or_else unless leaves
definitions = tt

pub ruleset calls = (length-take-le, stages, reads, passing, dart_judged, darts_judged, marks_many, no_steps)
