-- The stages of the judgement of a ring: each refusal opened to its stages, with the lemmas that the steps of the code
-- are proved by.
use Rattle.std.specs.Bool.{⊤}
use Rattle.table.specs.Commands.{presence_refusal}
use Rattle.table.proofs.Stages.{stage_stop, stage_on, all_present}
use Rattle.table.proofs.Replying.{fails, holds, goes_on}
use Rattle.parts.proofs.Counting.{zeros_length}
use Rattle.rings.specs.Rings.{condition_refusal, ring_refusal}
use Rattle.rings.proofs.Asking.{asking}
use Rattle.rings.proofs.Links.{chunks_links, links_present}

-- the refusals of the words of a list, of the conditions on its double-links and of a ring, opened by one name
unfoldable pub definitions : ⊤
unfolding presence_refusal condition_refusal ring_refusal
definitions = tt

pub ruleset word_stages = (asking, stage_stop, stage_on, fails, holds)

pub ruleset condition_stages = (stage_stop, stage_on, fails, holds)

pub ruleset ring_stages = (stage_stop, stage_on, goes_on, all_present, links_present, chunks_links, zeros_length)
