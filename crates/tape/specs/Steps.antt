-- What a tape's commands do to a table that holds a hypermap, one at a time. Document 01, "Commands" and "Refusals": 1
-- and 2 are the caller's.
use Rattle.std.specs.Prelude.{List, ℕ}
use Rattle.table.specs.Layout.{Table}
use Rattle.table.specs.Commands.{Command, command_refusal, command_on}
use Rattle.table.specs.Runs.{Rule, rule_leaves}
use Rattle.rings.specs.Rings.{links_of, ring_refusal, cut_along}

pub data TapeCommand : Type 0 where
  changes : Command → TapeCommand
  reports : TapeCommand
  cuts_ring : (words : List ℕ) → TapeCommand

abbrev pub step_refusal : Table → TapeCommand → ℕ
step_refusal w (changes c) = command_refusal w c
step_refusal w reports = 0
step_refusal w (cuts_ring ws) = ring_refusal w ws

-- a report changes nothing
abbrev pub step_on : Table → TapeCommand → Table
step_on w (changes c) = command_on w c
step_on w reports = w
step_on w (cuts_ring ws) = cut_along (links_of ws) w

abbrev pub step_rule : Rule Table TapeCommand
step_rule = record { refusal = step_refusal; on = step_on }

abbrev pub step_leaves : Table → TapeCommand → Table
step_leaves w c = rule_leaves step_rule w c
