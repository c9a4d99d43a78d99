-- Commands whose changes are written into a journal. Document 02, Job 5: "A journal in lent words keeps accepted
-- changes, a ring as its cuts"; 18 comes after the command's own refusals.
use Rattle.std.specs.Prelude.{List, [], ◌∷◌, ℕ, ◌+◌, length}
use Rattle.table.specs.Refusals.{or_else}
use Rattle.table.specs.Layout.{Table}
use Rattle.table.specs.Commands.{Command}
use Rattle.table.specs.Runs.{Rule}
use Rattle.rings.specs.Rings.{links_of, cuts_of}
use Rattle.tape.specs.Steps.{TapeCommand, changes, reports, cuts_ring, step_refusal, step_on}
use Rattle.journal.specs.Entries.{Journal, with_entries}
use Rattle.journal.specs.Heads.{room_refusal}

-- the changes that a command makes, and so its entries
abbrev pub changes_in : TapeCommand → List Command
changes_in (changes c) = c ∷ []
changes_in reports = []
changes_in (cuts_ring ws) = cuts_of (links_of ws)

-- a table with its journal, and how many entries of it are used
pub record Recorded : Type 0 where
  pub table : Table
  pub journal : Journal
  pub used : ℕ

unfoldable pub journaled_refusal : Recorded → TapeCommand → ℕ
journaled_refusal s c =
    or_else (step_refusal s.table c) (room_refusal s.journal s.used (length (changes_in c)))

abbrev pub journaled_on : Recorded → TapeCommand → Recorded
journaled_on s c =
    record {
      table = step_on s.table c;
      journal = with_entries s.journal s.used (changes_in c);
      used = s.used + length (changes_in c);
    }

-- so a journaled run is a run by this rule
abbrev pub journal_rule : Rule Recorded TapeCommand
journal_rule = record { refusal = journaled_refusal; on = journaled_on }
