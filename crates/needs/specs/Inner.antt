-- What is counted of a tape command by command.
use Rattle.std.specs.Prelude.{ℕ, ◌+◌, ◌*◌, ◌-◌, ◌≤◌}
use Rattle.table.specs.Limits.{max_tape}
use Rattle.tape.specs.Steps.{TapeCommand}
use Rattle.needs.specs.Amounts.{named_by, larger, greatest, puts_by, take_outs_by, changes_by}
use Rattle.needs.specs.declared.Tally.{Tally}

-- the peak so far, and how far puts less take-outs lie below it: by one more put, it is a new peak or one less below
abbrev pub peak_after : (peak below : ℕ) → TapeCommand → ℕ
peak_after p b c = p + (puts_by c - b)

abbrev pub below_after : (below : ℕ) → TapeCommand → ℕ
below_after b c = b + take_outs_by c - puts_by c

abbrev pub added : Tally → TapeCommand → Tally
added t c = record {
  capacity = larger t.capacity (greatest (named_by c));
  commands = t.commands + 1;
  peak = peak_after t.peak t.below c;
  below = below_after t.below c;
  changes = t.changes + changes_by c;
}

-- one more command, which names numbers up to g and makes n changes; without its part in the peak
abbrev pub one_more : Tally → (g n : ℕ) → Tally
one_more t g n =
    record t { capacity = larger t.capacity g; commands = t.commands + 1; changes = t.changes + n }

-- the counts of a tape that is not too long. Not a ghost field of Tally: of counts at their bounds one more command
-- makes counts above them, and only the loop over the tape shows that none gets there. It was tried besides: `..self`
-- is refused where a struct has a ghost field
pub record Countable (t : Tally) : Type 0 where
  pub commands : t.commands ≤ max_tape
  pub peak : t.peak ≤ max_tape
  pub below : t.below ≤ max_tape
  pub changes : t.changes ≤ 255 * max_tape
