-- What the inner functions are lent and answer. They carry how many entries are used, not the head.
use Rattle.std.specs.Prelude.{◌≡◌, true, false, List, ℕ, ◌+◌, ◌*◌, ◌/◌, ◌≤◌, leb, length, Option, MatchOption}
use Rattle.table.specs.Limits.{words_per_entry, max_word, max_tape, max_entries}
use Rattle.table.specs.Refusals.{no_mark}
use Rattle.table.specs.Layout.{Table}
use Rattle.table.specs.Commands.{Command}
use Rattle.table.specs.Runs.{rule_leaves}
use Rattle.table.specs.Inner.{WithinCapacity, command_for}
use Rattle.table.specs.declared.Change.{Change}
use Rattle.tape.specs.Steps.{TapeCommand}
use Rattle.journal.specs.Entries.{Journal, Entry, entry_of, is_change, command_in}
use Rattle.journal.specs.Heads.{has_room, checkpoint_of, back_refusal}
use Rattle.journal.specs.Journaling.{Recorded, journal_rule}
use Rattle.journal.specs.declared.Head.{Head}

abbrev pub entry : (byte first second : ℕ) → Entry
entry c a b = record { byte = c; first = a; second = b }

abbrev pub recorded : Table → Journal → (used : ℕ) → Recorded
recorded w j n = record { table = w; journal = j; used = n }

-- what a journaled command leaves, accepted or refused
abbrev pub journaled_leaves : Recorded → TapeCommand → Recorded
journaled_leaves s c = rule_leaves journal_rule s c

-- what an entry is read as
abbrev pub Records : Entry → Option Change → Type 0
Records e r = MatchOption r (is_change e ≡ false) (λ c. (is_change e ≡ true) × (command_for c ≡ command_in e))

-- ROOM: r is how many entries there is room for
abbrev pub IsRoom : Journal → (r : ℕ) → Type 0
IsRoom j r = (n : ℕ) → has_room j n ≡ leb n r

-- entry n has words, which hold both operands of a command
pub record WritableChange (j : Journal) (n : ℕ) (c : Command) : Type 0 where
  pub words : words_per_entry * n + words_per_entry ≤ length j
  pub first : (entry_of c).first ≤ max_word
  pub second : (entry_of c).second ≤ max_word

-- A TABLE WITH ITS JOURNAL, of which the used entries lie in the words
pub record WithinJournal (w : Table) (j : Journal) (used : ℕ) : Type 0 where
  pub table : WithinCapacity w
  pub fits : has_room j used ≡ true

-- the same, and a tape whose commands a u32 can count
pub record Runnable (w : Table) (j : Journal) (used : ℕ) (tape : List ℕ) : Type 0 where
  pub within : WithinJournal w j used
  pub short : length tape ≤ max_tape

-- room for the entries of a ring's list
pub record RoomForCuts (j : Journal) (used : ℕ) (words : ℕ) : Type 0 where
  pub in_words : words_per_entry * (used + words / 2) ≤ length j
  pub in_limit : used + words / 2 ≤ max_entries

-- entries are undone from the last of the used ones down to number `to`: all used entries have words
pub record Undoable (w : Table) (j : Journal) (used to : ℕ) : Type 0 where
  pub table : WithinCapacity w
  pub words : words_per_entry * used ≤ length j
  pub low : to ≤ used

-- one of them, number n, has words
pub record EntryThere (w : Table) (j : Journal) (n : ℕ) : Type 0 where
  pub table : WithinCapacity w
  pub words : words_per_entry * n + words_per_entry ≤ length j

-- a checkpoint as it is read: none exactly where going back to it is refused
abbrev pub CheckpointRead : Head → (c : ℕ) → Option ℕ → Type 0
CheckpointRead h c r =
    MatchOption r (back_refusal h c ≡ no_mark) (λ n. (back_refusal h c ≡ 0) × (n ≡ checkpoint_of h c))
