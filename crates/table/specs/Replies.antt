-- The code's refusals, and what stands for them in the definitions: the published number of each, and 0 where a call is
-- accepted.
use Rattle.std.specs.Prelude.{ℕ, Result, Ok, Err}
use Rattle.table.specs.Refusals.{wrong_size, bent_table, off_the_table, no_tab, tab_taken, tab_held, together, apart}
use Rattle.table.specs.Refusals.{same_tab, no_list, tie_twice, gap_twice, path_broken, short_room, unknown_command}
use Rattle.table.specs.Refusals.{torn_command, undo_unfit, journal_full, no_mark}
use Rattle.table.specs.declared.refusals.Refusal.{Refusal}
use Rattle.table.specs.declared.refusals.Refusal.TheVariants as refusal

abbrev pub number : Refusal → ℕ
number refusal.WrongSize = wrong_size
number refusal.BentTable = bent_table
number refusal.OffTheTable = off_the_table
number refusal.NoTab = no_tab
number refusal.TabTaken = tab_taken
number refusal.TabHeld = tab_held
number refusal.Together = together
number refusal.Apart = apart
number refusal.SameTab = same_tab
number refusal.NoList = no_list
number refusal.TieTwice = tie_twice
number refusal.GapTwice = gap_twice
number refusal.PathBroken = path_broken
number refusal.ShortRoom = short_room
number refusal.UnknownCommand = unknown_command
number refusal.TornCommand = torn_command
number refusal.UndoUnfit = undo_unfit
number refusal.JournalFull = journal_full
number refusal.NoMark = no_mark

-- what a call replies
abbrev pub reply : {A : Type 0} → Result A Refusal → ℕ
reply (Ok x) = 0
reply (Err r) = number r
