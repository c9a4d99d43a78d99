-- A report on a table with its journal is accepted and adds no entry: what a machine that tapes play on has to show.
use Rattle.std.specs.Prelude.{◌≡◌, true, ℕ, ◌+◌}
use Rattle.std.proofs.Common.{arith}
use Rattle.table.specs.Refusals.{or_else, unless}
use Rattle.table.specs.Layout.{Table}
use Rattle.tape.specs.Steps.{reports}
use Rattle.journal.specs.Entries.{Journal, with_entries}
use Rattle.journal.specs.Heads.{has_room, room_refusal}
use Rattle.journal.specs.Journaling.{journaled_refusal, journaled_on}
use Rattle.journal.specs.Inner.{recorded}

module _ (w : Table) (j : Journal) (n : ℕ) where
  none_more : n + 0 ≡ n
  none_more = omega arith

  pub report_accepted : has_room j n ≡ true → journaled_refusal (recorded w j n) reports ≡ 0
  unfolding journaled_refusal room_refusal or_else unless
  report_accepted t = rw (none_more, t)

  pub report_adds_nothing : journaled_on (recorded w j n) reports ≡ recorded w j n
  unfolding with_entries
  report_adds_nothing = rw none_more
