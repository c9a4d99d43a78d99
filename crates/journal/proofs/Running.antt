-- What an accepted command keeps of a table with its journal: it is within the capacity, and the journal has the used
-- entries.
use mathlib.Core.Path.{◌≡◌}
use Prim.Native.Nat.{ℕ, ◌+◌}
use native.Mathlib.Omega.{arith}
use lib.ListN.{length}
use Rattle.table.specs.Refusals.{journal_full, unless}
use Rattle.table.specs.Layout.{Table}
use Rattle.table.proofs.Stages.{passed, fitting}
use Rattle.tape.specs.Steps.{TapeCommand, step_refusal, step_on}
use Rattle.tape.proofs.Running.{step_holds}
use Rattle.journal.specs.Entries.{Journal}
use Rattle.journal.specs.Heads.{has_room, room_refusal}
use Rattle.journal.specs.Journaling.{Recorded, changes_in, journaled_refusal, journaled_on}
use Rattle.journal.specs.Inner.{WithinJournal}
use Rattle.journal.proofs.EntryWords.{entries_length}
use Rattle.journal.proofs.Room.{room_known, room_from}

-- the table of an accepted command, before its changes are written
pub made_within :
    (w : Table) (j : Journal) (used : ℕ) (c : TapeCommand) → WithinJournal w j used → step_refusal w c ≡ 0 →
    WithinJournal (step_on w c) j used
made_within w j used c h e =
    let i = step_holds w c h.table.hypermap e in
    record { table = record { hypermap = i.0; room = rw i.1 h.table.room }; fits = h.fits }

-- and after
abbrev pub Within : Recorded → Type 0
Within s = WithinJournal s.table s.journal s.used

pub accepted_within :
    (s : Recorded) (c : TapeCommand) → Within s → journaled_refusal s c ≡ 0 → Within (journaled_on s c)
unfolding journaled_refusal room_refusal
accepted_within s c h e =
    let n = s.used + length (changes_in c) in
    let p = passed (step_refusal s.table c) (unless (has_room s.journal n) journal_full) e in
    let k = room_known s.journal n (fitting (has_room s.journal n) journal_full (omega arith) p.1) in
    let l = entries_length (changes_in c) s.journal s.used in
    record {
      table = (made_within s.table s.journal s.used c h p.0).table;
      fits = room_from _ n (omega (arith, l, k.0)) k.1;
    }

-- whatever is made of the state that such a command leaves
pub left_within :
    (s : Recorded) (c : TapeCommand) → Within s → journaled_refusal s c ≡ 0 → (t : Recorded) → t ≡ journaled_on s c →
    Within t
left_within s c h e t q = rw q (accepted_within s c h e)
