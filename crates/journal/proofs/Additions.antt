-- One change and one ring, made and written into the journal, or refused.
use Rattle.std.specs.Bool.{⊤}
use mathlib.Core.Path.{◌≡◌, refl, ap, sym, ◌∙◌}
use mathlib.Core.Bool.{true}
use mathlib.Core.List.{List}
use Prim.Native.Nat.{ℕ, ◌+◌, ◌-◌, ◌*◌, ◌/◌, ◌≤◌, ◌<◌}
use native.Mathlib.Omega.{arith}
use lib.Dec.{eqb}
use lib.ListN.{length}
use borrow.Author.Tests.{le-leb, lt-leb, eqb-true}
use Rattle.lists.proofs.Bools.{by_cases}
use Rattle.table.specs.Limits.{words_per_entry, max_word, max_capacity, max_entries}
use Rattle.table.specs.Refusals.{journal_full, or_else}
use Rattle.table.specs.Layout.{Table, capacity}
use Rattle.table.specs.Commands.{Command, puts, takes_out, joins, cuts, command_refusal, command_on, leaves}
use Rattle.table.proofs.Reading.{number_small}
use Rattle.table.proofs.Stages.{passed, fitting, accepted}
use Rattle.table.proofs.Replying.{number_positive, goes_on, fails, holds}
use Rattle.table.proofs.Accepting.{put_passed, take_out_passed, join_passed, cut_passed}
use Rattle.rings.proofs.Conditions.{accepted_listed}
use Rattle.rings.specs.Rings.{links_of, cuts_of, ring_refusal, cut_along}
use Rattle.tape.specs.Steps.{TapeCommand, changes, cuts_ring}
use Rattle.journal.specs.Entries.{Journal, entry_of, with_entry, with_entries}
use Rattle.journal.specs.Heads.{has_room, room_refusal}
use Rattle.journal.specs.Journaling.{Recorded, journaled_refusal, journaled_on}
use Rattle.journal.specs.Inner.{recorded, journaled_leaves, IsRoom, WritableChange, WithinJournal, RoomForCuts}
use Rattle.journal.proofs.CutEntries.{cuts_length}
use Rattle.journal.proofs.Room.{room_known, room_left}
use Rattle.journal.proofs.Running.{made_within}

-- the darts of an accepted command are words, and a lacked operand is 0
operands_small :
    (w : Table) → capacity w ≤ max_capacity → (c : Command) → command_refusal w c ≡ 0 →
    ((entry_of c).first ≤ max_word) × ((entry_of c).second ≤ max_word)
operands_small w h (puts x) e = let f = put_passed w x e in (omega (arith, f.high), omega arith)
operands_small w h (takes_out x) e = (number_small w x h (take_out_passed w x e).present, omega arith)
operands_small w h (joins k a b) e =
    let j = join_passed w k a b e in (number_small w a h j.first, number_small w b h j.second)
operands_small w h (cuts k a b) e =
    let j = cut_passed w k a b e in (number_small w a h j.first, number_small w b h j.second)

-- AN ACCEPTED COMMAND whose reply is n leaves the state with its changes
pub accepted_leaves :
    (s : Recorded) (c : TapeCommand) (n : ℕ) → n ≡ journaled_refusal s c → n ≡ 0 →
    (t : Recorded) → t ≡ journaled_on s c → t ≡ journaled_leaves s c
accepted_leaves s c n e z t q = accepted _ n _ _ t e z q

-- ROOM for n entries after the used ones, by the room r of all
module _ (j : Journal) (used n : ℕ) (r : ℕ) (known : IsRoom j r) (fits : has_room j used ≡ true) where
  pub within_room : used ≤ r
  within_room = room_left j r known used fits

  pub room_lacks : r - used < n → journal_full ≡ room_refusal j used n
  unfolding room_refusal
  room_lacks l = let low = within_room in fails _ _ _ (sym (known (used + n))) (lt-leb (used + n) r (omega arith))

  pub room_suffices : n ≤ r - used → 0 ≡ room_refusal j used n
  unfolding room_refusal
  room_suffices l = let low = within_room in holds _ _ _ (sym (known (used + n))) (le-leb (used + n) r (omega arith))

-- WHAT THE CHECK TRIES BY ITSELF on room
pub ruleset rooms = (within_room, room_lacks, room_suffices)

-- what an accepted room says
pub room_given :
    (j : Journal) (used n : ℕ) → 0 ≡ room_refusal j used n →
    (words_per_entry * (used + n) ≤ length j) × (used + n ≤ max_entries)
unfolding room_refusal
room_given j used n e = room_known j (used + n) (fitting _ journal_full (omega arith) (sym e))

-- ONE CHANGE, judged and made at once: n is its reply, which is that of the room r where the change is accepted, and v
-- the table afterwards
module _ (w : Table) (j : Journal) (used : ℕ) (c : Command) (r n : ℕ) (room : r ≡ room_refusal j used 1)
    (e : n ≡ or_else (command_refusal w c) r) where
  pub change_judged : n ≡ journaled_refusal (recorded w j used) (changes c)
  unfolding journaled_refusal
  change_judged = e ∙ ap (or_else (command_refusal w c)) room

  module _ (v : Table) (q : v ≡ leaves (or_else (command_refusal w c) r) (command_on w c) w) where
    pub change_within : WithinJournal w j used → WithinJournal v j used
    unfolding leaves
    change_within h =
        by_cases (eqb (or_else (command_refusal w c) r) 0)
        (λ t.
        let p = passed (command_refusal w c) r (eqb-true _ 0 t) in
        rw (q, t) (made_within w j used (changes c) h p.0))
        (λ f. rw (q, f) h)

    module _ (z : n ≡ 0) where
      stages : (command_refusal w c ≡ 0) × (r ≡ 0)
      stages = passed (command_refusal w c) r (sym e ∙ z)

      made : v ≡ command_on w c
      made = q ∙ sym (accepted _ n _ _ (command_on w c) e z refl)

      pub change_room : (words_per_entry * (used + 1) ≤ length j) × (used + 1 ≤ max_entries)
      change_room = room_given j used 1 (sym stages.1 ∙ room)

      pub change_writable : WithinJournal w j used → WritableChange j used c
      change_writable h =
          let i = operands_small w h.table.room c stages.0 in
          let r = change_room.0 in
          record { words = omega arith; first = i.0; second = i.1 }

      pub change_written :
          (l : Journal) → l ≡ with_entry j used (entry_of c) →
          recorded v l (used + 1) ≡ journaled_on (recorded w j used) (changes c)
      unfolding with_entries
      change_written l p = rw (made, p)

-- A RING
module _ (w : Table) (j : Journal) (used : ℕ) (ws : List ℕ) where
  module _ (e : journaled_refusal (recorded w j used) (cuts_ring ws) ≡ 0) where
    stages_of_ring :
        (ring_refusal w ws ≡ 0) × (room_refusal j used (length (cuts_of (links_of ws))) ≡ 0)
    unfolding journaled_refusal
    stages_of_ring = passed (ring_refusal w ws) (room_refusal j used (length (cuts_of (links_of ws)))) e

    pub ring_accepted : ring_refusal w ws ≡ 0
    ring_accepted = stages_of_ring.0

    -- room for all of its entries
    pub ring_room : RoomForCuts j used (length ws)
    ring_room =
        let r = rw (cuts_length ws) at (room_given j used (length (cuts_of (links_of ws))) (sym stages_of_ring.1)) in
        record { in_words = r.0; in_limit = r.1 }

    pub ring_written :
        (v : Table) → v ≡ cut_along (links_of ws) w →
        (l : Journal) → l ≡ with_entries j used (cuts_of (links_of ws)) →
        recorded v l (used + length ws / 2) ≡ journaled_on (recorded w j used) (cuts_ring ws)
    ring_written v q l p = rw (q, p, cuts_length ws)

-- WHAT THE CHECK TRIES BY ITSELF on a journaled command: the definitions, opened by one name, and these facts
unfoldable pub definitions : ⊤
unfolding journaled_refusal or_else leaves
definitions = tt

pub ruleset ring_journaling = (number_positive, cuts_length, ring_room, accepted_listed)
