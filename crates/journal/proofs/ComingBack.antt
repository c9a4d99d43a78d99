-- What the entries of a journal lead back to, undone from the latest: a change adds its own undo, and going back takes
-- undos away, wherever it is stopped.
use mathlib.Core.Path.{◌≡◌, refl, sym, ◌∙◌}
use mathlib.Core.Bool.{true}
use mathlib.Core.List.{List, [], ◌∷◌}
use Prim.Native.Nat.{ℕ, zero, suc, ◌+◌, ◌-◌, ◌*◌, ◌%◌, ◌≤◌, ◌<◌}
use native.Mathlib.Omega.{arith}
use lib.Dec.{eqb}
use lib.ListN.{length}
use borrow.Author.Tests.{eq-eqb}
use Rattle.lists.proofs.Bools.{by_cases}
use Rattle.table.specs.Limits.{words_per_dart, words_per_entry}
use Rattle.table.specs.Refusals.{journal_full, unless}
use Rattle.table.specs.Layout.{Table, holds_hypermap}
use Rattle.table.specs.Commands.{Command, command_refusal, command_on, opposite}
use Rattle.table.specs.Runs.{command_rule, run_by, after_all, AllAccepted}
use Rattle.table.proofs.Stages.{passed, fitting}
use Rattle.table.proofs.Commands.{keeps_hypermap_law}
use Rattle.table.proofs.Opposites.{opposite_law}
use Rattle.table.proofs.Runs.{run_law, run_whole, run_keeps}
use Rattle.rings.proofs.RingCuts.{ring_cuts_law}
use Rattle.tape.specs.Steps.{TapeCommand, changes, reports, cuts_ring, step_refusal, step_on}
use Rattle.journal.specs.Entries.{Journal, Entry, entry_of, command_in, entry_at, with_entry, with_entries}
use Rattle.journal.specs.Heads.{has_room, room_refusal}
use Rattle.journal.specs.Journaling.{changes_in, Recorded, journaled_refusal, journaled_on, journal_rule}
use Rattle.journal.specs.Undoing.{undo_refusal, undo_on, undo_rule, latest_first, undoing}
use Rattle.journal.proofs.EntryWords.{command_kept, entry_length, entry_read_back, other_entry}
use Rattle.journal.proofs.EntryWords.{entries_length}
use Rattle.journal.proofs.Room.{room_known, room_from}
use Rattle.journal.proofs.Undoings.{undo_passed, latest_length}

-- A CHANGE'S OWN ENTRY undone
undo_own :
    (w : Table) → holds_hypermap w ≡ true → length w % words_per_dart ≡ 0 → (c : Command) → command_refusal w c ≡ 0 →
    (undo_refusal (command_on w c) (entry_of c) ≡ 0) × (undo_on (command_on w c) (entry_of c) ≡ w)
unfolding undo_refusal unless
undo_own w s z c e =
    let o = opposite_law w s z c e in let r = command_kept c in rw r.1 (rw (r.0, eq-eqb _ _ o.0), o.1)

-- THE ENTRIES undone
same_entries :
    (i j : Journal) (p n : ℕ) → ((k : ℕ) → k < p + n → entry_at i k ≡ entry_at j k) →
    latest_first i p n ≡ latest_first j p n
same_entries i j p zero same = refl
same_entries i j p (suc n) same = cc (same (p + n) (omega arith), same_entries i j p n (λ k h. same k (omega arith)))

-- the n entries from number p on lead from w back to t, and 1 and 2 refuse w no more than t: it has t's size, and holds
-- a hypermap
pub record LeadsBack (j : Journal) (p n : ℕ) (w t : Table) : Type 0 where
  pub hypermap : holds_hypermap w ≡ true
  pub size : length w ≡ length t
  pub accepted : AllAccepted undo_rule w (latest_first j p n)
  pub restored : after_all undo_rule w (latest_first j p n) ≡ t

undone_once :
    (j : Journal) (p n : ℕ) (w t : Table) → LeadsBack j p (suc n) w t →
    LeadsBack j p n (undo_on w (entry_at j (p + n))) t
undone_once j p n w t b =
    let e = entry_at j (p + n) in
    let k = keeps_hypermap_law w b.hypermap (opposite (command_in e)) (undo_passed w e b.accepted.0) in
    record { hypermap = k.0; size = k.1 ∙ b.size; accepted = b.accepted.1; restored = b.restored }

-- GOING BACK to any place, there or stopped, keeps what it has not passed
still_leads_back :
    (j : Journal) (q p : ℕ) (t : Table) (n k : ℕ) (w : Table) → q + n ≡ p + k → LeadsBack j p k w t →
    (undoing w j q n).accepted ≤ k → LeadsBack j p (k - (undoing w j q n).accepted) (undoing w j q n).state t
unfolding run_by
still_leads_back j q p t zero k w e b h = let z : k - 0 ≡ k = omega arith in rw z b
still_leads_back j q p t (suc n) zero w e b h =
    by_cases (eqb (undo_refusal w (entry_at j (q + n))) 0)
    (λ f. absurd (let g = rw f at h in omega arith))
    (λ f. rw f b)
still_leads_back j q p t (suc n) (suc k) w e b h =
    let v = undo_on w (entry_at j (q + n)) in
    let x : p + k ≡ q + n = omega arith in
    let f = eq-eqb (undo_refusal w (entry_at j (q + n))) 0 (rw x at b.accepted.0) in
    let z : suc k - suc (undoing v j q n).accepted ≡ k - (undoing v j q n).accepted = omega arith in
    let g = rw f at h in
    rw (f, z) (still_leads_back j q p t n k v (sym x) (rw x at (undone_once j p k w t b)) (omega arith))

-- CHANGES
module _ (p : ℕ) (t : Table) (whole : length t % words_per_dart ≡ 0) where
  change_leads_back :
      (j : Journal) (k : ℕ) (w : Table) (c : Command) → command_refusal w c ≡ 0 →
      words_per_entry * (p + k) + words_per_entry ≤ length j → LeadsBack j p k w t →
      LeadsBack (with_entry j (p + k) (entry_of c)) p (suc k) (command_on w c) t
  change_leads_back j k w c e h b =
      let i = with_entry j (p + k) (entry_of c) in
      let l = keeps_hypermap_law w b.hypermap c e in
      let u = undo_own w b.hypermap (rw b.size whole) c e in
      let own = entry_read_back j (p + k) (entry_of c) h in
      let others = same_entries i j p k (λ n q. other_entry j (p + k) (entry_of c) n (omega arith)) in
      record {
        hypermap = l.0;
        size = l.1 ∙ b.size;
        accepted = rw (own, others, u.1) (u.0, b.accepted);
        restored = rw (own, others, u.1) b.restored;
      }

  changes_lead_back :
      (cs : List Command) (j : Journal) (k : ℕ) (w : Table) → AllAccepted command_rule w cs →
      words_per_entry * (p + k + length cs) ≤ length j → LeadsBack j p k w t →
      LeadsBack (with_entries j (p + k) cs) p (k + length cs) (after_all command_rule w cs) t
  unfolding with_entries
  changes_lead_back [] j k w a h b = let z : k + 0 ≡ k = omega arith in rw z b
  changes_lead_back (c ∷ cs) j k w a h b =
      let x : suc (p + k) ≡ p + suc k = omega arith in
      let y : k + suc (length cs) ≡ suc k + length cs = omega arith in
      rw (x, y)
      (changes_lead_back cs (with_entry j (p + k) (entry_of c)) (suc k) (command_on w c) a.1
      (omega (arith, entry_length j (p + k) (entry_of c))) (change_leads_back j k w c a.0 (omega arith) b))

-- A TABLE WITH ITS JOURNAL, from which going back to p entries leads to t
pub record Returnable (r : Recorded) (p : ℕ) (t : Table) : Type 0 where
  pub low : p ≤ r.used
  pub room : has_room r.journal r.used ≡ true
  pub back : LeadsBack r.journal p (r.used - p) r.table t

pub returnable_now :
    (r : Recorded) → holds_hypermap r.table ≡ true → has_room r.journal r.used ≡ true →
    Returnable r r.used r.table
returnable_now r s h =
    let z : r.used - r.used ≡ 0 = omega arith in
    record {
      low = omega arith;
      room = h;
      back = rw z (record { hypermap = s; size = refl; accepted = tt; restored = refl });
    }

-- a tape's command makes the changes of its entries
step_changes :
    (w : Table) → holds_hypermap w ≡ true → (c : TapeCommand) → step_refusal w c ≡ 0 →
    AllAccepted command_rule w (changes_in c) × (after_all command_rule w (changes_in c) ≡ step_on w c)
step_changes w s (changes c) e = ((e, tt), refl)
step_changes w s reports e = (tt, refl)
step_changes w s (cuts_ring ws) e = ring_cuts_law w ws s e

abbrev pub went_back_to : Recorded → (q : ℕ) → Recorded
went_back_to r q =
    let o = undoing r.table r.journal q (r.used - q) in
    record { table = o.state; journal = r.journal; used = r.used - o.accepted }

module _ (p : ℕ) (t : Table) where
  -- JOURNALED COMMANDS, one and a run of them
  module _ (whole : length t % words_per_dart ≡ 0) where
    pub journaled_returnable :
        (r : Recorded) (c : TapeCommand) → Returnable r p t → journaled_refusal r c ≡ 0 →
        Returnable (journaled_on r c) p t
    unfolding journaled_refusal room_refusal
    journaled_returnable r c b e =
        let n = length (changes_in c) in
        let f = passed (step_refusal r.table c) (room_refusal r.journal r.used n) e in
        let g = fitting (has_room r.journal (r.used + n)) journal_full (omega arith) f.1 in
        let h = room_known r.journal (r.used + n) g in
        let s = step_changes r.table b.back.hypermap c f.0 in
        let l = entries_length (changes_in c) r.journal r.used in
        let x : p + (r.used - p) ≡ r.used = omega arith in
        let y : r.used + n - p ≡ r.used - p + n = omega arith in
        record {
          low = omega arith;
          room = room_from _ (r.used + n) (omega arith) h.1;
          back =
              rw (y, ← s.1)
              (rw x at (changes_lead_back p t whole (changes_in c) r.journal (r.used - p) r.table s.0
              (rw x h.0) b.back));
        }

    pub run_returnable :
        (r : Recorded) (cs : List TapeCommand) (n : ℕ) → Returnable r p t →
        Returnable (run_by journal_rule r cs n).state p t × (r.used ≤ (run_by journal_rule r cs n).state.used)
    run_returnable r cs n b =
        run_keeps journal_rule (λ k. Returnable k p t × (r.used ≤ k.used))
        (λ k c i e. (journaled_returnable k c i.0 e, omega (arith, i.1))) cs r n (b, omega arith)

  -- GOING BACK to q entries, there or stopped
  pub went_back_returnable :
      (r : Recorded) (q : ℕ) → Returnable r p t → q ≤ r.used → p ≤ (went_back_to r q).used →
      Returnable (went_back_to r q) p t
  went_back_returnable r q b l h =
      let n = r.used - q in
      let o = undoing r.table r.journal q n in
      let few = (run_law Table Entry undo_rule r.table (latest_first r.journal q n) 0).few in
      let m = latest_length r.journal q n in
      let k = room_known r.journal r.used b.room in
      let y : r.used - o.accepted - p ≡ r.used - p - o.accepted = omega arith in
      record {
        low = h;
        room = room_from r.journal (r.used - o.accepted) (omega arith) (omega arith);
        back =
            rw y (still_leads_back r.journal q p t n (r.used - p) r.table (omega arith) b.back (omega arith));
      }

  -- and to p itself
  pub comes_back :
      (r : Recorded) → Returnable r p t →
      undoing r.table r.journal p (r.used - p) ≡ record { number = 0; accepted = r.used - p; state = t }
  comes_back r b =
      run_whole undo_rule _ r.table 0 b.back.accepted ∙
      rw (latest_length r.journal p (r.used - p), b.back.restored)
