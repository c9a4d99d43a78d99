-- What the calls that bring a journal promise. Document 02, Job 5.
use Rattle.std.specs.Prelude.{◌≡◌, List, [], ◌∷◌, ◌++◌, ℕ, ◌-◌, ◌≤◌, length}
use Rattle.table.specs.Limits.{checkpoint_count}
use Rattle.table.specs.Refusals.{undo_unfit, journal_full, no_mark}
use Rattle.table.specs.Layout.{Table}
use Rattle.table.specs.Commands.{Command, opposite}
use Rattle.table.specs.Runs.{Rule, stopped, after_all, AllAccepted, IsRun}
use Rattle.rings.specs.Rings.{links_of, cuts_of}
use Rattle.tape.specs.Steps.{TapeCommand, changes, reports, cuts_ring}
use Rattle.tape.specs.Tapes.{contents_of}
use Rattle.tape.specs.Runs.{tape_run}
use Rattle.soundness.specs.Soundness.{table_refusal}
use Rattle.kernel.specs.Calls.{call_refusal, call_leaves, ring_call_refusal, ring_call_leaves}
use Rattle.journal.specs.Heads.{checkpoint_of, cut_back}
use Rattle.journal.specs.Journaling.{journal_rule}
use Rattle.journal.specs.Undoing.{undo_rule, latest_first}
use Rattle.journal_calls.specs.Calls.{State, recorded_in, journal_play_refusal, back_call_refusal, ran_from, went_back}
use Rattle.journal_calls.specs.Calls.{undoing_to, Call, performs, plays, sets_checkpoint, goes_back, reply}
use Rattle.promises.specs.FirstDemand.{OneOf, table_refusals, command_refusals, ring_refusals, run_refusals}

-- THE PLAIN CALLS. "Going back undoes the changes from the latest by their opposite commands"
pub record IsUndone (w : Table) (c : Command) : Type 0 where
  pub accepted : call_refusal (call_leaves w c) (opposite c) ≡ 0
  pub restored : call_leaves (call_leaves w c) (opposite c) ≡ w

abbrev pub call_rule : Rule Table Command
call_rule = record { refusal = call_refusal; on = call_leaves }

-- "a ring as its cuts"
pub record IsItsCuts (w : Table) (ring : List ℕ) : Type 0 where
  pub accepted : AllAccepted call_rule w (cuts_of (links_of ring))
  pub same : after_all call_rule w (cuts_of (links_of ring)) ≡ ring_call_leaves w ring

-- COMING BACK. Calls one after the other, each given the head last returned
abbrev pub state_after : State → List Call → State
state_after s [] = s
state_after s (c ∷ cs) = state_after (reply s c).state cs

-- "the table exactly as it was when marked": in s going back to c is accepted, undoes exactly the changes since there
-- were p of them, leaves the table w, and cuts the head back to p
pub record ComesBack (s : State) (c p : ℕ) (w : Table) : Type 0 where
  pub accepted : (reply s (goes_back c)).number ≡ 0
  pub undone : (reply s (goes_back c)).accepted ≡ s.head.length - p
  pub table : (reply s (goes_back c)).state.table ≡ w
  pub head : (reply s (goes_back c)).state.head ≡ cut_back p s.head

-- checkpoint c is p now and after each of the calls, stopped ones included: it was neither moved nor dropped
abbrev pub Stands : (c p : ℕ) → State → List Call → Type 0
Stands c p s [] = checkpoint_of s.head c ≡ p
Stands c p s (d ∷ ds) = (checkpoint_of s.head c ≡ p) × Stands c p (reply s d).state ds

-- the same in the calls' words: c is not set again, and no call leaves fewer than p changes
abbrev pub Untouched : (c p : ℕ) → State → List Call → Type 0
Untouched c p s [] = Unit {0}
Untouched c p s (d ∷ ds) =
    (d ≡ sets_checkpoint c → ⊥) × (p ≤ (reply s d).state.head.length) × Untouched c p (reply s d).state ds

-- "provided only these calls wrote table and journal since, each given the head last returned". A checkpoint is set
-- without a table; on a table that 1 or 2 refuses every other call is refused, so it stays as it was then, too
abbrev pub ComesBackIf : (State → ℕ → List Call → Type 0) → Type 0
ComesBackIf Kept =
    (s : State) (c : ℕ) → table_refusal s.table ≡ 0 → (reply s (sets_checkpoint c)).number ≡ 0 → (ds : List Call) →
    Kept s c ds → ComesBack (state_after (reply s (sets_checkpoint c)).state ds) c s.head.length s.table

-- REFUSALS. The numbers of each call
abbrev pub journal_refusals : Call → List ℕ
journal_refusals (performs (changes c)) = command_refusals c ++ (undo_unfit ∷ journal_full ∷ [])
journal_refusals (performs reports) = table_refusals ++ (undo_unfit ∷ journal_full ∷ [])
journal_refusals (performs (cuts_ring ws)) = ring_refusals ++ (undo_unfit ∷ journal_full ∷ [])
journal_refusals (plays tape) = run_refusals ++ (undo_unfit ∷ journal_full ∷ [])
journal_refusals (sets_checkpoint c) = undo_unfit ∷ no_mark ∷ []
journal_refusals (goes_back c) = table_refusals ++ (undo_unfit ∷ no_mark ∷ [])

-- where a call is refused and nothing was done, "structs as they came", and every lent word
abbrev pub Unchanged : State → Call → Type 0
Unchanged s d = ((reply s d).number ≡ 0 → ⊥) → reply s d ≡ stopped (reply s d).number s

pub record JournalPromise : Type 0 where
  pub opposites : (w : Table) (c : Command) → call_refusal w c ≡ 0 → IsUndone w c
  pub cuts : (w : Table) (ring : List ℕ) → ring_call_refusal w ring ≡ 0 → IsItsCuts w ring
  -- an accepted journaled call changes the table as the plain call does
  pub change :
      (s : State) (c : Command) → (reply s (performs (changes c))).number ≡ 0 →
      (call_refusal s.table c ≡ 0) × ((reply s (performs (changes c))).state.table ≡ call_leaves s.table c)
  pub ring :
      (s : State) (ws : List ℕ) → (reply s (performs (cuts_ring ws))).number ≡ 0 →
      (ring_call_refusal s.table ws ≡ 0) ×
      ((reply s (performs (cuts_ring ws))).state.table ≡ ring_call_leaves s.table ws)
  -- a checkpoint neither moved nor dropped is come back to, over any sequence of these calls
  pub standing :
      ComesBackIf (λ s c ds. Stands c s.head.length (reply s (sets_checkpoint c)).state ds)
  pub untouched :
      ComesBackIf (λ s c ds. (length s.head.checkpoints ≡ checkpoint_count) ×
      Untouched c s.head.length (reply s (sets_checkpoint c)).state ds)
  -- every refusal is one of the call's numbers
  pub numbers : (s : State) (d : Call) → OneOf (reply s d).number (journal_refusals d)
  -- and leaves table, journal and head as they came
  pub performed : (s : State) (c : TapeCommand) → Unchanged s (performs c)
  pub checkpointed : (s : State) (c : ℕ) → Unchanged s (sets_checkpoint c)
  pub unplayed :
      (s : State) (tape : List ℕ) → (journal_play_refusal s tape ≡ 0 → ⊥) →
      reply s (plays tape) ≡ stopped (journal_play_refusal s tape) s
  pub stayed :
      (s : State) (c : ℕ) → (back_call_refusal s c ≡ 0 → ⊥) → reply s (goes_back c) ≡ stopped (back_call_refusal s c) s
  -- but a run of a tape, and going back, which keep and tell what was done before they were stopped
  pub played :
      (s : State) (tape : List ℕ) → journal_play_refusal s tape ≡ 0 →
      (reply s (plays tape) ≡ ran_from s (tape_run journal_rule (recorded_in s) tape)) ×
      IsRun journal_rule (recorded_in s) (contents_of tape).commands (contents_of tape).refusal
      (tape_run journal_rule (recorded_in s) tape)
  pub went_back_by :
      (s : State) (c : ℕ) → back_call_refusal s c ≡ 0 →
      (reply s (goes_back c) ≡ went_back s (undoing_to s c)) ×
      IsRun undo_rule s.table
      (latest_first s.journal (checkpoint_of s.head c) (s.head.length - checkpoint_of s.head c)) 0
      (undoing_to s c)
