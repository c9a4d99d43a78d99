-- What each call answers and leaves: refused by the table or the head, or by what the inner functions answer.
use mathlib.Core.Path.{◌≡◌, refl, ap, sym, ◌∙◌}
use mathlib.Core.Bool.{true, cond, not, ◌&&◌}
use mathlib.Core.Logic.{◌≢◌}
use mathlib.Core.List.{List}
use Prim.Native.Nat.{ℕ, ◌-◌, ◌≤◌}
use native.Mathlib.Omega.{arith}
use lib.Dec.{ltb, eqb}
use borrow.Author.Tests.{eqb-false, not-true, eq-eqb, ne_eqb}
use Rattle.std.specs.Prelude.{Option, Some, None, Result, Err, ok_or}
use Rattle.lists.proofs.Bools.{by_cases, and_left, and_right}
use Rattle.table.specs.Limits.{max_tape, checkpoint_count}
use Rattle.table.specs.Limits as limits
use Rattle.table.specs.Refusals.{undo_unfit, no_mark, or_else}
use Rattle.table.specs.Layout.{Table}
use Rattle.table.specs.Commands.{leaves}
use Rattle.table.proofs.Stages.{passed, fitting, refused_first, refused}
use Rattle.tape.specs.Steps.{TapeCommand}
use Rattle.table.specs.Runs.{stopped}
use Rattle.tape.specs.Runs.{tape_run, told_of}
use Rattle.tape.specs.declared.Run.{Run}
use Rattle.tape.specs.declared.Stopped.{Stopped}
use Rattle.tape.specs.Replies.{run_reply}
use Rattle.tape.proofs.Playing.{StoppedAtOnce, stopped_reply}
use Rattle.table.specs.Replies.{number, reply as number_in}
use Rattle.table.specs.declared.refusals.Refusal.{Refusal}
use Rattle.table.specs.declared.refusals.Refusal.TheVariants.{NoMark}
use Rattle.table.proofs.Replying.{number_positive, exits, goes_on}
use Rattle.soundness.specs.Soundness.{table_refusal, tape_refusal}
use Rattle.soundness.proofs.Passing.{table_within, tape_passed}
use Rattle.journal.specs.Entries.{Journal}
use Rattle.journal.specs.Heads.{has_room, head_fits, head_refusal, checkpoint_of, with_checkpoint, cut_back}
use Rattle.journal.specs.Heads.{set_refusal, back_refusal}
use Rattle.journal.specs.Journaling.{Recorded, journaled_refusal, journal_rule}
use Rattle.journal.specs.Undoing.{undoing}
use Rattle.journal.specs.Inner.{WithinJournal, Undoable, CheckpointRead, journaled_leaves}
use Rattle.journal.specs.declared.Head.{Head}
use Rattle.journal.proofs.Room.{room_known}
use Rattle.journal.proofs.Checkpoints.{set_checkpoint_low}
use Rattle.journal.proofs.Undoings.{undone_at_most}
use Rattle.journal_calls.specs.Calls.{State, recorded_in, state_refusal, perform_refusal, perform_reply}
use Rattle.journal_calls.specs.Calls.{journal_play_refusal, play_reply, checkpoint_refusal, checkpoint_reply}
use Rattle.journal_calls.specs.Calls.{back_call_refusal, back_reply, state_of, Reply, with_recorded}

-- A STATE that passes: the table is within the capacity, and the journal has the used entries
module _ (s : State) (e : state_refusal s ≡ 0) where
  stages : (table_refusal s.table ≡ 0) × (head_refusal s.journal s.head ≡ 0)
  unfolding state_refusal
  stages = passed (table_refusal s.table) (head_refusal s.journal s.head) e

  head_fit : head_fits s.journal s.head ≡ true
  unfolding head_refusal
  head_fit = fitting (head_fits s.journal s.head) undo_unfit (omega arith) stages.1

  pub state_passed : WithinJournal s.table s.journal s.head.length
  unfolding head_fits
  state_passed = record {
    table = table_within _ stages.0;
    fits = and_left (has_room s.journal s.head.length) _ head_fit;
  }

  back_set : (h : Head) (c : ℕ) → back_refusal h c ≡ 0 → checkpoint_of h c ≢ limits.unset
  unfolding back_refusal
  back_set h c z =
      let t = fitting (ltb c checkpoint_count && not (eqb (checkpoint_of h c) limits.unset)) no_mark (omega arith) z in
      eqb-false _ _ (not-true _ (and_right (ltb c checkpoint_count) _ t))

  -- the checkpoint that is gone back to
  pub back_ready :
      (c r : ℕ) → (back_refusal s.head c ≡ 0) × (r ≡ checkpoint_of s.head c) →
      Undoable s.table s.journal s.head.length r
  unfolding head_fits
  back_ready c r q =
      let p = state_passed in
      let a = and_right (has_room s.journal s.head.length) _ head_fit in
      record {
        table = p.table;
        words = (room_known s.journal s.head.length p.fits).0;
        low = rw q.1 (set_checkpoint_low s.head c a (back_set s.head c q.0));
      }

-- A CALL THAT TELLS NO NUMBER: a change, a ring or a checkpoint
abbrev Gives : Reply → (number : ℕ) → State → Type 0
Gives r n t = record { value : n ≡ r.number; state : t ≡ r.state }

module _ (s : State) (c : TapeCommand) where
  pub unperformed : (n : ℕ) → n ≡ state_refusal s → (n ≡ 0 → ⊥) → Gives (perform_reply s c) n s
  unfolding perform_refusal
  unperformed n e d =
      let f = refused_first (state_refusal s) (journaled_refusal (recorded_in s) c) n e d in
      record { value = f; state = refused _ n _ _ f d }

  -- past the judgement, the table with its journal as the inner call leaves it
  pub performed :
      0 ≡ state_refusal s → (n : ℕ) → n ≡ journaled_refusal (recorded_in s) c →
      (t : Recorded) → t ≡ journaled_leaves (recorded_in s) c →
      Gives (perform_reply s c) n (with_recorded s t)
  unfolding perform_refusal leaves or_else
  performed z n e t q =
      by_cases (eqb (journaled_refusal (recorded_in s) c) 0)
      (λ b. rw (← z) (rw b (record { value = e; state = ap (with_recorded s) (q ∙ rw b) })))
      (λ b. rw (← z) (rw b (record { value = e; state = ap (with_recorded s) (q ∙ rw b) })))

-- A RUN
abbrev GivesRun : Reply → Run → State → Type 0
GivesRun r n t = record { value : n ≡ told_of r; state : t ≡ r.state }

-- one that is refused before its first command or entry
unbegun :
    (n : ℕ) (r : Reply) (s : State) (x : Result ℕ Stopped) (d : Refusal) → StoppedAtOnce x d → number d ≡ n →
    GivesRun (cond (eqb n 0) r (stopped n s)) (run_reply x) s
unbegun n r s x d q e =
    rw (stopped_reply x d q, ne_eqb n 0 (λ z. number_positive d (e ∙ z)))
    (record { value = ap (λ k. record { number = k; accepted = 0 }) e; state = refl })

module _ (s : State) (bs : List ℕ) where
  pub play_long :
      (x : Result ℕ Stopped) (d : Refusal) → StoppedAtOnce x d → number d ≡ tape_refusal bs →
      GivesRun (play_reply s bs) (run_reply x) s
  unfolding play_reply journal_play_refusal
  play_long x d q e =
      unbegun _ _ s x d q (refused_first (tape_refusal bs) (state_refusal s) (number d) e (number_positive d))

  module _ (h : 0 ≡ tape_refusal bs) where
    pub play_bent :
        (x : Result ℕ Stopped) (d : Refusal) → StoppedAtOnce x d → number d ≡ state_refusal s →
        GivesRun (play_reply s bs) (run_reply x) s
    unfolding play_reply journal_play_refusal
    play_bent x d q e = unbegun _ _ s x d q (goes_on (tape_refusal bs) (state_refusal s) (number d) h e)

    pub played :
        0 ≡ state_refusal s → (r : Run) → r ≡ told_of (tape_run journal_rule (recorded_in s) bs) → (t : Recorded) →
        t ≡ (tape_run journal_rule (recorded_in s) bs).state → GivesRun (play_reply s bs) r (with_recorded s t)
    unfolding play_reply journal_play_refusal or_else
    played z r e t q = rw (← h, ← z) (record { value = e; state = ap (with_recorded s) q })

-- A CHECKPOINT
module _ (j : Journal) (h : Head) (c : ℕ) (w : Table) where
  abbrev o : State
  o = state_of w j h

  pub not_judged : (n : ℕ) → n ≡ head_refusal j h → (n ≡ 0 → ⊥) → Gives (checkpoint_reply o c) n o
  unfolding checkpoint_refusal
  not_judged n e d =
      let f = refused_first (head_refusal j h) (set_refusal c) n e d in
      record { value = f; state = refused _ n _ _ f d }

  pub set_there :
      0 ≡ head_refusal j h → (n : ℕ) → n ≡ set_refusal c → (g : Head) →
      g ≡ leaves (set_refusal c) (with_checkpoint c h) h → Gives (checkpoint_reply o c) n (state_of w j g)
  unfolding checkpoint_refusal leaves or_else
  set_there z n e g q =
      by_cases (eqb (set_refusal c) 0)
      (λ b. rw (← z) (rw b (record { value = e; state = ap (state_of w j) (q ∙ rw b) })))
      (λ b. rw (← z) (rw b (record { value = e; state = ap (state_of w j) (q ∙ rw b) })))

-- GOING BACK
module _ (s : State) (c : ℕ) where
  pub back_bent :
      (x : Result ℕ Stopped) (d : Refusal) → StoppedAtOnce x d → number d ≡ state_refusal s →
      GivesRun (back_reply s c) (run_reply x) s
  unfolding back_reply back_call_refusal
  back_bent x d q e =
      unbegun _ _ s x d q (refused_first (state_refusal s) (back_refusal s.head c) (number d) e (number_positive d))

  module _ (z : 0 ≡ state_refusal s) where
    judged_back : back_call_refusal s c ≡ back_refusal s.head c
    unfolding back_call_refusal or_else
    judged_back = rw (← z)

    -- no checkpoint to go back to
    pub back_none :
        (r : Option ℕ) → CheckpointRead s.head c r → (d : Refusal) → Err d ≡ ok_or r NoMark → (x : Result ℕ Stopped) →
        StoppedAtOnce x d → GivesRun (back_reply s c) (run_reply x) s
    unfolding back_reply
    back_none None f d e x q = unbegun _ _ s x d q (ap number_in e ∙ sym (judged_back ∙ f))
    back_none (Some n) f d e x q = absurd (number_positive d (ap number_in e))

    module _
        (r : ℕ) (q : (back_refusal s.head c ≡ 0) × (r ≡ checkpoint_of s.head c)) (u : Run) (v : Table)
        (e : u ≡ told_of (undoing s.table s.journal r (s.head.length - r)))
        (g : v ≡ (undoing s.table s.journal r (s.head.length - r)).state) where
      -- no more are undone than there are
      pub undone_few : u.accepted ≤ s.head.length
      undone_few =
          let l = undone_at_most s.table s.journal r (s.head.length - r) in
          omega (arith, ap (λ x. x.accepted) e, l)

      pub went_back_to :
          (h : Head) → h ≡ cut_back (s.head.length - u.accepted) s.head →
          GivesRun (back_reply s c) u (state_of v s.journal h)
      unfolding back_reply
      went_back_to h p =
          rw (eq-eqb (back_call_refusal s c) 0 (judged_back ∙ q.0), ← q.1)
          (record { value = e; state = rw (p, g, ap (λ x. x.accepted) e) refl })

-- PAST THE JUDGEMENT, by what the code brings
pub state_ready :
    (w : Table) (j : Journal) (h : Head) → 0 ≡ state_refusal (state_of w j h) → WithinJournal w j h.length
state_ready w j h e = state_passed (state_of w j h) (sym e)

-- WHAT THE CALLS ARE PROVED BY
pub ruleset performing = (number_positive, exits, state_ready, unperformed, performed)

pub ruleset playing = (tape_passed, state_ready, play_long, play_bent, played)

pub ruleset setting = (number_positive, exits, not_judged, set_there)
