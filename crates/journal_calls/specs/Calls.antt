-- The public calls that bring a journal: what each answers, and the table, journal and head that it leaves. Document
-- 02, Job 5.
use Rattle.std.specs.Prelude.{cond, List, ℕ, ◌-◌, eqb}
use Rattle.table.specs.Refusals.{or_else}
use Rattle.table.specs.Layout.{Table}
use Rattle.table.specs.Commands.{leaves}
use Rattle.table.specs.Runs.{Outcome, stopped}
use Rattle.tape.specs.Steps.{TapeCommand}
use Rattle.tape.specs.Runs.{tape_run}
use Rattle.soundness.specs.Soundness.{table_refusal, tape_refusal}
use Rattle.journal.specs.Entries.{Journal}
use Rattle.journal.specs.Heads.{head_refusal, checkpoint_of, with_length, with_checkpoint, cut_back, set_refusal}
use Rattle.journal.specs.Heads.{back_refusal}
use Rattle.journal.specs.Journaling.{Recorded, journaled_refusal, journaled_on, journal_rule}
use Rattle.journal.specs.Undoing.{undoing}
use Rattle.journal.specs.declared.Head.{Head}
use Rattle.journal_calls.specs.declared.c_replies.Journaled.{Journaled}
use Rattle.journal_calls.specs.declared.c_replies.JournaledRun.{JournaledRun}
use Rattle.journal_calls.specs.declared.c_replies.Undone.{Undone}

-- what is lent, and the head that goes with it
pub record State : Type 0 where
  pub table : Table
  pub journal : Journal
  pub head : Head

-- a refusal or 0, how many commands were accepted or changes undone where the call tells it, and what is left
abbrev pub Reply : Type 0
Reply = Outcome State

-- without the checkpoints, which stay where a command is journaled
abbrev pub recorded_in : State → Recorded
recorded_in s = record { table = s.table; journal = s.journal; used = s.head.length }

abbrev pub with_recorded : State → Recorded → State
with_recorded s r = record { table = r.table; journal = r.journal; head = with_length r.used s.head }

-- a call that tells no number: what it leaves where it is accepted, and else what came
abbrev pub reply_by : (refusal : ℕ) → (changed old : State) → Reply
reply_by n t s = record { number = n; accepted = 0; state = leaves n t s }

-- 1 and 2 of the table, then 17 of the head
unfoldable pub state_refusal : State → ℕ
state_refusal s = or_else (table_refusal s.table) (head_refusal s.journal s.head)

-- PUT, TAKE OUT, JOIN, CUT, RING
unfoldable pub perform_refusal : State → TapeCommand → ℕ
perform_refusal s c = or_else (state_refusal s) (journaled_refusal (recorded_in s) c)

abbrev pub perform_reply : State → TapeCommand → Reply
perform_reply s c = reply_by (perform_refusal s c) (with_recorded s (journaled_on (recorded_in s) c)) s

-- A TAPE: 1 of the tape, and then as every call; the accepted commands stay where the run is stopped
unfoldable pub journal_play_refusal : State → (tape : List ℕ) → ℕ
journal_play_refusal s bs = or_else (tape_refusal bs) (state_refusal s)

abbrev pub ran_from : State → Outcome Recorded → Reply
ran_from s o = record { number = o.number; accepted = o.accepted; state = with_recorded s o.state }

unfoldable pub play_reply : State → (tape : List ℕ) → Reply
play_reply s bs =
    cond (eqb (journal_play_refusal s bs) 0) (ran_from s (tape_run journal_rule (recorded_in s) bs))
    (stopped (journal_play_refusal s bs) s)

-- A CHECKPOINT SET: no table is lent
unfoldable pub checkpoint_refusal : State → (c : ℕ) → ℕ
checkpoint_refusal s c = or_else (head_refusal s.journal s.head) (set_refusal c)

abbrev pub checkpoint_reply : State → (c : ℕ) → Reply
checkpoint_reply s c =
    reply_by (checkpoint_refusal s c)
    (record { table = s.table; journal = s.journal; head = with_checkpoint c s.head }) s

-- GOING BACK: 19, and then undo by undo; "it keeps and tells the undos done, with length and marks to match"
unfoldable pub back_call_refusal : State → (c : ℕ) → ℕ
back_call_refusal s c = or_else (state_refusal s) (back_refusal s.head c)

abbrev pub undoing_to : State → (c : ℕ) → Outcome Table
undoing_to s c = undoing s.table s.journal (checkpoint_of s.head c) (s.head.length - checkpoint_of s.head c)

abbrev pub went_back : State → Outcome Table → Reply
went_back s o =
    record {
      number = o.number;
      accepted = o.accepted;
      state =
          record { table = o.state; journal = s.journal; head = cut_back (s.head.length - o.accepted) s.head };
    }

unfoldable pub back_reply : State → (c : ℕ) → Reply
back_reply s c = cond (eqb (back_call_refusal s c) 0) (went_back s (undoing_to s c)) (stopped (back_call_refusal s c) s)

-- ANSWERS, as the calls give them
abbrev pub state_of : Table → Journal → Head → State
state_of w j h = record { table = w; journal = j; head = h }

abbrev pub journaled_of : Reply → Journaled
journaled_of r = record { number = r.number; head = r.state.head }

abbrev pub journaled_run_of : Reply → JournaledRun
journaled_run_of r = record { number = r.number; accepted = r.accepted; head = r.state.head }

abbrev pub undone_of : Reply → Undone
undone_of r = record { number = r.number; undone = r.accepted; head = r.state.head }

-- EVERY CALL
pub data Call : Type 0 where
  performs : TapeCommand → Call
  plays : (tape : List ℕ) → Call
  sets_checkpoint : (c : ℕ) → Call
  goes_back : (c : ℕ) → Call

abbrev pub reply : State → Call → Reply
reply s (performs c) = perform_reply s c
reply s (plays bs) = play_reply s bs
reply s (sets_checkpoint c) = checkpoint_reply s c
reply s (goes_back c) = back_reply s c
