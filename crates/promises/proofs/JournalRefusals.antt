-- The refusals of the calls that bring a journal: each is one of the call's numbers, and what a refused call leaves is
-- what came, but for a stopped run and a stopped going back, which are folds.
use mathlib.Core.Path.{◌≡◌, refl, ap, sym}
use mathlib.Core.List.{List, [], ◌∷◌, ◌++◌}
use Prim.Native.Nat.{ℕ}
use lib.Dec.{eqb}
use lib.ListN.{length}
use borrow.Author.Tests.{eq-eqb, ne_eqb}
use Rattle.lists.proofs.Lists.{mem_first, mem_second, Mem}
use Rattle.lists.specs.Lists.{all, among}
use Rattle.lists.proofs.Bools.{by_cases}
use Rattle.table.specs.Refusals.{undo_unfit, journal_full}
use Rattle.table.specs.Runs.{stopped}
use Rattle.table.proofs.Stages.{refused}
use Rattle.tape.specs.Steps.{TapeCommand, changes, reports, cuts_ring, step_refusal}
use Rattle.tape.specs.Runs.{tape_run}
use Rattle.soundness.specs.Soundness.{table_refusal, tape_refusal}
use Rattle.journal.specs.Heads.{room_refusal, head_refusal, set_refusal, back_refusal}
use Rattle.journal.specs.Journaling.{Recorded, journaled_refusal, journal_rule}
use Rattle.journal.specs.Undoing.{undo_refusal, undo_rule}
use Rattle.journal_calls.specs.Calls.{State, recorded_in, reply_by, state_refusal, perform_refusal}
use Rattle.journal_calls.specs.Calls.{journal_play_refusal, ran_from, play_reply, checkpoint_refusal, back_call_refusal}
use Rattle.journal_calls.specs.Calls.{undoing_to, went_back, back_reply, Call, performs, plays, sets_checkpoint}
use Rattle.journal_calls.specs.Calls.{goes_back, reply}
use Rattle.promises.specs.FirstDemand.{table_refusals, ring_refusals, run_refusals, command_refusals}
use Rattle.promises.specs.Journals.{journal_refusals}
use Rattle.promises.proofs.RefusalNumbers.{One, none, unless_one, or_else_one, table_one, widen, rest_one, table_first}
use Rattle.promises.proofs.RefusalNumbers.{ring_rest, step_one, contents_one, fold_one}

-- NUMBERS. The plain call's, and then the journal's
module _ {n : ℕ} (ns ms : List ℕ) where
  first : One n ns → One n (ns ++ ms)
  first f = record { one = λ z. mem_first n ns ms (f.one z) }

  second : One n ms → One n (ns ++ ms)
  second f = record { one = λ z. mem_second n ns ms (f.one z) }

abbrev entry_refusals : List ℕ
entry_refusals = undo_unfit ∷ journal_full ∷ []

state_one :
    (s : State) {ns : List ℕ} → One (table_refusal s.table) ns → Mem undo_unfit ns → One (state_refusal s) ns
unfolding state_refusal head_refusal
state_one s f m = or_else_one f (unless_one _ _ m)

journaled_one :
    (r : Recorded) (c : TapeCommand) (ns : List ℕ) → One (step_refusal r.table c) ns →
    One (journaled_refusal r c) (ns ++ entry_refusals)
unfolding journaled_refusal room_refusal among
journaled_one r c ns f = or_else_one (first ns entry_refusals f) (second ns entry_refusals (unless_one _ _ refl))

perform_one :
    (s : State) (c : TapeCommand) (ns : List ℕ) → One (table_refusal s.table) ns → One (step_refusal s.table c) ns →
    One (perform_refusal s c) (ns ++ entry_refusals)
unfolding perform_refusal among
perform_one s c ns f g =
    or_else_one (state_one s (first ns entry_refusals f) (mem_second undo_unfit ns entry_refusals refl))
    (journaled_one (recorded_in s) c ns g)

journaled_run_one : (s : State) (tape : List ℕ) → One (play_reply s tape).number (run_refusals ++ entry_refusals)
unfolding play_reply journal_play_refusal tape_refusal among all
journaled_run_one s tape =
    by_cases (eqb (journal_play_refusal s tape) 0)
    (λ t. rw t (fold_one journal_rule (λ r c. journaled_one r c run_refusals (step_one r.table c)) (recorded_in s) _ _
    (widen (run_refusals ++ entry_refusals) refl (contents_one (length tape) tape))))
    (λ t. rw t (or_else_one (unless_one _ _ refl) (state_one s (table_one _ refl refl) refl)))

go_back_one : (s : State) (c : ℕ) → One (back_reply s c).number (journal_refusals (goes_back c))
unfolding back_reply back_call_refusal back_refusal undo_refusal among
go_back_one s c =
    by_cases (eqb (back_call_refusal s c) 0)
    (λ t. rw t (fold_one undo_rule (λ w e. unless_one _ _ refl) s.table _ 0 none))
    (λ t. rw t (or_else_one (state_one s (table_one _ refl refl) refl) (unless_one _ _ refl)))

pub call_one : (s : State) (d : Call) → One (reply s d).number (journal_refusals d)
unfolding checkpoint_refusal head_refusal set_refusal among
call_one s (performs (changes c)) =
    perform_one s (changes c) (command_refusals c) (table_first s.table c) (rest_one s.table c)
call_one s (performs reports) = perform_one s reports table_refusals (table_one _ refl refl) none
call_one s (performs (cuts_ring ws)) =
    perform_one s (cuts_ring ws) ring_refusals (table_one _ refl refl) (ring_rest s.table ws)
call_one s (plays tape) = journaled_run_one s tape
call_one s (sets_checkpoint c) = or_else_one (unless_one _ _ refl) (unless_one _ _ refl)
call_one s (goes_back c) = go_back_one s c

-- WHAT A REFUSED CALL LEAVES
pub refused_reply : (n : ℕ) (t s : State) → (n ≡ 0 → ⊥) → reply_by n t s ≡ stopped n s
refused_reply n t s z = ap (λ u. record { number = n; accepted = 0; state = u }) (sym (refused n n t s refl z))

-- A RUN AND GOING BACK
module _ (s : State) (tape : List ℕ) where
  pub unplayed : (journal_play_refusal s tape ≡ 0 → ⊥) → reply s (plays tape) ≡ stopped (journal_play_refusal s tape) s
  unfolding play_reply
  unplayed z = rw (ne_eqb (journal_play_refusal s tape) 0 z)

  pub played :
      journal_play_refusal s tape ≡ 0 → reply s (plays tape) ≡ ran_from s (tape_run journal_rule (recorded_in s) tape)
  unfolding play_reply
  played e = rw (eq-eqb (journal_play_refusal s tape) 0 e)

module _ (s : State) (c : ℕ) where
  pub stayed : (back_call_refusal s c ≡ 0 → ⊥) → reply s (goes_back c) ≡ stopped (back_call_refusal s c) s
  unfolding back_reply
  stayed z = rw (ne_eqb (back_call_refusal s c) 0 z)

  pub returned : back_call_refusal s c ≡ 0 → reply s (goes_back c) ≡ went_back s (undoing_to s c)
  unfolding back_reply
  returned e = rw (eq-eqb (back_call_refusal s c) 0 e)
