-- Job 5, named states to come back to: the plain calls are undone by their opposites, a ring is its cuts, and a
-- journaled call changes the table as the plain call does.
use mathlib.Core.Path.{◌≡◌, refl, ap, sym, ◌∙◌}
use mathlib.Core.List.{List, [], ◌∷◌}
use Prim.Native.Nat.{ℕ}
use Rattle.table.specs.Layout.{Table}
use Rattle.table.specs.Commands.{Command, opposite, command_on}
use Rattle.table.specs.Runs.{command_rule, after_all, AllAccepted}
use Rattle.table.proofs.Stages.{passed, accepted}
use Rattle.table.proofs.Opposites.{opposite_law}
use Rattle.table.proofs.Runs.{run_law}
use Rattle.rings.specs.Rings.{links_of, cuts_of}
use Rattle.rings.proofs.RingCuts.{ring_cuts_law}
use Rattle.tape.specs.Steps.{TapeCommand, changes, cuts_ring, step_refusal}
use Rattle.tape.specs.Tapes.{contents_of}
use Rattle.soundness.specs.Soundness.{table_refusal}
use Rattle.soundness.proofs.Passing.{table_passed}
use Rattle.kernel.specs.Calls.{call_refusal, call_leaves, ring_call_refusal, ring_call_leaves}
use Rattle.journal.specs.Entries.{Entry}
use Rattle.journal.specs.Journaling.{Recorded, journaled_refusal, journaled_on, journal_rule}
use Rattle.journal.specs.Undoing.{undo_rule}
use Rattle.journal_calls.specs.Calls.{State, recorded_in, with_recorded, state_refusal, perform_refusal}
use Rattle.journal_calls.specs.Calls.{checkpoint_refusal, performs, reply}
use Rattle.promises.specs.Journals.{IsUndone, call_rule, IsItsCuts, JournalPromise}
use Rattle.promises.proofs.Accepted.{call_passed, call_fits, accepted_leaves, ring_passed, ring_fits, ring_leaves}
use Rattle.promises.proofs.Changes.{command_stays}
use Rattle.promises.proofs.WaysBack.{whole_darts, standing, untouched}
use Rattle.promises.proofs.JournalRefusals.{call_one, refused_reply, unplayed, played, stayed, returned}

-- THE PLAIN CALLS
undone : (w : Table) (c : Command) → call_refusal w c ≡ 0 → IsUndone w c
undone w c e =
    let p = call_passed w c e in
    let l = accepted_leaves w c e in
    let o = opposite_law w (table_passed w p.0).hypermap (whole_darts w p.0) c p.1 in
    let a = call_fits (command_on w c) (opposite c) (rw l at (command_stays w p.0 c).sound) o.0 in
    record { accepted = rw l a; restored = rw l (accepted_leaves (command_on w c) (opposite c) a ∙ o.1) }

by_calls :
    (cs : List Command) (w : Table) → table_refusal w ≡ 0 → AllAccepted command_rule w cs →
    AllAccepted call_rule w cs × (after_all call_rule w cs ≡ after_all command_rule w cs)
by_calls [] w t a = (tt, refl)
by_calls (c ∷ cs) w t a =
    let e = call_fits w c t a.0 in
    let l = accepted_leaves w c e in
    let i = by_calls cs (command_on w c) (rw l at (command_stays w t c).sound) a.1 in
    rw l ((e, i.0), i.1)

its_cuts : (w : Table) (ring : List ℕ) → ring_call_refusal w ring ≡ 0 → IsItsCuts w ring
its_cuts w ws e =
    let p = ring_passed w ws e in
    let r = ring_cuts_law w ws (table_passed w p.0).hypermap p.1 in
    let i = by_calls (cuts_of (links_of ws)) w p.0 r.0 in
    record { accepted = i.0; same = i.1 ∙ r.1 ∙ sym (ring_leaves w ws e) }

-- A JOURNALED COMMAND that is accepted has passed what the plain call asks, and changes the table alike
module _ (s : State) (c : TapeCommand) (e : perform_refusal s c ≡ 0) where
  perform_passed : (table_refusal s.table ≡ 0) × (step_refusal s.table c ≡ 0)
  unfolding perform_refusal state_refusal journaled_refusal
  perform_passed =
      let p = passed (state_refusal s) (journaled_refusal (recorded_in s) c) e in
      ((passed (table_refusal s.table) _ p.0).0, (passed (step_refusal s.table c) _ p.1).0)

  perform_leaves : (reply s (performs c)).state ≡ with_recorded s (journaled_on (recorded_in s) c)
  perform_leaves = sym (accepted (perform_refusal s c) (perform_refusal s c) _ s _ refl e refl)

change_alike :
    (s : State) (c : Command) → (reply s (performs (changes c))).number ≡ 0 →
    (call_refusal s.table c ≡ 0) × ((reply s (performs (changes c))).state.table ≡ call_leaves s.table c)
change_alike s c e =
    let p = perform_passed s (changes c) e in
    let f = call_fits s.table c p.0 p.1 in
    (f, ap (λ u. u.table) (perform_leaves s (changes c) e) ∙ sym (accepted_leaves s.table c f))

ring_alike :
    (s : State) (ws : List ℕ) → (reply s (performs (cuts_ring ws))).number ≡ 0 →
    (ring_call_refusal s.table ws ≡ 0) ×
    ((reply s (performs (cuts_ring ws))).state.table ≡ ring_call_leaves s.table ws)
ring_alike s ws e =
    let p = perform_passed s (cuts_ring ws) e in
    let f = ring_fits s.table ws p.0 p.1 in
    (f, ap (λ u. u.table) (perform_leaves s (cuts_ring ws) e) ∙ sym (ring_leaves s.table ws f))

-- JOB 5, whole
pub journal_promise : JournalPromise
journal_promise = record {
  opposites = undone;
  cuts = its_cuts;
  change = change_alike;
  ring = ring_alike;
  standing = standing;
  untouched = untouched;
  numbers = λ s d. (call_one s d).one;
  performed = λ s c. refused_reply (perform_refusal s c) _ s;
  checkpointed = λ s c. refused_reply (checkpoint_refusal s c) _ s;
  unplayed = unplayed;
  stayed = stayed;
  played = λ s tape e. (
    played s tape e,
    run_law Recorded TapeCommand journal_rule (recorded_in s) (contents_of tape).commands (contents_of tape).refusal,
  );
  went_back_by = λ s c e. (returned s c e, run_law Table Entry undo_rule s.table _ 0);
}
