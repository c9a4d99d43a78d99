-- The way back to a checkpoint: from where it was set every call keeps it as long as the checkpoint stands, and at its
-- end going back meets no refusal and leaves the table of the start.
use mathlib.Core.Path.{◌≡◌, ap, sym, ◌∙◌}
use mathlib.Core.Bool.{true}
use mathlib.Core.List.{List, [], ◌∷◌}
use mathlib.Core.Logic.{◌≢◌}
use Prim.Native.Nat.{ℕ, ◌-◌, ◌%◌, ◌≤◌}
use native.Mathlib.Omega.{arith}
use lib.Dec.{ltb, eqb}
use lib.ListN.{length}
use borrow.Author.Tests.{eqb-true, eq-eqb, ne_eqb, ltb-true}
use Rattle.lists.specs.Lists.{all}
use Rattle.lists.proofs.Bools.{by_cases, and_left, and_right}
use Rattle.table.specs.Limits.{words_per_dart, unset, checkpoint_count}
use Rattle.table.specs.Refusals.{undo_unfit, no_mark, or_else, unless}
use Rattle.table.specs.Layout.{Table}
use Rattle.table.specs.Commands.{leaves}
use Rattle.table.proofs.Stages.{passed, fitting}
use Rattle.tape.specs.Steps.{TapeCommand}
use Rattle.tape.specs.Tapes.{contents_of}
use Rattle.soundness.specs.Soundness.{table_refusal}
use Rattle.soundness.proofs.Passing.{table_passed, whole_words}
use Rattle.journal.specs.Heads.{has_room, checkpoint_fits, head_fits, head_refusal, checkpoint_of, cut_back}
use Rattle.journal.specs.Heads.{set_refusal, back_refusal}
use Rattle.journal.specs.Journaling.{journaled_refusal, journaled_on}
use Rattle.journal.proofs.Room.{room_known}
use Rattle.journal.proofs.Checkpoints.{longer_fits, set_fits, cut_back_fits, set_checkpoint_low, just_set, other_set}
use Rattle.journal.proofs.Checkpoints.{back_passed, kept_low, low_kept}
use Rattle.journal.proofs.ComingBack.{Returnable, returnable_now, journaled_returnable, run_returnable}
use Rattle.journal.proofs.ComingBack.{went_back_returnable, comes_back}
use Rattle.journal_calls.specs.Calls.{State, recorded_in, with_recorded, state_refusal, perform_refusal}
use Rattle.journal_calls.specs.Calls.{journal_play_refusal, play_reply, checkpoint_refusal, back_call_refusal}
use Rattle.journal_calls.specs.Calls.{undoing_to, went_back, back_reply, Call, performs, plays, sets_checkpoint}
use Rattle.journal_calls.specs.Calls.{goes_back, reply}
use Rattle.promises.specs.Journals.{state_after, ComesBack, Stands, Untouched, ComesBackIf}
use Rattle.promises.proofs.Changes.{changed}
use Rattle.promises.proofs.JournalRefusals.{returned}

pub whole_darts : (w : Table) → table_refusal w ≡ 0 → length w % words_per_dart ≡ 0
whole_darts w e = let l = whole_words w (table_passed w e).size in omega arith

-- THE WAY BACK to p entries and the table t
record WayBack (s : State) (p : ℕ) (t : Table) : Type 0 where
  returnable : Returnable (recorded_in s) p t
  fits : all (checkpoint_fits s.head.length) s.head.checkpoints ≡ true

not_unset : (s : State) (p : ℕ) (t : Table) → WayBack s p t → p ≢ unset
not_unset s p t b =
    let r = b.returnable in
    let h = room_known s.journal s.head.length r.room in
    omega (arith, r.low)

module _ (p : ℕ) (t : Table) (sound : table_refusal t ≡ 0) where
  leaves_keeps : (n : ℕ) (u s : State) → WayBack s p t → (n ≡ 0 → WayBack u p t) → WayBack (leaves n u s) p t
  unfolding leaves
  leaves_keeps n u s b f = by_cases (eqb n 0) (λ e. rw e (f (eqb-true n 0 e))) (λ e. rw e b)

  module _ (s : State) (b : WayBack s p t) where
    perform_keeps : (c : TapeCommand) → WayBack (reply s (performs c)).state p t
    unfolding perform_refusal
    perform_keeps c =
        leaves_keeps (perform_refusal s c) (with_recorded s (journaled_on (recorded_in s) c)) s b (λ e. record {
          returnable =
              journaled_returnable p t (whole_darts t sound) (recorded_in s) c b.returnable
              (passed (state_refusal s) (journaled_refusal (recorded_in s) c) e).1;
          fits = longer_fits s.head.length _ (omega arith) s.head.checkpoints b.fits;
        })

    play_keeps : (tape : List ℕ) → WayBack (reply s (plays tape)).state p t
    unfolding play_reply
    play_keeps tape =
        by_cases (eqb (journal_play_refusal s tape) 0)
        (λ f.
        let r = run_returnable p t (whole_darts t sound) (recorded_in s) (contents_of tape).commands
        (contents_of tape).refusal b.returnable in
        rw f (record {
          returnable = r.0;
          fits = longer_fits s.head.length _ r.1 s.head.checkpoints b.fits;
        }))
        (λ f. rw f b)

    checkpoint_keeps : (c : ℕ) → WayBack (reply s (sets_checkpoint c)).state p t
    checkpoint_keeps c =
        leaves_keeps (checkpoint_refusal s c) _ s b (λ e. record {
          returnable = b.returnable;
          fits = set_fits s.head.length c s.head.checkpoints b.fits;
        })

    -- going back, there or stopped, where a checkpoint at p stands before and after
    go_back_keeps :
        (c d : ℕ) → checkpoint_of s.head c ≡ p → checkpoint_of (reply s (goes_back d)).state.head c ≡ p →
        WayBack (reply s (goes_back d)).state p t
    unfolding back_reply back_call_refusal
    go_back_keeps c d before after =
        by_cases (eqb (back_call_refusal s d) 0)
        (λ f.
        let h = s.head in
        let u = back_passed h d (passed (state_refusal s) (back_refusal h d) (eqb-true _ _ f)).1 in
        let n = h.length - (undoing_to s d).accepted in
        rw f (record {
          returnable =
              went_back_returnable p t (recorded_in s) (checkpoint_of h d) b.returnable
              (set_checkpoint_low h d b.fits u) (kept_low h c n p before (not_unset s p t b) (rw f at after));
          fits = cut_back_fits n h.checkpoints;
        }))
        (λ f. rw f b)

  call_keeps :
      (s : State) (c : ℕ) (d : Call) → WayBack s p t → checkpoint_of s.head c ≡ p →
      checkpoint_of (reply s d).state.head c ≡ p → WayBack (reply s d).state p t
  call_keeps s c (performs e) b before after = perform_keeps s b e
  call_keeps s c (plays tape) b before after = play_keeps s b tape
  call_keeps s c (sets_checkpoint d) b before after = checkpoint_keeps s b d
  call_keeps s c (goes_back d) b before after = go_back_keeps s b c d before after

  stands_now : (s : State) (c : ℕ) (ds : List Call) → Stands c p s ds → checkpoint_of s.head c ≡ p
  stands_now s c [] a = a
  stands_now s c (d ∷ ds) a = a.0

  calls_keep :
      (s : State) (c : ℕ) (ds : List Call) → WayBack s p t → Stands c p s ds →
      WayBack (state_after s ds) p t × (checkpoint_of (state_after s ds).head c ≡ p)
  calls_keep s c [] b a = (b, a)
  calls_keep s c (d ∷ ds) b a =
      let v = (reply s d).state in
      calls_keep v c ds (call_keeps s c d b a.0 (stands_now v c ds a.1)) a.1

  -- GOING IT meets no refusal
  module _ (s : State) (c : ℕ) (b : WayBack s p t) (e : checkpoint_of s.head c ≡ p) where
    back_accepted : ltb c checkpoint_count ≡ true → back_call_refusal s c ≡ 0
    unfolding back_call_refusal state_refusal head_refusal head_fits back_refusal or_else unless
    back_accepted u =
        let l = b.returnable.back in
        let z = (changed t sound s.table (l.hypermap, l.size)).sound in
        rw (z, b.returnable.room, b.fits, e, u, ne_eqb p unset (not_unset s p t b))

    came_back : ltb c checkpoint_count ≡ true → ComesBack s c p t
    came_back u =
        let h = s.head in
        let o : undoing_to s c ≡ record { number = 0; accepted = h.length - p; state = t } =
        rw e (comes_back p t (recorded_in s) b.returnable) in
        let r = returned s c (back_accepted u) ∙ ap (went_back s) o in
        let z : h.length - (h.length - p) ≡ p = omega (arith, b.returnable.low) in
        record {
          accepted = ap (λ y. y.number) r;
          undone = ap (λ y. y.accepted) r;
          table = ap (λ y. y.state.table) r;
          head = ap (λ y. y.state.head) r ∙ ap (λ n. cut_back n h) z;
        }

-- ITS START: where the checkpoint is set nothing is to be undone
module _ (s : State) (c : ℕ) (e : (reply s (sets_checkpoint c)).number ≡ 0) where
  number_fits : ltb c checkpoint_count ≡ true
  unfolding checkpoint_refusal set_refusal
  number_fits = fitting (ltb c checkpoint_count) no_mark (omega arith) (passed (head_refusal s.journal s.head) _ e).1

  way_starts : table_refusal s.table ≡ 0 → WayBack s s.head.length s.table
  unfolding checkpoint_refusal head_refusal head_fits
  way_starts t =
      let h = s.head in
      let f = fitting (head_fits s.journal h) undo_unfit (omega arith) (passed _ (set_refusal c) e).0 in
      record {
        returnable = returnable_now (recorded_in s) (table_passed s.table t).hypermap (and_left _ _ f);
        fits = and_right (has_room s.journal h.length) _ f;
      }

pub standing : ComesBackIf (λ s c ds. Stands c s.head.length (reply s (sets_checkpoint c)).state ds)
standing s c t e ds a =
    let p = s.head.length in
    let v = (reply s (sets_checkpoint c)).state in
    let r = calls_keep p s.table t v c ds (checkpoint_keeps p s.table t s (way_starts s c e t) c) a in
    came_back p s.table t (state_after v ds) c r.0 r.1 (number_fits s c e)

-- IN THE CALLS' WORDS
still_stands :
    (s : State) (c p : ℕ) (d : Call) → checkpoint_of s.head c ≡ p → (d ≡ sets_checkpoint c → ⊥) →
    p ≤ (reply s d).state.head.length → checkpoint_of (reply s d).state.head c ≡ p
unfolding leaves play_reply back_reply checkpoint_of
still_stands s c p (performs b) e n l = by_cases (eqb (perform_refusal s b) 0) (λ f. rw f e) (λ f. rw f e)
still_stands s c p (plays tape) e n l = by_cases (eqb (journal_play_refusal s tape) 0) (λ f. rw f e) (λ f. rw f e)
still_stands s c p (sets_checkpoint d) e n l =
    by_cases (eqb (checkpoint_refusal s d) 0)
    (λ f. rw f (other_set s.head c d (λ q. n (ap sets_checkpoint (sym q))) ∙ e))
    (λ f. rw f e)
still_stands s c p (goes_back d) e n l =
    by_cases (eqb (back_call_refusal s d) 0) (λ f. rw f (low_kept s.head c _ p e (rw f at l))) (λ f. rw f e)

untouched_stands :
    (s : State) (c p : ℕ) (ds : List Call) → checkpoint_of s.head c ≡ p → Untouched c p s ds → Stands c p s ds
untouched_stands s c p [] e u = e
untouched_stands s c p (d ∷ ds) e u =
    (e, untouched_stands (reply s d).state c p ds (still_stands s c p d e u.0 u.1) u.2)

stands_at_first :
    (s : State) (c : ℕ) → (reply s (sets_checkpoint c)).number ≡ 0 → length s.head.checkpoints ≡ checkpoint_count →
    checkpoint_of (reply s (sets_checkpoint c)).state.head c ≡ s.head.length
unfolding leaves
stands_at_first s c e z =
    let l = ltb-true c checkpoint_count (number_fits s c e) in
    rw (eq-eqb (checkpoint_refusal s c) 0 e) (just_set s.head c (omega arith))

pub untouched :
    ComesBackIf (λ s c ds. (length s.head.checkpoints ≡ checkpoint_count) ×
    Untouched c s.head.length (reply s (sets_checkpoint c)).state ds)
untouched s c t e ds u =
    standing s c t e ds
    (untouched_stands (reply s (sets_checkpoint c)).state c s.head.length ds (stands_at_first s c e u.0) u.1)
