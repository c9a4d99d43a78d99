-- The call for a tape's needs keeps its promise: what it counts is what a run that nothing stops goes through.
use mathlib.Core.Path.{◌≡◌, refl, sym, ap, ◌∙◌}
use mathlib.Core.Bool.{true}
use mathlib.Core.List.{List, [], ◌∷◌}
use Prim.Native.Nat.{ℕ, ◌*◌, ◌≤◌}
use native.Mathlib.Omega.{arith}
use lib.Dec.{eqb}
use lib.ListN.{length}
use borrow.Author.Tests.{eqb-true, eqb-false, eq-eqb}
use Rattle.lists.specs.Lists.{among, all}
use Rattle.lists.proofs.Bools.{by_cases}
use Rattle.table.specs.Refusals.{wrong_size, unknown_command, torn_command}
use Rattle.table.specs.Limits.{words_per_dart}
use Rattle.table.specs.Layout.{Table, capacity, holds_hypermap}
use Rattle.table.specs.Runs.{AllAccepted}
use Rattle.table.proofs.Stages.{passed}
use Rattle.tape.specs.Steps.{TapeCommand, step_rule}
use Rattle.tape.specs.Tapes.{Contents, contents_of}
use Rattle.tape.specs.Runs.{run_of}
use Rattle.table.proofs.Runs.{unstopped}
use Rattle.needs.specs.Amounts.{refused_needs, needs_of, needed_by}
use Rattle.needs.specs.declared.Needs.{Needs}
use Rattle.needs.proofs.Capacities.{capacity_law, accepted_capacity_law}
use Rattle.needs.proofs.Peaks.{peak_law, most_darts_law, no_darts}
use Rattle.needs.proofs.ChangedWords.{words_law}
use Rattle.soundness.specs.Soundness.{table_refusal, tape_refusal}
use Rattle.kernel.specs.Tapes.{play_refusal, play_outcome, needs_answer, empty_table}
use Rattle.promises.specs.TapeNeeds.{IsForetold, NeedsPromise}
use Rattle.soundness.proofs.Passing.{table_passed}
use Rattle.kernel.proofs.Tapes.{needs_long, needs_read}
use Rattle.promises.proofs.Accepted.{play_ran}
use Rattle.promises.proofs.RefusalNumbers.{One, unless_one, contents_one, widen}

-- THE ANSWER
needed_number : (t : Contents) → (needed_by t).number ≡ t.refusal
unfolding needed_by
needed_number t =
    by_cases (eqb t.refusal 0) (λ e. rw e (sym (eqb-true t.refusal 0 e))) (λ f. rw f)

needed_zeros : (t : Contents) → ((needed_by t).number ≡ 0 → ⊥) → needed_by t ≡ refused_needs (needed_by t).number
unfolding needed_by
needed_zeros t z =
    by_cases (eqb t.refusal 0)
    (λ e. absurd (z (needed_number t ∙ eqb-true t.refusal 0 e)))
    (λ f. rw f)

abbrev numbers : List ℕ
numbers = wrong_size ∷ unknown_command ∷ torn_command ∷ []

tape_one : (bs : List ℕ) → One (tape_refusal bs) numbers
unfolding tape_refusal among
tape_one bs = unless_one _ _ refl

contents_wide : (bs : List ℕ) → One (contents_of bs).refusal numbers
unfolding among all
contents_wide bs = widen numbers refl (contents_one (length bs) bs)

-- refused for its size, or as the reading ends
module _ (bs : List ℕ) where
  answer_cases :
      (P : Needs → Type 0) → ((tape_refusal bs ≡ 0 → ⊥) → P (refused_needs (tape_refusal bs))) →
      (tape_refusal bs ≡ 0 → P (needed_by (contents_of bs))) → P (needs_answer bs)
  unfolding needs_answer
  answer_cases P f g =
      by_cases (eqb (tape_refusal bs) 0)
      (λ e. rw e (g (eqb-true (tape_refusal bs) 0 e)))
      (λ e. rw e (f (eqb-false (tape_refusal bs) 0 e)))

  accepted : (needs_answer bs).number ≡ 0 → needs_answer bs ≡ needs_of (contents_of bs).commands
  unfolding needed_by
  accepted =
      answer_cases (λ a. a.number ≡ 0 → a ≡ needs_of (contents_of bs).commands)
      (λ d e. absurd (d e))
      (λ z e. rw (eq-eqb (contents_of bs).refusal 0 (sym (needed_number (contents_of bs)) ∙ e)))

  -- A RUN that nothing stops
  module _ (w : Table) (e : (play_outcome w bs).number ≡ 0) where
    unjudged : play_refusal w bs ≡ 0
    unfolding play_outcome
    unjudged =
        by_cases (eqb (play_refusal w bs) 0)
        (λ t. eqb-true (play_refusal w bs) 0 t)
        (λ f. rw f at e)

    ran : play_outcome w bs ≡ run_of w bs
    ran = play_ran w bs unjudged

    stages : (tape_refusal bs ≡ 0) × (table_refusal w ≡ 0)
    unfolding play_refusal
    stages = passed (tape_refusal bs) (table_refusal w) unjudged

    hypermap : holds_hypermap w ≡ true
    hypermap = (table_passed w stages.1).hypermap

    abbrev cs : List TapeCommand
    cs = (contents_of bs).commands

    whole : AllAccepted step_rule w cs × ((contents_of bs).refusal ≡ 0) × ((run_of w bs).accepted ≡ length cs)
    whole = unstopped step_rule cs w (contents_of bs).refusal (rw ran at e)

    foretold : needs_answer bs ≡ needs_of cs
    unfolding needs_answer needed_by
    foretold = rw (eq-eqb (tape_refusal bs) 0 stages.0, eq-eqb (contents_of bs).refusal 0 whole.1)

fits : (w : Table) (bs : List ℕ) → (play_outcome w bs).number ≡ 0 → (needs_answer bs).capacity ≤ capacity w
fits w bs e =
    rw (foretold bs w e) (accepted_capacity_law w (contents_of bs).commands (hypermap bs w e) (whole bs w e).0)

run : (n : ℕ) (bs : List ℕ) → (play_outcome (empty_table n) bs).number ≡ 0 → IsForetold n bs
unfolding empty_table
run n bs e =
    let w = empty_table n in
    let s = hypermap bs w e in
    let h = whole bs w e in
    let f = foretold bs w e in
    let m = most_darts_law w (contents_of bs).commands s h.0 in
    record {
      answered = ap (λ a. a.number) f;
      commands = ap (λ a. a.commands) f ∙ sym h.2 ∙ sym (ap (λ o. o.accepted) (ran bs w e));
      most = ap (λ a. a.peak) f ∙ omega (arith, no_darts (words_per_dart * n));
      words = ap (λ a. a.words) f ∙ sym (words_law w (contents_of bs).commands s h.0);
    }

pub needs_promise : NeedsPromise
needs_promise = record {
  one = λ bs. (answer_cases bs (λ a. One a.number numbers)
      (λ d. tape_one bs)
      (λ z. rw (needed_number (contents_of bs)) (contents_wide bs))).one;
  zeros = λ bs. answer_cases bs (λ a. (a.number ≡ 0 → ⊥) → a ≡ refused_needs a.number)
      (λ d z. refl)
      (λ e. needed_zeros (contents_of bs));
  long = λ bs l. sym (ap (λ a. a.number) (needs_long bs l));
  unreadable = λ bs l. sym (ap (λ a. a.number) (needs_read bs l)) ∙ needed_number (contents_of bs);
  count = λ bs e. ap (λ a. a.commands) (accepted bs e);
  least = λ w bs e. rw (accepted bs e) (capacity_law w (contents_of bs).commands);
  fits = fits;
  peak = λ bs e. rw (accepted bs e) (peak_law (contents_of bs).commands);
  run = run;
}
