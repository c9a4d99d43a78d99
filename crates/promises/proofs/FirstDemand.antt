-- The customer's first demand for the public calls: each refusal is one of the call's published numbers, being the
-- first of stages that each have one, and a refused call leaves what it was lent as it was.
use mathlib.Core.Path.{◌≡◌, refl, sym, ap, ◌∙◌}
use mathlib.Core.Bool.{Bool, true}
use mathlib.Core.List.{List, [], ◌∷◌}
use mathlib.Core.Logic.{◌↔◌}
use Prim.Native.Nat.{ℕ}
use native.Mathlib.Omega.{arith}
use lib.Dec.{eqb}
use lib.ListN.{length, length-take, length-drop}
use borrow.Author.Tests.{eq-eqb, ne_eqb}
use Rattle.lists.specs.Lists.{among}
use Rattle.lists.proofs.Bools.{by_cases}
use Rattle.hypermap.specs.Hypermap.{Hypermap}
use Rattle.table.specs.Refusals.{short_room}
use Rattle.table.specs.Limits.{words_per_dart}
use Rattle.table.specs.Layout.{Table}
use Rattle.table.specs.Commands.{command_on, leaves}
use Rattle.table.specs.Runs.{stopped, IsRun}
use Rattle.table.proofs.Stages.{refused}
use Rattle.table.proofs.Runs.{run_law}
use Rattle.table.proofs.Holding.{low, high}
use Rattle.parts.specs.declared.Part.TheVariants.{Edge}
use Rattle.rings.specs.Rings.{links_of, cut_along}
use Rattle.tape.specs.Steps.{step_rule}
use Rattle.tape.specs.Tapes.{contents_of}
use Rattle.kernel.specs.Calls.{call_refusal, call_leaves, ring_call_refusal, ring_call_leaves, report_on}
use Rattle.kernel.specs.Calls.{question_refusal, answer, same_answer, list_refusal, list_leaves, list_answer, look_of}
use Rattle.soundness.specs.Soundness.{tape_refusal}
use Rattle.kernel.specs.Tapes.{play_refusal, play_outcome, screen_refusal, screen_leaves}
use Rattle.promises.specs.FirstDemand.{Refuses, RefusesAnswer, RefusesReport, FirstDemand}
use Rattle.kernel.proofs.Judging.{darts_ready}
use Rattle.promises.proofs.RefusalNumbers.{One, unless_one, or_else_one, table_one, presence_one, command_one, ring_one}
use Rattle.promises.proofs.RefusalNumbers.{play_one, run_one}
use Rattle.promises.proofs.Accepted.{play_ran, answer_number}

-- WHAT A REFUSED CALL LEAVES AND ANSWERS
refuses : (n : ℕ) {ns : List ℕ} (v w : Table) → One n ns → Refuses n ns w (leaves n v w)
refuses n v w f = record { one = f.one; kept = λ z. sym (refused n n v w refl z) }

answer_refuses : (n : ℕ) (t : Bool) (k : ℕ) {ns : List ℕ} → One n ns → RefusesAnswer (answer n t k) ns
unfolding answer
answer_refuses n t k f =
    by_cases (eqb n 0)
    (λ e. rw e (record { one = λ z. absurd (z refl); zeros = λ z. absurd (z refl) }))
    (λ e. rw e (record { one = f.one; zeros = λ z. refl }))

list_refuses :
    (n : ℕ) (xs o : List ℕ) {ns : List ℕ} → One n ns → among short_room ns ≡ true →
    RefusesAnswer (list_answer n xs o) ns × (((list_answer n xs o).number ≡ 0 → ⊥) → list_leaves n xs o ≡ o)
unfolding list_answer list_leaves list_refusal
list_refuses n xs o f m = (
  answer_refuses (list_refusal n xs o) _ _ (or_else_one f (unless_one _ _ m)),
  λ z. rw (ne_eqb (list_refusal n xs o) 0 (λ e. z (answer_number (list_refusal n xs o) _ _ ∙ e))),
)

report_refuses : (n : ℕ) (m : Hypermap) {ns : List ℕ} → One n ns → RefusesReport (report_on n m) ns
unfolding report_on
report_refuses n m f =
    by_cases (eqb n 0)
    (λ e. rw e (record { one = λ z. absurd (z refl); zeros = λ z. absurd (z refl) }))
    (λ e. rw e (record { one = f.one; zeros = λ z. refl }))

-- A LOOK
four_words : (w : Table) (x : ℕ) → question_refusal w (x ∷ x ∷ []) ≡ 0 → length (look_of w x) ≡ words_per_dart
unfolding look_of
four_words w x e =
    let r = darts_ready w x x e in
    let l = low w x r.both.first in
    let h = high w x r.both.first in
    rw (eq-eqb (question_refusal w (x ∷ x ∷ [])) 0 e) (simp (length-take, length-drop) (omega arith))

look : (w : Table) (x : ℕ) → (look_of w x ≡ []) ↔ ((same_answer w Edge x x).number ≡ 0 → ⊥)
unfolding same_answer look_of
look w x =
    let f = question_refusal w (x ∷ x ∷ []) in (
      λ e z. let k = sym (four_words w x (sym (answer_number f _ _) ∙ z)) ∙ ap length e in omega arith,
      λ z. rw (ne_eqb f 0 (λ e. z (answer_number f _ _ ∙ e))),
    )

-- A RUN
played :
    (w : Table) (tape : List ℕ) →
    ((play_refusal w tape ≡ 0 → ⊥) → play_outcome w tape ≡ stopped (play_refusal w tape) w) ×
    (play_refusal w tape ≡ 0 →
    IsRun step_rule w (contents_of tape).commands (contents_of tape).refusal (play_outcome w tape))
unfolding play_outcome
played w tape = (
  λ z. rw (ne_eqb (play_refusal w tape) 0 z),
  λ e. rw (play_ran w tape e) (run_law _ _ step_rule w (contents_of tape).commands (contents_of tape).refusal),
)

-- DEMAND 1, whole
pub first_demand : FirstDemand
unfolding among call_leaves ring_call_leaves question_refusal same_answer screen_refusal tape_refusal screen_leaves
    leaves
first_demand = record {
  commands = λ w c. refuses (call_refusal w c) (command_on w c) w (command_one w c);
  rings = λ w ws. refuses (ring_call_refusal w ws) (cut_along (links_of ws) w) w (ring_one w ws);
  report = λ w. report_refuses _ _ (table_one w refl refl);
  component_report = λ w x. report_refuses _ _ (or_else_one (table_one w refl refl) (presence_one w _ refl refl));
  same = λ w p a b. answer_refuses _ _ _ (or_else_one (table_one w refl refl) (presence_one w _ refl refl));
  round = λ w o x out. list_refuses _ _ _ (or_else_one (table_one w refl refl) (presence_one w _ refl refl)) refl;
  marks = λ w out. list_refuses _ _ _ (table_one w refl refl) refl;
  look = look;
  unplayed = λ w tape. (play_one w tape).one;
  run = λ w tape. (run_one w tape).one;
  played = played;
  tapes = λ w out. list_refuses _ _ _ (table_one w refl refl) refl;
  screen = λ tape out. refuses _ _ out (or_else_one (unless_one _ _ refl) (unless_one _ _ refl));
}
