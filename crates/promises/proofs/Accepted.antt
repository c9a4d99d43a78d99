-- What a public call that was not refused has passed, that what has passed is not refused, and what an accepted report
-- gives.
use mathlib.Core.Path.{◌≡◌, refl, sym, ◌∙◌}
use mathlib.Core.Bool.{Bool, true, false}
use mathlib.Core.List.{List, [], ◌∷◌}
use Prim.Native.Nat.{ℕ, ◌≤◌}
use lib.Dec.{eqb, leb}
use lib.ListN.{length}
use borrow.Author.Tests.{eqb-true, eqb-false, eq-eqb, le-leb}
use Rattle.lists.specs.Lists.{all}
use Rattle.lists.proofs.Bools.{by_cases}
use Rattle.hypermap.specs.Hypermap.{Hypermap, edges, vertices, faces, components, characteristic, genus, component_at}
use Rattle.table.specs.Refusals.{short_room, or_else, unless}
use Rattle.table.specs.Layout.{Table, is_present, hypermap_of}
use Rattle.table.specs.Commands.{Command, presence_refusal, command_refusal, command_on, leaves}
use Rattle.table.proofs.Stages.{passed, refused_first, refused_second, present_fits}
use Rattle.parts.specs.Counts.{lifts, counts_of}
use Rattle.soundness.specs.Soundness.{table_refusal, tape_refusal}
use Rattle.rings.specs.Rings.{links_of, ring_refusal, cut_along}
use Rattle.tape.specs.Runs.{run_of}
use Rattle.kernel.specs.Calls.{call_refusal, call_leaves, ring_call_refusal, ring_call_leaves, report_on, report_of}
use Rattle.kernel.specs.Calls.{question_refusal, component_report_of, answer, list_refusal, list_answer}
use Rattle.kernel.specs.Tapes.{play_refusal, play_outcome}
use Rattle.kernel.specs.declared.Totals.{Totals}

-- A REPORT
pub record Reported (t : Totals) (m : Hypermap) : Type 0 where
  pub number : t.number ≡ 0
  pub darts : t.darts ≡ length m.darts
  pub edges : t.edges ≡ edges m
  pub vertices : t.vertices ≡ vertices m
  pub faces : t.faces ≡ faces m
  pub components : t.components ≡ components m
  pub characteristic : t.characteristic ≡ characteristic m
  pub genus : t.genus ≡ genus m
  pub lifts : t.lifts ≡ lifts m

reported : (n : ℕ) (m : Hypermap) → n ≡ 0 → Reported (report_on n m) m
unfolding report_on counts_of
reported n m e =
    let t = eq-eqb n 0 e in
    record {
      number = rw t;
      darts = rw t;
      edges = rw t;
      vertices = rw t;
      faces = rw t;
      components = rw t;
      characteristic = rw t;
      genus = rw t;
      lifts = rw t;
    }

pub report_number : (n : ℕ) (m : Hypermap) → (report_on n m).number ≡ n
unfolding report_on
report_number n m = by_cases (eqb n 0) (λ t. rw t (sym (eqb-true n 0 t))) (λ t. rw t)

pub plan_reported : (w : Table) → table_refusal w ≡ 0 → Reported (report_of w) (hypermap_of w)
plan_reported w e = reported (table_refusal w) (hypermap_of w) e

pub report_passed : (w : Table) → (report_of w).number ≡ 0 → table_refusal w ≡ 0
report_passed w e = sym (report_number (table_refusal w) (hypermap_of w)) ∙ e

-- A COMMAND
pub call_passed : (w : Table) (c : Command) → call_refusal w c ≡ 0 → (table_refusal w ≡ 0) × (command_refusal w c ≡ 0)
unfolding call_refusal
call_passed w c e = passed (table_refusal w) (command_refusal w c) e

pub call_fits : (w : Table) (c : Command) → table_refusal w ≡ 0 → command_refusal w c ≡ 0 → call_refusal w c ≡ 0
unfolding call_refusal or_else
call_fits w c e f = rw (e, f)

pub accepted_leaves : (w : Table) (c : Command) → call_refusal w c ≡ 0 → call_leaves w c ≡ command_on w c
unfolding call_leaves leaves
accepted_leaves w c e = rw (eq-eqb (call_refusal w c) 0 e)

-- A RING
pub ring_passed : (w : Table) (ws : List ℕ) → ring_call_refusal w ws ≡ 0 → (table_refusal w ≡ 0) ×
    (ring_refusal w ws ≡ 0)
unfolding ring_call_refusal
ring_passed w ws e = passed (table_refusal w) (ring_refusal w ws) e

pub ring_fits : (w : Table) (ws : List ℕ) → table_refusal w ≡ 0 → ring_refusal w ws ≡ 0 → ring_call_refusal w ws ≡ 0
unfolding ring_call_refusal or_else
ring_fits w ws e f = rw (e, f)

pub ring_leaves : (w : Table) (ws : List ℕ) → ring_call_refusal w ws ≡ 0 →
    ring_call_leaves w ws ≡ cut_along (links_of ws) w
unfolding ring_call_leaves leaves
ring_leaves w ws e = rw (eq-eqb (ring_call_refusal w ws) 0 e)

-- A RUN
pub play_fits : (w : Table) (bs : List ℕ) → tape_refusal bs ≡ 0 → table_refusal w ≡ 0 → play_refusal w bs ≡ 0
unfolding play_refusal or_else
play_fits w bs e f = rw (e, f)

pub play_ran : (w : Table) (bs : List ℕ) → play_refusal w bs ≡ 0 → play_outcome w bs ≡ run_of w bs
unfolding play_outcome
play_ran w bs e = rw (eq-eqb (play_refusal w bs) 0 e)

-- A QUESTION about darts
pub question_table : (w : Table) (xs : List ℕ) → question_refusal w xs ≡ 0 → table_refusal w ≡ 0
unfolding question_refusal
question_table w xs e = (passed (table_refusal w) (presence_refusal w xs) e).0

all_fit :
    (w : Table) (xs : List ℕ) → table_refusal w ≡ 0 → all (is_present w) xs ≡ true → question_refusal w xs ≡ 0
unfolding question_refusal or_else
all_fit w xs e p = rw (e, present_fits w xs p)

pub question_fits : (w : Table) (x : ℕ) → table_refusal w ≡ 0 → is_present w x ≡ true → question_refusal w (x ∷ []) ≡ 0
unfolding all
question_fits w x e p = all_fit w (x ∷ []) e (rw p)

pub question_fits_both :
    (w : Table) (a b : ℕ) → table_refusal w ≡ 0 → is_present w a ≡ true → is_present w b ≡ true →
    question_refusal w (a ∷ b ∷ []) ≡ 0
unfolding all
question_fits_both w a b e p q = all_fit w (a ∷ b ∷ []) e (rw (p, q))

-- a report of the component of x
pub component_passed : (w : Table) (x : ℕ) → (component_report_of w x).number ≡ 0 → question_refusal w (x ∷ []) ≡ 0
component_passed w x e = sym (report_number (question_refusal w (x ∷ [])) (component_at (hypermap_of w) x)) ∙ e

pub component_reported :
    (w : Table) (x : ℕ) → question_refusal w (x ∷ []) ≡ 0 →
    Reported (component_report_of w x) (component_at (hypermap_of w) x)
component_reported w x e = reported (question_refusal w (x ∷ [])) (component_at (hypermap_of w) x) e

-- AN ANSWER
pub answer_number : (n : ℕ) (t : Bool) (k : ℕ) → (answer n t k).number ≡ n
unfolding answer
answer_number n t k = by_cases (eqb n 0) (λ e. rw e (sym (eqb-true n 0 e))) (λ e. rw e)

-- LISTS: what an accepted one has passed
pub list_passed : (n : ℕ) (xs o : List ℕ) → (list_answer n xs o).number ≡ 0 → (n ≡ 0) × (list_refusal n xs o ≡ 0)
unfolding list_answer list_refusal
list_passed n xs o e =
    let z = sym (answer_number (list_refusal n xs o) false (length xs)) ∙ e in
    ((passed n (unless (leb (length xs) (length o)) short_room) z).0, z)

-- with room for the list, only what comes before the room is refused
pub list_room : (n : ℕ) (xs o : List ℕ) → (n ≡ 0 → length xs ≤ length o) → (list_answer n xs o).number ≡ n
unfolding list_answer list_refusal unless
list_room n xs o h =
    answer_number (list_refusal n xs o) false (length xs) ∙
    by_cases (eqb n 0)
    (λ t. let z = eqb-true n 0 t in sym (refused_second n _ n n refl z (rw (le-leb (length xs) (length o) (h z)) z)))
    (λ t. sym (refused_first n _ n refl (eqb-false n 0 t)))
