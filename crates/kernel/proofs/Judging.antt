-- What a question that was not refused has passed, and how many marks there are.
use mathlib.Core.Path.{◌≡◌, refl, sym, ◌∙◌}
use mathlib.Core.Bool.{false}
use mathlib.Core.List.{[], ◌∷◌}
use Prim.Native.Nat.{ℕ}
use lib.ListN.{length}
use Rattle.hypermap.specs.Hypermap.{component_of}
use Rattle.table.specs.Layout.{Table, capacity, hypermap_of}
use Rattle.table.specs.Inner.{WithinCapacityAt, WithinCapacityAtBoth}
use Rattle.table.specs.Commands.{presence_refusal}
use Rattle.table.proofs.Stages.{passed, one_present, both_present}
use Rattle.parts.specs.Marks.{component_marks}
use Rattle.parts.specs.Sharing.{is_same, steps_round}
use Rattle.parts.specs.declared.Part.{Part}
use Rattle.parts.specs.declared.Part.TheVariants.{Edge, Vertex, Face, Component}
use Rattle.parts.proofs.LeastMarks.{marks_length}
use Rattle.soundness.specs.Soundness.{table_refusal}
use Rattle.soundness.proofs.Passing.{table_passed}
use Rattle.kernel.specs.Calls.{question_refusal}

-- as many marks as the capacity
pub marks_many : (w : Table) (n : ℕ) → n ≡ capacity w → n ≡ length (component_marks w)
marks_many w n e = e ∙ sym (marks_length w (component_of (hypermap_of w)))

-- A QUESTION about one dart and about two
pub dart_ready : (w : Table) (x : ℕ) → question_refusal w (x ∷ []) ≡ 0 → WithinCapacityAt w x
unfolding question_refusal
dart_ready w x e =
    let p = passed (table_refusal w) (presence_refusal w (x ∷ [])) e in
    let t = table_passed w p.0 in
    record { at = record { hypermap = t.hypermap; here = one_present w x p.1 }; room = t.room }

pub darts_ready : (w : Table) (a b : ℕ) → question_refusal w (a ∷ b ∷ []) ≡ 0 → WithinCapacityAtBoth w a b
unfolding question_refusal
darts_ready w a b e =
    let p = passed (table_refusal w) (presence_refusal w (a ∷ b ∷ [])) e in
    let t = table_passed w p.0 in
    let q = both_present w a b p.1 in
    record { both = record { hypermap = t.hypermap; first = q.0; second = q.1 }; room = t.room }

-- no steps are told where two darts share no part
pub no_steps : (w : Table) (p : Part) (a b : ℕ) → is_same w p a b ≡ false → steps_round w p a b ≡ 0
no_steps w Edge a b e = rw e
no_steps w Vertex a b e = rw e
no_steps w Face a b e = refl
no_steps w Component a b e = refl

-- WHAT THE CHECK TRIES BY ITSELF on a question that was not refused. It takes a lemma up at the first term of what it
-- says, so these say that term first
pub dart_judged :
    (w : Table) (x : ℕ) → question_refusal w (x ∷ []) ≡ 0 → (question_refusal w (x ∷ []) ≡ 0) × WithinCapacityAt w x
dart_judged w x e = (e, dart_ready w x e)

pub darts_judged :
    (w : Table) (a b : ℕ) → question_refusal w (a ∷ b ∷ []) ≡ 0 →
    (question_refusal w (a ∷ b ∷ []) ≡ 0) × WithinCapacityAtBoth w a b
darts_judged w a b e = (e, darts_ready w a b e)
