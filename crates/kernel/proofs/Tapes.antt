-- How the calls about tapes answer: the tape is judged, then the table, and then the run or the writer answers.
use mathlib.Core.Path.{◌≡◌, refl, sym, ◌∙◌}
use mathlib.Core.List.{List}
use Prim.Native.Nat.{ℕ, ◌≤◌, ◌<◌}
use native.Mathlib.Omega.{arith}
use lib.ListN.{length}
use borrow.Author.Tests.{eq-eqb, ne_eqb, le-leb, lt-leb}
use Rattle.table.specs.Refusals.{wrong_size, unless}
use Rattle.table.specs.Layout.{Table}
use Rattle.table.proofs.Stages.{refused_second}
use Rattle.tape.specs.Tapes.{contents_of}
use Rattle.tape.specs.Runs.{run_of}
use Rattle.needs.specs.Amounts.{refused_needs, needed_by}
use Rattle.soundness.specs.Soundness.{table_refusal, tape_refusal}
use Rattle.table.specs.Limits.{max_tape}
use Rattle.kernel.specs.Tapes.{play_refusal, play_outcome, needs_answer}

-- THE TAPE's size
pub tape_long : (bs : List ℕ) → max_tape < length bs → wrong_size ≡ tape_refusal bs
unfolding tape_refusal unless
tape_long bs l = rw (lt-leb (length bs) max_tape l)

pub tape_short : (bs : List ℕ) → length bs ≤ max_tape → tape_refusal bs ≡ 0
unfolding tape_refusal unless
tape_short bs l = rw (le-leb (length bs) max_tape l)

-- A RUN
module _ (w : Table) (bs : List ℕ) where
  pub played : length bs ≤ max_tape → (f : ℕ) → f ≡ table_refusal w → f ≡ 0 → play_outcome w bs ≡ run_of w bs
  unfolding play_outcome play_refusal
  played l f e z =
      let o = refused_second (tape_refusal bs) (table_refusal w) 0 f (sym (tape_short bs l)) refl e in
      rw (eq-eqb (play_refusal w bs) 0 (sym o ∙ z))

-- THE NEEDS
pub needs_long : (bs : List ℕ) → max_tape < length bs → refused_needs wrong_size ≡ needs_answer bs
unfolding needs_answer
needs_long bs l =
    let e = tape_long bs l in
    rw (ne_eqb (tape_refusal bs) 0 (λ z. absurd (omega arith)), e) refl

pub needs_read : (bs : List ℕ) → length bs ≤ max_tape → needed_by (contents_of bs) ≡ needs_answer bs
unfolding needs_answer
needs_read bs l = rw (eq-eqb (tape_refusal bs) 0 (tape_short bs l))
