-- The first command of a tape, accepted or refused: what it makes of the lines of the run and of the table.
use mathlib.Core.Path.{◌≡◌, sym, ap, ◌∙◌}
use mathlib.Core.List.{List, ◌++◌}
use mathlib.Core.Logic.{inl, inr}
use Prim.Native.Nat.{ℕ, ◌<◌}
use lib.Dec.{eqb}
use lib.ListN.{length, drop}
use borrow.Author.Tests.{eq-eqb, ne_eqb, eqb-true}
use Rattle.std.proofs.lemmas.Bool.{cases_Bool}
use Rattle.table.specs.Refusals.{or_else}
use Rattle.table.specs.Layout.{Table}
use Rattle.table.specs.Commands.{leaves}
use Rattle.table.specs.Replies.{number}
use Rattle.table.specs.declared.refusals.Refusal.{Refusal}
use Rattle.table.proofs.Replying.{number_positive}
use Rattle.tape.specs.Steps.{step_refusal, step_on, step_rule}
use Rattle.tape.specs.Runs.{run_of, first_refusal, first_leaves}
use Rattle.tape.specs.Tapes.{size_of, command_of, read_refusal}
use Rattle.tape.specs.Inner.{meaning}
use Rattle.tape.specs.declared.Instruction.{Instruction}
use Rattle.tape.proofs.Playing.{run_refused, run_stopped, run_on, first_read, first_accepted}
use Rattle.plan.specs.Lines.{refused_line, accepted_line, lines_of}
use Rattle.plan.specs.Inner.{instruction_line}
use Rattle.plan.proofs.Lines.{line_of_meaning, lines_refused, lines_stopped, lines_on}

-- the first command of the tape is the instruction i of n bytes, is accepted on the table w and leaves the table v: its
-- line comes first, and the lines of the run from v over what comes after it follow; and likewise for the table
pub record Accepts (w : Table) (tape : List ℕ) (i : Instruction) (n : ℕ) (v : Table) : Type 0 where
  pub lines : lines_of w tape ≡ instruction_line v i ++ lines_of v (drop n tape)
  pub table : (run_of w tape).state ≡ (run_of v (drop n tape)).state

-- the first command has the refusal n, which is all that the run writes, and nothing has changed
pub record Refuses (w : Table) (tape : List ℕ) (n : ℕ) (v : Table) : Type 0 where
  pub lines : lines_of w tape ≡ refused_line n
  pub table : (run_of w tape).state ≡ v

module _ (w : Table) (tape : List ℕ) (some : 0 < length tape) where
  -- it has a refusal and leaves v
  pub refuses :
      (r : Refusal) → number r ≡ first_refusal step_rule w tape → (v : Table) → v ≡ first_leaves step_rule w tape →
      Refuses w tape (number r) v
  unfolding first_refusal first_leaves leaves or_else
  refuses r e v l =
      let d = number_positive r in
      let u : v ≡ w = l ∙ rw (ne_eqb _ 0 (λ z. d (e ∙ z))) in
      elim (cases_Bool (eqb (read_refusal tape) 0)) [
        | inl q ↦
            let g : number r ≡ step_refusal w (command_of tape) = e ∙ rw q in
            let p = eqb-true (read_refusal tape) 0 q in
            let c : step_refusal w (command_of tape) ≡ 0 → ⊥ = λ z. d (g ∙ z) in
            record {
              lines = lines_stopped w tape some p c ∙ ap refused_line (sym g);
              table = ap (λ o. o.state) (run_stopped step_rule w tape some p c) ∙ sym u;
            }
        | inr q ↦
            let g : number r ≡ read_refusal tape = e ∙ rw q in
            let c : read_refusal tape ≡ 0 → ⊥ = λ z. d (g ∙ z) in
            record {
              lines = lines_refused w tape some c ∙ ap refused_line (sym g);
              table = ap (λ o. o.state) (run_refused step_rule w tape some c) ∙ sym u;
            }
      ]

  -- it is the instruction i of n bytes, is accepted and leaves v
  pub accepts :
      (i : Instruction) (n : ℕ) → (meaning tape i ≡ command_of tape) × (n ≡ size_of tape) →
      0 ≡ first_refusal step_rule w tape → (v : Table) → v ≡ first_leaves step_rule w tape → Accepts w tape i n v
  unfolding first_leaves leaves
  accepts i n a e v l =
      let r = first_read step_rule w tape (sym e) in
      let c = first_accepted step_rule w tape (sym e) in
      let s : v ≡ step_on w (command_of tape) = l ∙ rw (eq-eqb (first_refusal step_rule w tape) 0 (sym e)) in
      let q : instruction_line v i ≡ accepted_line (step_on w (command_of tape)) (command_of tape) =
      line_of_meaning v tape i ∙ rw (s, a.0) in
      record {
        lines = lines_on w tape some r c ∙ rw (q, s, a.1);
        table = ap (λ o. o.state) (run_on step_rule w tape some r c) ∙ rw (s, a.1);
      }
