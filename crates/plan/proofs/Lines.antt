-- The lines of a run by its first command.
use mathlib.Core.Path.{◌≡◌, refl, ap, ◌∙◌}
use mathlib.Core.List.{List, [], ◌++◌}
use Prim.Native.Nat.{ℕ, ◌<◌}
use lib.ListN.{length}
use borrow.Author.Tests.{eq-eqb, ne_eqb}
use Rattle.table.specs.Layout.{Table}
use Rattle.tape.specs.Steps.{step_refusal, step_on}
use Rattle.tape.specs.Tapes.{Contents, command_of, read_refusal, rest_of}
use Rattle.tape.specs.Inner.{meaning}
use Rattle.tape.specs.declared.Instruction.{Instruction}
use Rattle.tape.specs.declared.Instruction.TheVariants as instruction
use Rattle.tape.proofs.Contents.{reading_law}
use Rattle.plan.specs.Lines.{refused_line, accepted_line, lines_over, lines_of}
use Rattle.plan.specs.Inner.{instruction_line}

-- an instruction has the line of the command that it stands for
pub line_of_meaning : (w : Table) (bs : List ℕ) (i : Instruction) →
    instruction_line w i ≡ accepted_line w (meaning bs i)
line_of_meaning w bs (instruction.Change c) = refl
line_of_meaning w bs instruction.Report = refl
line_of_meaning w bs (instruction.RingCut n) = refl

abbrev lines_through : Table → Contents → List ℕ
lines_through w t = lines_over w t.commands t.refusal

module _ (w : Table) (bs : List ℕ) where
  pub lines_none : length bs ≡ 0 → lines_of w bs ≡ []
  unfolding lines_over
  lines_none e = ap (lines_through w) ((reading_law bs).none e)

  module _ (some : 0 < length bs) where
    pub lines_refused : (read_refusal bs ≡ 0 → ⊥) → lines_of w bs ≡ refused_line (read_refusal bs)
    unfolding lines_over
    lines_refused d = ap (lines_through w) ((reading_law bs).refused some d) ∙ rw (ne_eqb (read_refusal bs) 0 d)

    module _ (e : read_refusal bs ≡ 0) where
      pub lines_stopped :
          (step_refusal w (command_of bs) ≡ 0 → ⊥) → lines_of w bs ≡ refused_line (step_refusal w (command_of bs))
      unfolding lines_over
      lines_stopped d = ap (lines_through w) ((reading_law bs).read some e) ∙
          rw (ne_eqb (step_refusal w (command_of bs)) 0 d)

      pub lines_on :
          step_refusal w (command_of bs) ≡ 0 →
          lines_of w bs ≡
          accepted_line (step_on w (command_of bs)) (command_of bs) ++ lines_of (step_on w (command_of bs)) (rest_of bs)
      unfolding lines_over
      lines_on z = ap (lines_through w) ((reading_law bs).read some e) ∙
          rw (eq-eqb (step_refusal w (command_of bs)) 0 z)
