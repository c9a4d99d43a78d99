-- The lines of a run, written command after command.
use Rattle.std.proofs.Common.{◌≡◌, List, [], ◌++◌, ℕ, length, drop, Option, refl, sym, ap, ◌∙◌, append_assoc}
use Rattle.std.proofs.Common.{append-nil, Result, Ok, Err, OnOk}
use Rattle.std.specs.Io.KnownBytes.{Appends}
use Rattle.std.proofs.KnownBytes.{Appends-nil, Appends-trans}
use Rattle.table.specs.Layout.{Table}
use Rattle.tape.specs.Steps.{step_rule}
use Rattle.tape.specs.Runs.{run_of}
use Rattle.tape.specs.declared.Instruction.{Instruction}
use Rattle.tape.proofs.Playing.{run_none}
use Rattle.plan.specs.Lines.{refused_line, lines_of}
use Rattle.plan.specs.Inner.{instruction_line}
use Rattle.plan.proofs.Taking.{Accepts, Refuses}
use Rattle.plan.proofs.Lines.{lines_none}

-- THE STATE: what is written and the lines of what is left are the lines of the run. a is what a writer held at first,
-- b what it holds
pub record Writing (w₀ : Table) (tape : List ℕ) (w : Table) (rest : List ℕ) (a b : Option (List ℕ)) : Type 0 where
  pub written : List ℕ
  pub appends : Appends a b written
  pub lines : lines_of w₀ tape ≡ written ++ lines_of w rest
  pub table : (run_of w₀ tape).state ≡ (run_of w rest).state

pub writing_first :
    {w : Table} {tape : List ℕ} (a : Option (List ℕ)) → Writing w tape w tape a a
writing_first a = record { written = []; appends = Appends-nil a; lines = refl; table = refl }

module _
    {w₀ : Table} {tape : List ℕ} {w : Table} {rest : List ℕ} {a b : Option (List ℕ)} (h : Writing w₀ tape w rest a b)
  where
    -- THE END of the tape
    module _ (e : length rest ≡ 0) where
      pub writing_done : Appends a b (lines_of w₀ tape)
      writing_done = rw (h.lines, lines_none w rest e, append-nil) h.appends

      pub writing_done-table : w ≡ (run_of w₀ tape).state
      writing_done-table = sym (h.table ∙ ap (λ o. o.state) (run_none step_rule w rest e))

    -- ITS FIRST COMMAND
    pub writing_on :
        (v : Table) (c : Option (List ℕ)) (i : Instruction) (n : ℕ) → Accepts w rest i n v →
        Appends b c (instruction_line v i) → Writing w₀ tape v (drop n rest) a c
    writing_on v c i n s k = record {
      written = h.written ++ instruction_line v i;
      appends = Appends-trans a b c h.written (instruction_line v i) h.appends k;
      lines =
          h.lines ∙ ap (λ l. h.written ++ l) s.lines ∙
          sym (append_assoc h.written (instruction_line v i) (lines_of v (drop n rest)));
      table = h.table ∙ s.table;
    }

    -- its refusal, of which x says whether it was written
    pub writing_refused :
        {T E : Type 0} (x : Result T E) (v : Table) (c : Option (List ℕ)) (n : ℕ) → Refuses w rest n v →
        OnOk x (Appends b c (refused_line n)) → OnOk x (Appends a c (lines_of w₀ tape))
    writing_refused (Ok y) v c n s k =
        rw (h.lines, s.lines) (Appends-trans a b c h.written (refused_line n) h.appends k)
    writing_refused (Err y) v c n s k = k
