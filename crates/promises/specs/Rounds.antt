-- What a round promises of its length. Document 02, Job 3: "no round passes 4,096 tabs".
use Rattle.std.specs.Prelude.{◌≡◌, List, [], ◌∷◌, ℕ, ◌≤◌, length}
use Rattle.table.specs.Layout.{Table, capacity}
use Rattle.table.specs.declared.Orbit.{Orbit}
use Rattle.table.specs.Limits.{max_capacity}
use Rattle.kernel.specs.Calls.{question_refusal, round_answer}

pub record RoundPromise : Type 0 where
  pub most :
      (w : Table) (o : Orbit) (x : ℕ) (out : List ℕ) → (round_answer w o x out).number ≡ 0 →
      ((round_answer w o x out).count ≤ capacity w) × (capacity w ≤ max_capacity)
  -- so a buffer with a word for each number of the table is never too short
  pub room :
      (w : Table) (o : Orbit) (x : ℕ) (out : List ℕ) → capacity w ≤ length out →
      (round_answer w o x out).number ≡ question_refusal w (x ∷ [])
