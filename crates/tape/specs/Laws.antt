-- What holds of tapes: each law is a type, and its proof a term of that type in proofs/.
use Rattle.std.specs.Prelude.{◌≡◌, true, List, ℕ, ◌<◌, length}
use Rattle.table.specs.Layout.{Table, holds_hypermap}
use Rattle.tape.specs.Tapes.{command_of, read_refusal, rest_of, contents_of, ended_by, after}
use Rattle.tape.specs.Runs.{run_of}

-- the contents of a tape need no fuel: nothing, or a refusal alone, or the first command and the contents of the rest
pub record IsRead (bs : List ℕ) : Type 0 where
  pub none : length bs ≡ 0 → contents_of bs ≡ ended_by 0
  pub refused : 0 < length bs → (read_refusal bs ≡ 0 → ⊥) → contents_of bs ≡ ended_by (read_refusal bs)
  pub read : 0 < length bs → read_refusal bs ≡ 0 → contents_of bs ≡ after (command_of bs) (contents_of (rest_of bs))

abbrev pub ReadingLaw : Type 0
ReadingLaw = (bs : List ℕ) → IsRead bs

-- a run leaves a table that holds a hypermap, of the same length
abbrev pub RunKeepsHypermapLaw : Type 0
RunKeepsHypermapLaw =
    (w : Table) (tape : List ℕ) → holds_hypermap w ≡ true →
    (holds_hypermap (run_of w tape).state ≡ true) × (length (run_of w tape).state ≡ length w)
