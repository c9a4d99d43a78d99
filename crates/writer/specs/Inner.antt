-- What the inner functions are lent and answer.
use Rattle.std.specs.Prelude.{◌≡◌, cond, List, [], ◌∷◌, ◌++◌, ℕ, ◌+◌, ◌≤◌, leb, length, set, drop, Result, Ok, Err}
use Rattle.hypermap.specs.Hypermap.{of}
use Rattle.hypermap.specs.Hypermap as theory
use Rattle.table.specs.Limits.{screen_room}
use Rattle.table.specs.Refusals.{short_room}
use Rattle.table.specs.Replies.{number}
use Rattle.table.specs.declared.refusals.Refusal.{Refusal}
use Rattle.table.specs.Layout.{Table, capacity, hypermap_of}
use Rattle.table.specs.Inner.{HypermapAt, WithinCapacity}
use Rattle.parts.specs.Marks.{orbit_marks}
use Rattle.tape.specs.Tapes.{tape_bytes}
use Rattle.writer.specs.Canonical.{orbit_joins, joins_of}

-- WRITING. Bytes laid over a buffer from a place on
unfoldable pub written : (at : ℕ) → (bytes out : List ℕ) → List ℕ
written at [] o = o
written at (b ∷ bs) o = written (at + 1) bs (set o at b)

pub record HasRoom (at : ℕ) (bytes out : List ℕ) : Type 0 where
  pub room : at + length bytes ≤ length out

-- bytes laid over a buffer, and the place after them
pub record Lays (at : ℕ) (bytes before after : List ℕ) (end : ℕ) : Type 0 where
  pub laid : after ≡ written at bytes before
  pub place : end ≡ at + length bytes

-- room for the joins of one orbit, and for those of all orbits of a dimension, where each dart has the least dart of
-- its orbit for a mark
pub record OrbitJoinsRoom (w : Table) (k : theory.Dimension) (x at : ℕ) (out : List ℕ) : Type 0 where
  pub dart : HypermapAt w x
  pub room : HasRoom at (tape_bytes (orbit_joins (hypermap_of w) k x)) out

pub record JoinsRoom (w : Table) (k : theory.Dimension) (marks : List ℕ) (at : ℕ) (out : List ℕ) : Type 0 where
  pub table : WithinCapacity w
  pub marked : marks ≡ orbit_marks w (of k)
  pub room : HasRoom at (tape_bytes (joins_of (hypermap_of w) k)) out

-- a mark for each number in both dimensions
pub record WriterMarks (w : Table) (edges vertices : List ℕ) : Type 0 where
  pub table : WithinCapacity w
  pub edges_size : length edges ≡ capacity w
  pub vertices_size : length vertices ≡ capacity w

-- 0 and the number of bytes, or a refusal and 0
pub record Written : Type 0 where
  pub number : ℕ
  pub count : ℕ

-- what the writer answers
abbrev pub written_in : Result ℕ Refusal → Written
written_in (Ok n) = record { number = 0; count = n }
written_in (Err r) = record { number = number r; count = 0 }

-- a tape written into a buffer: refusal 14 where the buffer is shorter than the tape, and then the buffer is unchanged
unfoldable pub written_of : (tape out : List ℕ) → Written
written_of bs o =
    cond (leb (length bs) (length o)) (record { number = 0; count = length bs })
    (record { number = short_room; count = 0 })

unfoldable pub written_leaves : (tape out : List ℕ) → List ℕ
written_leaves bs o = cond (leb (length bs) (length o)) (bs ++ drop (length bs) o) o

-- THE SCREEN. Room for its whole answer
pub record ScreenRoom (w : Table) (out : List ℕ) : Type 0 where
  pub table : WithinCapacity w
  pub room : screen_room ≤ length out
