-- The darts with a given mark, as a hypermap of their own: what is counted of them, and what floods find.
use Rattle.std.specs.Prelude.{◌≡◌, Bool, true, false, ◌||◌, not, List, ℕ, ◌+◌, ◌≤◌}
use Rattle.std.specs.Prelude.{leb, eqb}
use Rattle.hypermap.specs.Hypermap.{edge, Hypermap, of, orbit_of, restrict}
use Rattle.hypermap.specs.Hypermap as theory
use Rattle.hypermap.specs.Laws.{Closed}
use Rattle.table.specs.Layout.{Table, word_at, next_word, back_word, is_present, holds_hypermap, hypermap_of}
use Rattle.parts.specs.Counts as numbers
use Rattle.parts.specs.declared.Flooded.{Flooded}
use Rattle.parts.specs.Marking.{mark_at, PartMarked, HasMarks}

-- THE DARTS WITH A GIVEN MARK: each other number has 0, and what they are linked with has the mark too
abbrev pub is_marked : (marks : List ℕ) → (value x : ℕ) → Bool
is_marked m v x = eqb (mark_at m x) v

abbrev pub marked_in : Table → (marks : List ℕ) → (value : ℕ) → Hypermap
marked_in w m v = restrict (is_marked m v) (hypermap_of w)

-- No plainer as a ghost field of a struct of table and marks: see the head of src/marks
pub record MarkedSet (w : Table) (marks : List ℕ) (value : ℕ) : Type 0 where
  pub hypermap : holds_hypermap w ≡ true
  pub room : HasMarks w marks
  pub darts : (y : ℕ) → 1 ≤ y → is_marked marks value y ≡ true → is_present w y ≡ true
  pub rest : (y : ℕ) → 1 ≤ y → is_marked marks value y ≡ false → mark_at marks y ≡ 0
  pub closed : Closed (hypermap_of w) (is_marked marks value)

-- each of them has the next mark instead
pub record Raised (value : ℕ) (before after : List ℕ) : Type 0 where
  pub inside : (y : ℕ) → 1 ≤ y → is_marked before value y ≡ true → mark_at after y ≡ value + 1
  pub outside : (y : ℕ) → 1 ≤ y → is_marked before value y ≡ false → mark_at after y ≡ mark_at before y

-- EDGES of at most two darts, whose successor is the predecessor too, and where an edge is counted: at its smaller
-- dart, if it is one of those
abbrev pub is_short : Table → (x : ℕ) → Bool
is_short w x = eqb (word_at w x (back_word edge)) (word_at w x (next_word edge))

abbrev pub is_tallied : Table → (x : ℕ) → Bool
is_tallied w x = not (is_short w x) || leb x (word_at w x (next_word edge))

-- only a longer one is marked
pub record EdgeLeft (w : Table) (x value : ℕ) (before after : List ℕ) : Type 0 where
  pub short : is_short w x ≡ true → after ≡ before
  pub long : is_short w x ≡ false → PartMarked (orbit_of (hypermap_of w) (of edge) x) value before after

-- what is found where all darts of a hypermap are flooded
unfoldable pub flooded_of : Hypermap → Flooded
flooded_of m = record { components = theory.components m; lifts = numbers.lifts m; faces = theory.faces m }

-- the darts with mark 1, and what floods have found of them
pub record MarkedParts (w : Table) (marks : List ℕ) (found : Flooded) : Type 0 where
  pub set : MarkedSet w marks 1
  pub floods : found ≡ flooded_of (marked_in w marks 1)
