-- How a flood goes on from face to face.
use Rattle.std.specs.Prelude.{◌≡◌, true, cond, List, [], ◌∷◌, ℕ, ◌+◌, ◌≤◌, ◌<◌, eqb, length, get_or}
use Rattle.hypermap.specs.Hypermap.{edge, face, orbit_of, same_component}
use Rattle.hypermap.specs.Laws.{in_orbit}
use Rattle.table.specs.Limits.{max_capacity}
use Rattle.table.specs.Layout.{Table, capacity, word_at, back_word, hypermap_of}
use Rattle.parts.specs.Marking.{mark_at, MarkingAt, PartMarked}

-- the marks of a flood, and its queue up to the tail
pub record Front : Type 0 where
  pub marks : List ℕ
  pub queue : List ℕ
  pub tail : ℕ

abbrev pub front : (marks queue : List ℕ) → (tail : ℕ) → Front
front m q n = record { marks = m; queue = q; tail = n }

-- how many numbers have no mark
unfoldable pub unmarked_count : List ℕ → ℕ
unmarked_count [] = 0
unmarked_count (v ∷ m) = cond (eqb v 0) 1 0 + unmarked_count m

-- each number without a mark has a place left in the queue
abbrev pub HasPlaces : Front → Type 0
HasPlaces f = unmarked_count f.marks + f.tail ≤ length f.queue

-- what the face of y is entered with: it has no marks
pub record Entering (w : Table) (y value : ℕ) (f : Front) : Type 0 where
  pub low : 1 ≤ value
  pub marking : MarkingAt w y f.marks
  pub places : HasPlaces f
  pub unmarked : (z : ℕ) → in_orbit (hypermap_of w) face y z ≡ true → mark_at f.marks z ≡ 0

-- place i of the queue has the edge predecessor of z
abbrev pub HasBack : Table → (z : ℕ) → Front → (i : ℕ) → Type 0
HasBack w z f i = (i < f.tail) × (get_or f.queue i 0 ≡ word_at w z (back_word edge))

-- and what it is left with: it is marked, and after the old tail stand the edge predecessors of its darts
pub record Entered (w : Table) (y value : ℕ) (f g : Front) : Type 0 where
  pub part_marked : PartMarked (orbit_of (hypermap_of w) face y) value f.marks g.marks
  pub places : HasPlaces g
  pub order : f.tail ≤ g.tail
  pub before : (i : ℕ) → i < f.tail → get_or g.queue i 0 ≡ get_or f.queue i 0
  pub behind :
      (i : ℕ) → f.tail ≤ i → i < g.tail → (z : ℕ) × (in_orbit (hypermap_of w) face y z ≡ true) × HasBack w z g i
  pub queued : (z : ℕ) → in_orbit (hypermap_of w) face y z ≡ true → (i : ℕ) × HasBack w z g i

-- what a flood from x starts with: no mark in its component
pub record Unmarked (w : Table) (x value : ℕ) (marks queue : List ℕ) : Type 0 where
  pub low : 1 ≤ value
  pub few : capacity w ≤ max_capacity
  pub marking : MarkingAt w x marks
  pub room : length marks ≤ length queue
  pub unmarked : (y : ℕ) → same_component (hypermap_of w) x y ≡ true → mark_at marks y ≡ 0
