-- Marks as the inner functions read and write them: a word for each number of a table.
use Rattle.std.specs.Prelude.{◌≡◌, Bool, true, false, ◌&&◌, not, List, length, get_or, ℕ, ◌+◌, ◌-◌, ◌≤◌, ◌<◌}
use Rattle.std.specs.Prelude.{eqb}
use Rattle.lists.specs.Lists.{among}
use Rattle.table.specs.Limits.{max_capacity}
use Rattle.table.specs.Layout.{Table, capacity, is_present, holds_hypermap}
use Rattle.table.specs.Inner.{HypermapAt}

-- a table within the capacity, and a mark for each number
pub record Marking (w : Table) (marks : List ℕ) : Type 0 where
  pub hypermap : holds_hypermap w ≡ true
  pub room : capacity w ≤ max_capacity
  pub size : length marks ≡ capacity w

-- at least a mark for each number
pub record HasMarks (w : Table) (marks : List ℕ) : Type 0 where
  pub room : capacity w ≤ max_capacity
  pub size : capacity w ≤ length marks

-- MARKS: that of x
abbrev pub mark_at : (marks : List ℕ) → (x : ℕ) → ℕ
mark_at m x = get_or m (x - 1) 0

-- there is a mark for x. No plainer as a type: a struct of table and marks (head of src/marks) does not know x
pub record HasMark (marks : List ℕ) (x : ℕ) : Type 0 where
  pub low : 1 ≤ x
  pub high : x ≤ length marks

-- a dart without a mark
abbrev pub is_fresh : Table → (marks : List ℕ) → (x : ℕ) → Bool
is_fresh w m x = is_present w x && eqb (mark_at m x) 0

-- four numbers in a row, and whether they have marks
pub record HasFour (marks : List ℕ) (x : ℕ) : Type 0 where
  pub low : 1 ≤ x
  pub high : x + 3 ≤ length marks
  pub few : x ≤ max_capacity

abbrev pub four_marked : (marks : List ℕ) → (x : ℕ) → Bool
four_marked m x =
    not (eqb (mark_at m x) 0) && not (eqb (mark_at m (x + 1)) 0) && not (eqb (mark_at m (x + 2)) 0) &&
    not (eqb (mark_at m (x + 3)) 0)

-- numbers from x on, up to n, are passed over while they have marks
pub record Skipping (marks : List ℕ) (x n : ℕ) : Type 0 where
  pub low : 1 ≤ x
  pub high : x ≤ n + 1
  pub room : n ≤ length marks
  pub few : n ≤ max_capacity

pub record Skipped (marks : List ℕ) (x n to : ℕ) : Type 0 where
  pub from : x ≤ to
  pub high : to ≤ n + 1
  pub marked : (y : ℕ) → x ≤ y → y < to → mark_at marks y ≡ 0 → ⊥

-- a dart of a table that holds a hypermap, and marks for all darts
pub record MarkingAt (w : Table) (x : ℕ) (marks : List ℕ) : Type 0 where
  pub at : HypermapAt w x
  pub size : capacity w ≤ length marks

-- value is written at each dart of a part, and nothing else
pub record PartMarked (part : List ℕ) (value : ℕ) (before after : List ℕ) : Type 0 where
  pub inside : (y : ℕ) → among y part ≡ true → mark_at after y ≡ value
  pub outside : (y : ℕ) → 1 ≤ y → among y part ≡ false → mark_at after y ≡ mark_at before y
