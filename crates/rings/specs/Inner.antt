-- What the inner functions are lent, and what a pass over the first darts leaves in the marks.
use Rattle.std.specs.Prelude.{◌≡◌, Bool, true, List, ℕ, ◌≤◌, eqb, length, get_or, map}
use Rattle.lists.specs.Lists.{Each, all}
use Rattle.hypermap.specs.Hypermap.{edge, Kind, of, face, same_orbit}
use Rattle.hypermap.specs.Ring.{DoubleLink, no_two}
use Rattle.table.specs.Limits.{max_capacity}
use Rattle.table.specs.Layout.{Table, capacity, is_present, holds_hypermap, hypermap_of}
use Rattle.parts.specs.Marking.{mark_at}

-- the double-link that a pair of words is, and the list of them
abbrev pub link_of : (pair : List ℕ) → DoubleLink
link_of p = record { first = get_or p 0 0; second = get_or p 1 0 }

abbrev pub links_in : (pairs : List (List ℕ)) → List DoubleLink
links_in ps = map link_of ps

-- a list of darts of a table within the capacity
pub record Listed (w : Table) (ws : List ℕ) : Type 0 where
  pub hypermap : holds_hypermap w ≡ true
  pub room : capacity w ≤ max_capacity
  pub darts : all (is_present w) ws ≡ true

-- both are darts of the table
pub record Present (w : Table) (l : DoubleLink) : Type 0 where
  pub first : is_present w l.first ≡ true
  pub second : is_present w l.second ≡ true

-- double-links of darts, in a table within the capacity, and a mark for each number. Four functions take the three
-- apart: a struct of them would be made once, and each contract would have to say besides that it holds the same marks
pub record LinksMarking (w : Table) (ls : List DoubleLink) (marks : List ℕ) : Type 0 where
  pub hypermap : holds_hypermap w ≡ true
  pub room : capacity w ≤ max_capacity
  pub darts : Each (Present w) ls
  pub size : length marks ≡ capacity w

-- no two first darts in one orbit: 2.7 (0) of edges, 2.7 (3) of faces
abbrev pub firsts_apart : Table → Kind → List DoubleLink → Bool
firsts_apart w c ls = no_two (λ l k. same_orbit (hypermap_of w) c l.first k.first) ls

-- the orbit of each first dart has its number for a mark, and no other dart has
unfoldable pub FirstsMarked : Table → Kind → List DoubleLink → (marks : List ℕ) → Type 0
FirstsMarked w c ls m =
    Each (λ l. (y : ℕ) → is_present w y ≡ true →
    eqb (mark_at m y) l.first ≡ same_orbit (hypermap_of w) c l.first y) ls

-- the mark of each first dart is the mark of the darts in its orbit, and of no other dart
unfoldable pub FirstsTell : Table → Kind → List DoubleLink → (marks : List ℕ) → Type 0
FirstsTell w c ls m =
    Each (λ l. (y : ℕ) → is_present w y ≡ true →
    eqb (mark_at m y) (mark_at m l.first) ≡ same_orbit (hypermap_of w) c l.first y) ls

-- what the pairs are judged by
pub record EdgesMarked (w : Table) (ls : List DoubleLink) (marks : List ℕ) : Type 0 where
  pub marking : LinksMarking w ls marks
  pub tell : FirstsTell w (of edge) ls marks

-- what the path is judged by
pub record PathMarked (w : Table) (ls : List DoubleLink) (marks : List ℕ) : Type 0 where
  pub marking : LinksMarking w ls marks
  pub marked : FirstsMarked w face ls marks
