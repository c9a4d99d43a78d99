-- Sets of darts told by a mark: what was painted on zeros is such a set, a pass over its orbits counts them and raises
-- the mark, and the set stays the same.
use mathlib.Core.Path.{◌≡◌, refl, sym, ap, ◌∙◌}
use mathlib.Core.Bool.{Bool, true, ◌&&◌}
use mathlib.Core.List.{List}
use Prim.Native.Nat.{ℕ, ◌+◌, ◌-◌, ◌≤◌, ◌<◌}
use native.Mathlib.Omega.{arith}
use lib.Dec.{eqb}
use lib.ListN.{length, take, replicate}
use Rattle.std.specs.List.{count_by}
use Rattle.std.proofs.lemmas.List.Sums.{length-filter}
use borrow.Author.Tests.{eq-eqb, ne_eqb}
use Rattle.lists.specs.Lists.{among, keep}
use Rattle.lists.proofs.Bools.{by_cases, bool_ext, and_left, and_right, and_true}
use Rattle.lists.proofs.Lists.{Mem, keep_ext, keep_shorter, zero_at}
use Rattle.lists.proofs.Keeping.{keep_both, keep_places}
use Rattle.hypermap.specs.Hypermap.{is_dart, is_hypermap, Kind, orbit_of, component_of, is_least_in, orbits, restrict}
use Rattle.hypermap.specs.Hypermap.{component_at}
use Rattle.hypermap.specs.Laws.{Closed}
use Rattle.hypermap.proofs.Hypermaps.Totals.{links}
use Rattle.hypermap.proofs.Hypermaps.Restricting.{restrict_ext, restrict_all, orbit_restrict, restrict_hypermap}
use Rattle.hypermap.proofs.Hypermaps.Restricting.{closed_ext, closed_orbit, component_closed}
use Rattle.hypermap.proofs.Laws.Components.{component_law}
use Rattle.table.specs.Limits.{max_capacity}
use Rattle.table.specs.Layout.{Table, capacity, numbers, is_present, holds_hypermap, hypermap_of}
use Rattle.table.proofs.Holding.{low, mem_present, table_hypermap, darts_few}
use Rattle.table.proofs.Numbers.{numbers_mem}
use Rattle.parts.specs.MarkedSets.{is_marked, marked_in, MarkedSet, Raised}
use Rattle.parts.specs.Marking.{mark_at, PartMarked}
use Rattle.parts.proofs.Marking.{Holds, Sweep, Pass, Passed, passed_none, passed_count, passed_inside}
use Rattle.parts.proofs.Walking.{orbit_parts}

dart_one : (w : Table) (x : ℕ) → Mem x (hypermap_of w).darts → 1 ≤ x
dart_one w x d = low w x (rw mem_present at d)

-- PAINTED on zeros: the darts of a closed part
module _
    (w : Table) (s : holds_hypermap w ≡ true) (n : ℕ) (room : capacity w ≤ max_capacity) (size : capacity w ≤ n)
    (part : List ℕ)
    (v : ℕ) (one : 1 ≤ v) (m : List ℕ) (long : length m ≡ n) (q : PartMarked part v (replicate n 0) m) where
  part_marked_test : (y : ℕ) → 1 ≤ y → is_marked m v y ≡ among y part
  part_marked_test y l =
      by_cases (among y part)
      (λ t. rw t (eq-eqb (mark_at m y) v (q.inside y t)))
      (λ t. let e = q.outside y l t ∙ zero_at n (y - 1) in rw t (ne_eqb (mark_at m y) v (λ i. omega arith)))

  on_darts : (y : ℕ) → Mem y (hypermap_of w).darts → is_marked m v y ≡ among y part
  on_darts y d = part_marked_test y (dart_one w y d)

  part_marked_is : marked_in w m v ≡ restrict (λ y. among y part) (hypermap_of w)
  part_marked_is = restrict_ext (hypermap_of w) (is_marked m v) (λ y. among y part) on_darts

  part_marked_set :
      ((y : ℕ) → among y part ≡ true → is_present w y ≡ true) → Closed (hypermap_of w) (λ y. among y part) →
      MarkedSet w m v
  part_marked_set darts closed = record {
    hypermap = s;
    room = record { room = room; size = omega arith };
    darts = λ y l t. darts y (sym (part_marked_test y l) ∙ t);
    rest = λ y l t. q.outside y l (sym (part_marked_test y l) ∙ t) ∙ zero_at n (y - 1);
    closed = closed_ext (hypermap_of w) (table_hypermap w s) (is_marked m v) (λ y. among y part) on_darts closed;
  }

-- all darts, and one component
module _
    (w : Table) (s : holds_hypermap w ≡ true) (room : capacity w ≤ max_capacity) (n : ℕ) (size : capacity w ≤ n)
    (m : List ℕ)
    (long : length m ≡ n) where
  wf_table : is_hypermap (hypermap_of w) ≡ true
  wf_table = table_hypermap w s

  module _ (q : PartMarked (hypermap_of w).darts 1 (replicate n 0) m) where
    pub all_is : marked_in w m 1 ≡ hypermap_of w
    all_is =
        part_marked_is w s n room size (hypermap_of w).darts 1 (omega arith) m long q ∙
        restrict_all (hypermap_of w) (is_dart (hypermap_of w)) (λ y d. d)

    pub all_set : MarkedSet w m 1
    all_set =
        part_marked_set w s n room size (hypermap_of w).darts 1 (omega arith) m long q (λ y t. rw mem_present at t)
        (record {
          forth = λ k x d t. (links (hypermap_of w) wf_table k).keeps_back x d;
          back = λ k x d t. (links (hypermap_of w) wf_table k).keeps x d;
        })

  module _
      (x : ℕ) (here : is_present w x ≡ true) (q : PartMarked (component_of (hypermap_of w) x) 1 (replicate n 0) m) where
    dart : Mem x (hypermap_of w).darts
    dart = rw mem_present here

    pub component_is : marked_in w m 1 ≡ component_at (hypermap_of w) x
    component_is = part_marked_is w s n room size (component_of (hypermap_of w) x) 1 (omega arith) m long q

    pub component_set : MarkedSet w m 1
    component_set =
        part_marked_set w s n room size (component_of (hypermap_of w) x) 1 (omega arith) m long q
        (λ y t. rw mem_present at ((component_law (hypermap_of w) wf_table).1.within x y dart t))
        (component_closed (hypermap_of w) wf_table x dart)

-- the numbers of a marked set
abbrev pub in_set : Table → (marks : List ℕ) → (value y : ℕ) → Bool
in_set w m v y = is_present w y && is_marked m v y

-- a pass over its orbits of a kind, with the marks that it leaves and the code's test
abbrev pub set_sweep :
    Table → (marks : List ℕ) → (value : ℕ) → Kind → (after : ℕ → ℕ) → (fresh : ℕ → ℕ → Bool) → Sweep
set_sweep w m v c after fresh = record {
  darts = in_set w m v;
  part = orbit_of (hypermap_of w) c;
  before = mark_at m;
  after = after;
  fresh = fresh;
  size = length m;
}

-- one that raises the mark
abbrev pub raising_sweep : Table → (marks : List ℕ) → (value : ℕ) → Kind → Sweep
raising_sweep w m v c = set_sweep w m v c (λ y. v + 1) (λ y u. eqb u v)

-- A MARKED SET is a hypermap by itself, with few darts
module _ (w : Table) (m : List ℕ) (v : ℕ) (k : MarkedSet w m v) where
  wf : is_hypermap (hypermap_of w) ≡ true
  wf = table_hypermap w k.hypermap

  pub marked_hypermap : is_hypermap (marked_in w m v) ≡ true
  marked_hypermap = restrict_hypermap (hypermap_of w) wf (is_marked m v) k.closed

  pub marked_few : length (marked_in w m v).darts ≤ max_capacity
  marked_few = omega (arith, keep_shorter (is_marked m v) (hypermap_of w).darts, darts_few w, k.room.room)

  pub in_set_test : (y : ℕ) → 1 ≤ y → in_set w m v y ≡ is_marked m v y
  in_set_test y l =
      bool_ext (in_set w m v y) (is_marked m v y) (and_right (is_present w y) (is_marked m v y))
      (λ t. and_true (is_present w y) (is_marked m v y) (k.darts y l t) t)

  -- the marks in a row
  pub count_set : count_by (λ u. eqb u v) (take (capacity w) m) ≡ length (marked_in w m v).darts
  count_set =
      sym (length-filter (λ u. eqb u v) (take (capacity w) m)) ∙
      keep_places (λ u. eqb u v) m 0 (capacity w) (omega (arith, k.room.size)) ∙
      ap length (keep_ext (is_marked m v) (in_set w m v) (numbers w)
      (λ y i. sym (in_set_test y (numbers_mem w y i).0)) ∙ sym (keep_both (is_present w) (is_marked m v) (numbers w)))

  module _ (c : Kind) where
    pub set_holds : Holds w (in_set w m v) (orbit_of (hypermap_of w) c)
    set_holds = record {
      parts = orbit_parts w k.hypermap c;
      darts = λ x t. and_left (is_present w x) (is_marked m v x) t;
      closed = λ x y t i.
          let d : Mem x (hypermap_of w).darts = rw mem_present (and_left (is_present w x) (is_marked m v x) t) in
          and_true (is_present w y) (is_marked m v y) (rw mem_present at ((orbit_parts w k.hypermap c).within x y d i))
          (closed_orbit (hypermap_of w) wf (is_marked m v) k.closed c x y d
          (and_right (is_present w x) (is_marked m v x) t) i);
    }

    -- whatever the pass leaves and tests
    module _ (after : ℕ → ℕ) (fresh : ℕ → ℕ → Bool) (g : Pass w (set_sweep w m v c after fresh)) where
      pub set_none : Passed w (set_sweep w m v c after fresh) 1 0 m
      set_none = passed_none w (set_sweep w m v c after fresh) g m refl (λ y l. refl)

      pub set_count :
          (x count : ℕ) (n : List ℕ) → Passed w (set_sweep w m v c after fresh) x count n → capacity w < x →
          count ≡ orbits (marked_in w m v) c
      set_count x count n p h =
          passed_count w (set_sweep w m v c after fresh) g x count n p h ∙
          ap (λ ds. length (keep (is_least_in (orbit_of (hypermap_of w) c)) ds))
          (sym (keep_both (is_present w) (is_marked m v) (numbers w))) ∙
          ap (λ f. length (keep (is_least_in f) (marked_in w m v).darts))
          (sym (orbit_restrict (hypermap_of w) (is_marked m v) c))

    pub raising_pass : Pass w (raising_sweep w m v c)
    raising_pass = record {
      room = k.room.size;
      holds = set_holds;
      shared = λ x y t i. refl;
      unreached = λ x t e. and_right (is_present w x) (is_marked m v x) t;
      reached = λ x t l. ne_eqb (v + 1) v (λ e. omega arith);
      others = λ x l t. sym (in_set_test x l) ∙ t;
    }

    pub raising_done :
        (x count : ℕ) (n : List ℕ) → Passed w (raising_sweep w m v c) x count n → capacity w < x → Raised v m n
    raising_done x count n p h = record {
      inside = λ y l t. passed_inside w (raising_sweep w m v c) raising_pass x count n p h y (in_set_test y l ∙ t);
      outside = λ y l t. p.outside y l (in_set_test y l ∙ t);
    }

  -- RAISED, it is the same set
  module _ (n : List ℕ) (long : length n ≡ length m) (r : Raised v m n) where
    raised_test : (y : ℕ) → 1 ≤ y → is_marked n (v + 1) y ≡ is_marked m v y
    raised_test y l =
        by_cases (is_marked m v y)
        (λ t. rw t (eq-eqb (mark_at n y) (v + 1) (r.inside y l t)))
        (λ t. let e = r.outside y l t ∙ k.rest y l t in rw t (ne_eqb (mark_at n y) (v + 1) (λ i. omega arith)))

    stays : (y : ℕ) → Mem y (hypermap_of w).darts → is_marked n (v + 1) y ≡ is_marked m v y
    stays y d = raised_test y (dart_one w y d)

    pub raised_is : marked_in w n (v + 1) ≡ marked_in w m v
    raised_is = restrict_ext (hypermap_of w) (is_marked n (v + 1)) (is_marked m v) stays
