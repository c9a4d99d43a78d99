-- Floods over all darts, which get one mark: what is found of each component adds up to the whole.
use mathlib.Core.Path.{◌≡◌, refl, sym, ap, ◌∙◌, subst}
use mathlib.Core.Bool.{true, false, ◌&&◌}
use mathlib.Core.List.{List}
use Prim.Native.Nat.{ℕ, zero, suc, ◌+◌, ◌-◌, ◌≤◌, ◌<◌}
use native.Mathlib.Omega.{arith}
use lib.Dec.{eqb}
use lib.ListN.{length, replicate, length-replicate}
use Rattle.lists.specs.Lists.{sum_of, keep}
use Rattle.lists.proofs.Lists.{keep_shorter, zero_at}
use Rattle.lists.proofs.Keeping.{keep_both}
use Rattle.hypermap.specs.Hypermap.{Hypermap, face, orbit_of, component_of, is_least_in, component_at}
use Rattle.hypermap.specs.Hypermap as theory
use Rattle.hypermap.specs.ComponentLaws.{sum_over_components}
use Rattle.hypermap.proofs.Laws.ComponentGenus.{component_genus_law}
use Rattle.table.specs.Limits.{max_capacity}
use Rattle.table.specs.Layout.{Table, capacity, numbers, is_present, hypermap_of}
use Rattle.table.proofs.Holding.{mem_present, table_hypermap, darts_few}
use Rattle.parts.specs.Counts as reports
use Rattle.table.specs.Inner.{WithinCapacity}
use Rattle.parts.specs.MarkedSets.{flooded_of}
use Rattle.parts.specs.Marking.{mark_at, is_fresh, Skipped, PartMarked}
use Rattle.parts.proofs.Counting.{Summing, summing_none, summing_yes, summing_no, summing_all}
use Rattle.parts.proofs.Marking.{fresh_not, Sweep, Pass, Passed, passed_none, is_first, passed_fresh, passed_other}
use Rattle.parts.proofs.Marking.{passed_count, passed_inside}
use Rattle.parts.proofs.LeastMarks.{holds_all}
use Rattle.parts.proofs.ComponentDarts.{component_parts}
use Rattle.parts.proofs.Lifting.{lifts_add_up}

abbrev pub all_sweep : Table → Sweep
all_sweep w = record {
  darts = is_present w;
  part = component_of (hypermap_of w);
  before = λ x. 0;
  after = λ x. 1;
  fresh = λ x v. is_present w x && eqb v 0;
  size = max_capacity;
}

-- a number of each component, added up at the smallest darts
abbrev pub AddedUp : Table → (f : Hypermap → ℕ) → (x total : ℕ) → Type 0
AddedUp w f x total =
    Summing (capacity w) (λ y. is_present w y && is_least_in (component_of (hypermap_of w)) y)
    (λ r. f (component_at (hypermap_of w) r)) x total

pub record FloodingAll (w : Table) (x components lifts faces : ℕ) (m : List ℕ) : Type 0 where
  pub passed : Passed w (all_sweep w) x components m
  pub is_lifts : AddedUp w reports.lifts x lifts
  pub is_faces : AddedUp w theory.faces x faces

module _ (w : Table) (k : WithinCapacity w) where
  pub all_pass : Pass w (all_sweep w)
  all_pass = record {
    room = k.room;
    holds = holds_all w (component_of (hypermap_of w)) (component_parts w k.hypermap);
    shared = λ x y t i. refl;
    unreached = λ x t e. rw t;
    reached = λ x t l. rw t;
    others = λ x l t. rw t;
  }

  pub all_none : (m : List ℕ) → m ≡ replicate max_capacity 0 → FloodingAll w 1 0 0 0 m
  all_none m e = record {
    passed = passed_none w (all_sweep w) all_pass m (rw e (length-replicate {A = ℕ} max_capacity 0))
        (λ y l. rw e (zero_at max_capacity (y - 1)));
    is_lifts = summing_none _ _ _;
    is_faces = summing_none _ _ _;
  }

  module _ (x c l f : ℕ) (m : List ℕ) (i : FloodingAll w x c l f m) where
    module _ (h : x ≤ capacity w) where
      pub all_other : is_fresh w m x ≡ false → FloodingAll w (x + 1) c l f m
      all_other t =
          let e = sym (is_first w (all_sweep w) all_pass x c m i.passed h) ∙ t in
          record {
            passed = passed_other w (all_sweep w) all_pass x c m i.passed h t;
            is_lifts = summing_no _ _ _ x l i.is_lifts h e;
            is_faces = summing_no _ _ _ x f i.is_faces h e;
          }

      pub all_fresh :
          is_fresh w m x ≡ true → (n : List ℕ) → length n ≡ length m →
          PartMarked (component_of (hypermap_of w) x) 1 m n → (a b : ℕ) →
          a ≡ reports.lifts (component_at (hypermap_of w) x) → b ≡ theory.faces (component_at (hypermap_of w) x) →
          FloodingAll w (x + 1) (c + 1) (l + a) (f + b) n
      all_fresh t n s q a b is_a is_b =
          let e = sym (is_first w (all_sweep w) all_pass x c m i.passed h) ∙ t in
          record {
            passed = passed_fresh w (all_sweep w) all_pass x c m i.passed h t n s q;
            is_lifts = rw is_a (summing_yes _ _ _ x l i.is_lifts h e);
            is_faces = rw is_b (summing_yes _ _ _ x f i.is_faces h e);
          }

    -- no sum passes the whole
    few :
        (g : Hypermap → ℕ) (total : ℕ) → AddedUp w g x total → sum_over_components (hypermap_of w) g ≤ max_capacity →
        total ≤ max_capacity
    few g total a b =
        omega (
          arith,
          a.sum,
          b,
          ap (sum_of (λ r. g (component_at (hypermap_of w) r)))
              (keep_both (is_present w) (is_least_in (component_of (hypermap_of w))) (numbers w)),
        )

    lifted : sum_over_components (hypermap_of w) reports.lifts ≡ reports.lifts (hypermap_of w)
    lifted = lifts_add_up (hypermap_of w) (table_hypermap w k.hypermap)

    faced : sum_over_components (hypermap_of w) theory.faces ≡ theory.faces (hypermap_of w)
    faced = (component_genus_law (hypermap_of w) (table_hypermap w k.hypermap)).1.orbits face

    pub all_few : (l ≤ max_capacity) × (f ≤ max_capacity)
    all_few = (
      few reports.lifts l i.is_lifts (omega (
        arith,
        lifted,
        k.room,
        darts_few w,
        keep_shorter (reports.is_lifted (hypermap_of w))
            (keep (is_least_in (component_of (hypermap_of w))) (hypermap_of w).darts),
        keep_shorter (is_least_in (component_of (hypermap_of w))) (hypermap_of w).darts,
      )),
      few theory.faces f i.is_faces (omega (
        arith,
        faced,
        k.room,
        darts_few w,
        keep_shorter (is_least_in (orbit_of (hypermap_of w) face)) (hypermap_of w).darts,
      )),
    )

    -- all passed
    module _ (h : capacity w < x) where
      whole : (g : Hypermap → ℕ) (total : ℕ) → AddedUp w g x total → total ≡ sum_over_components (hypermap_of w) g
      whole g total a =
          summing_all _ _ _ x total a h ∙ ap (sum_of (λ r. g (component_at (hypermap_of w) r)))
          (sym (keep_both (is_present w) (is_least_in (component_of (hypermap_of w))) (numbers w)))

      pub all_counts : record { components = c; lifts = l; faces = f } ≡ flooded_of (hypermap_of w)
      unfolding flooded_of
      all_counts =
          rw (
            passed_count w (all_sweep w) all_pass x c m i.passed h,
            whole reports.lifts l i.is_lifts ∙ lifted,
            whole theory.faces f i.is_faces ∙ faced,
          )

      pub all_part_marked : PartMarked (hypermap_of w).darts 1 (replicate max_capacity 0) m
      all_part_marked = record {
        inside = λ y t. passed_inside w (all_sweep w) all_pass x c m i.passed h y (rw mem_present at t);
        outside = λ y o t. i.passed.outside y o (rw mem_present at t) ∙ sym (zero_at max_capacity (y - 1));
      }

  -- marked numbers are passed over
  pub all_skip :
      (x c l f : ℕ) (m : List ℕ) (y n : ℕ) → n ≡ capacity w → Skipped m x n y → FloodingAll w x c l f m →
      FloodingAll w y c l f m
  all_skip x c l f m y n is_n s i = go (y - x) x (omega (arith, s.from)) s.marked i
    where
      go :
          (k x : ℕ) → y ≡ x + k → ((z : ℕ) → x ≤ z → z < y → mark_at m z ≡ 0 → ⊥) → FloodingAll w x c l f m →
          FloodingAll w y c l f m
      go zero x e d i = let q : x ≡ y = omega arith in subst (λ z. FloodingAll w z c l f m) q i
      go (suc k) x e d i =
          go k (x + 1) (omega arith) (λ z o. d z (omega arith))
          (all_other x c l f m i (omega (arith, s.high))
          (sym (fresh_not w x (mark_at m x) m refl (d x (omega arith) (omega arith)))))
