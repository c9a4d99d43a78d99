-- What a flood has found once its head has come to its tail: all of the component, and its faces. And what it may be
-- lent: marks that are all 0.
use mathlib.Core.Path.{◌≡◌, ap, ◌∙◌}
use mathlib.Core.Bool.{true}
use mathlib.Core.List.{List}
use Prim.Native.Nat.{ℕ, ◌-◌, ◌≤◌}
use native.Mathlib.Omega.{arith}
use lib.Dec.{eqb}
use lib.ListN.{replicate, length-replicate, get_or-replicate}
use borrow.Author.Tests.{eq-eqb, ne_eqb}
use Rattle.lists.specs.Lists.{keep}
use Rattle.lists.proofs.Bools.{by_cases, bool_ext, and_left, and_true}
use Rattle.lists.proofs.Lists.{keep_shorter}
use Rattle.hypermap.specs.Hypermap.{edge, face, step, component_of, same_component, orbit_of, is_least_in}
use Rattle.hypermap.specs.Hypermap.{faces, restrict, component_at}
use Rattle.hypermap.proofs.Permutations.Connecting.{roam}
use Rattle.hypermap.proofs.Hypermaps.Restricting.{restrict_ext}
use Rattle.hypermap.proofs.Laws.Components.{component_law}
use Rattle.table.specs.Limits.{max_capacity}
use Rattle.table.specs.Layout.{Table, capacity, is_present, hypermap_of}
use Rattle.table.specs.Inner.{HypermapAt}
use Rattle.table.proofs.Holding.{low, high, darts_few}
use Rattle.parts.specs.Marking.{mark_at, PartMarked}
use Rattle.parts.specs.Floods.{Front, Unmarked}
use Rattle.parts.proofs.FaceByFace.{all_successors}
use Rattle.parts.proofs.ComponentDarts.{Same, same_self, same_mem, same_dart, same_around, around}
use Rattle.parts.proofs.ComponentDarts.{closed, wf, start}
use Rattle.parts.proofs.Flooding.{is_entered, faces_entered, Flood}

module _ (w : Table) (x v : ℕ) (k : HypermapAt w x) (one : 1 ≤ v) where
  -- few faces
  pub count_few :
      (m : List ℕ) (count : ℕ) → capacity w ≤ max_capacity → count ≡ faces_entered w x v m → count ≤ max_capacity
  count_few m count few e =
      omega (
        arith,
        keep_shorter (is_least_in (orbit_of (restrict (is_entered w x v m) (hypermap_of w)) face))
            (keep (is_entered w x v m) (hypermap_of w).darts),
        keep_shorter (is_entered w x v m) (hypermap_of w).darts,
        darts_few w,
      )

  -- THE HEAD AT THE TAIL
  module _
      (f₀ f : Front) (head count : ℕ) (h : Flood w x v f₀ f head count) (l : f.tail ≤ head) where
    abbrev Reached : ℕ → Type 0
    Reached z = Same k z × (mark_at f.marks z ≡ v)

    by_face : (z : ℕ) → Reached z → Reached (step (hypermap_of w) face z)
    by_face z r = (same_around k z _ r.0 (around k z r.0), h.state.whole z r.0 r.1)

    by_edge : (z : ℕ) → Reached z → Reached ((hypermap_of w).back edge z)
    by_edge z r =
        let i = h.state.waiting z r.0 r.1 in (
          (closed k).back edge z (same_mem k z r.0) r.0,
          rw i.1.1 at (h.state.past i.0 (omega (arith, i.1.0, l))),
        )

    all : (z : ℕ) → Same k z → mark_at f.marks z ≡ v
    all z o =
        (roam (hypermap_of w).next Reached
        (all_successors (hypermap_of w) (wf k) Reached (λ z r. same_mem k z r.0) by_face by_edge) x z
        ((((component_law (hypermap_of w) (wf k)).0 x (start k)).members z).0 o) (same_self k, h.root)).1

    pub flooded_all :
        (count ≡ faces (component_at (hypermap_of w) x)) ×
        PartMarked (component_of (hypermap_of w) x) v f₀.marks f.marks
    flooded_all = (
      h.counted ∙ ap faces (restrict_ext (hypermap_of w) (is_entered w x v f.marks) (same_component (hypermap_of w) x)
          (λ z i. bool_ext _ _ (and_left _ _) (λ t. and_true _ _ t (eq-eqb _ v (all z t))))),
      record { inside = all; outside = h.outside },
    )

  -- FROM NO MARKS AT ALL, whether y is reached
  module _ (n : ℕ) (c : capacity w ≤ n) (few : capacity w ≤ max_capacity) where
    no_mark : (y : ℕ) → is_present w y ≡ true → mark_at (replicate n 0) y ≡ 0
    no_mark y d = get_or-replicate n (y - 1) 0 0 (omega (arith, low w y d, high w y d))

    pub unmarked_zeros : Unmarked w x v (replicate n 0) (replicate n 0)
    unmarked_zeros = record {
      low = one;
      few = few;
      marking = record { at = k; size = rw length-replicate c };
      room = omega arith;
      unmarked = λ y s. no_mark y (same_dart k y s);
    }

    pub flooded_test :
        (y : ℕ) (m : List ℕ) → is_present w y ≡ true → PartMarked (component_of (hypermap_of w) x) v (replicate n 0) m →
        eqb (mark_at m y) v ≡ same_component (hypermap_of w) x y
    flooded_test y m d p =
        by_cases (same_component (hypermap_of w) x y)
        (λ t. rw t (eq-eqb (mark_at m y) v (p.inside y t)))
        (λ t. let e = p.outside y (low w y d) t ∙ no_mark y d in
        rw t (ne_eqb (mark_at m y) v (λ q. omega (arith, one))))
