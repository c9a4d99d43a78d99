-- A flood from face to face. Its queue is never emptied: it has the edge predecessor of each marked dart, and those
-- before the head are marked. So once the head has come to the tail, the marked darts are closed under the steps of
-- faces and under edge predecessors, and that makes them the component.
use mathlib.Core.Path.{◌≡◌, refl, sym, ◌∙◌}
use mathlib.Core.Bool.{Bool, true, false, ◌&&◌}
use mathlib.Core.List.{List}
use mathlib.Core.Logic.{◌⊎◌, inl, inr, ⊎_elim}
use Prim.Native.Nat.{ℕ, ◌+◌, ◌≤◌, ◌<◌}
use native.Mathlib.Omega.{arith}
use lib.Dec.{ltb, eqb}
use lib.ListN.{length, get_or}
use borrow.Author.Tests.{eqb-true, eqb-false, eq-eqb, ne_eqb, ltb-true, ltb-false}
use Rattle.lists.specs.Lists.{keep}
use Rattle.lists.proofs.Bools.{by_cases, clash, bool_ext, refuted, and_left, and_right, and_true}
use Rattle.lists.proofs.Lists.{keep_shorter}
use Rattle.lists.proofs.Sums.{kept_none}
use Rattle.hypermap.specs.Hypermap.{edge, face, step, same_component, orbit_of, is_least_in}
use Rattle.hypermap.specs.Hypermap.{faces, restrict}
use Rattle.hypermap.specs.Laws.{in_orbit}
use Rattle.hypermap.proofs.Permutations.Reaching.{ride}
use Rattle.hypermap.proofs.Laws.Orbits.{orbit_law}
use Rattle.table.specs.Layout.{Table, capacity, hypermap_of}
use Rattle.table.specs.Inner.{HypermapAt}
use Rattle.table.proofs.Holding.{low, high, mem_present}
use Rattle.parts.specs.MarkedSets.{is_marked}
use Rattle.parts.specs.Marking.{mark_at, HasMark}
use Rattle.parts.specs.Floods.{Front, front, HasPlaces, Entering, HasBack, Entered, Unmarked}
use Rattle.parts.proofs.FaceByFace.{one_more}
use Rattle.parts.proofs.Walking.{orbit_parts}
use Rattle.parts.proofs.Entering.{unmarked_few}
use Rattle.parts.proofs.ComponentDarts.{Same, same_self, same_mem, same_dart, same_low, same_around, around}
use Rattle.parts.proofs.ComponentDarts.{closed, wf}

-- the darts of the component of x that have the mark v, and how many faces they make up
abbrev pub is_entered : Table → (x v : ℕ) → (marks : List ℕ) → (y : ℕ) → Bool
is_entered w x v m y = same_component (hypermap_of w) x y && is_marked m v y

abbrev pub faces_entered : Table → (x v : ℕ) → (marks : List ℕ) → ℕ
faces_entered w x v m = faces (restrict (is_entered w x v m) (hypermap_of w))

-- THE STATE of a flood from x
pub record Flooding (w : Table) (x v : ℕ) (f : Front) (head : ℕ) : Type 0 where
  pub size : capacity w ≤ length f.marks
  pub places : HasPlaces f
  pub order : head ≤ f.tail
  pub inside :
      (y : ℕ) → same_component (hypermap_of w) x y ≡ true → (mark_at f.marks y ≡ 0) ⊎ (mark_at f.marks y ≡ v)
  pub whole :
      (y : ℕ) → same_component (hypermap_of w) x y ≡ true → mark_at f.marks y ≡ v →
      mark_at f.marks (step (hypermap_of w) face y) ≡ v
  pub queued : (i : ℕ) → i < f.tail → same_component (hypermap_of w) x (get_or f.queue i 0) ≡ true
  pub past : (i : ℕ) → i < head → mark_at f.marks (get_or f.queue i 0) ≡ v
  pub waiting :
      (y : ℕ) → same_component (hypermap_of w) x y ≡ true → mark_at f.marks y ≡ v → (i : ℕ) × HasBack w y f i

-- what was lent, f, and what it is now, g, with so many faces entered
pub record Flood (w : Table) (x v : ℕ) (f g : Front) (head count : ℕ) : Type 0 where
  pub state : Flooding w x v g head
  pub marks_size : length g.marks ≡ length f.marks
  pub queue_size : length g.queue ≡ length f.queue
  pub outside :
      (y : ℕ) → 1 ≤ y → same_component (hypermap_of w) x y ≡ false → mark_at g.marks y ≡ mark_at f.marks y
  pub root : mark_at g.marks x ≡ v
  pub counted : count ≡ faces_entered w x v g.marks

module _ (w : Table) (x v : ℕ) (k : HypermapAt w x) (one : 1 ≤ v) where
  -- A FACE is entered at y, which has no mark: so no dart of the face has one
  module _
      (f : Front) (head : ℕ) (h : Flooding w x v f head) (y : ℕ) (s : Same k y) (zero : mark_at f.marks y ≡ 0) where
    unmarked : (z : ℕ) → in_orbit (hypermap_of w) face y z ≡ true → mark_at f.marks z ≡ 0
    unmarked z i = ⊎_elim (λ e. e) (λ e. absurd (omega (arith, one, met e, zero))) (h.inside z (same_around k y z s i))
      where
        back : in_orbit (hypermap_of w) face z y ≡ true
        back = (orbit_parts w k.hypermap face).symmetric y z (same_mem k y s) i

        met : mark_at f.marks z ≡ v → mark_at f.marks y ≡ v
        met e =
            (ride (step (hypermap_of w) face) (λ u. Same k u × (mark_at f.marks u ≡ v))
            (λ u p. (same_around k u _ p.0 (around k u p.0), h.whole u p.0 p.1)) z y
            ((((orbit_law (hypermap_of w) (wf k) face).0 z (same_mem k z (same_around k y z s i))).members y).0 back)
            (same_around k y z s i, e)).1

    pub flood_asks : Entering w y v f
    flood_asks = record {
      low = one;
      marking = record { at = record { hypermap = k.hypermap; here = same_dart k y s }; size = h.size };
      places = h.places;
      unmarked = unmarked;
    }

    module _ (g : Front) (e : Entered w y v f g) (sizes : length g.marks ≡ length f.marks) where
      off :
          (z : ℕ) → 1 ≤ z → in_orbit (hypermap_of w) face y z ≡ false → mark_at g.marks z ≡ mark_at f.marks z
      off = e.part_marked.outside

      keeps : (z : ℕ) → 1 ≤ z → mark_at f.marks z ≡ v → mark_at g.marks z ≡ v
      keeps z l q =
          by_cases (in_orbit (hypermap_of w) face y z) (λ t. e.part_marked.inside z t) (λ t. off z l t ∙ q)

      marked : mark_at g.marks y ≡ v
      marked = e.part_marked.inside y ((orbit_parts w k.hypermap face).reflexive y (same_mem k y s))

      entered : Flooding w x v g head
      entered = record {
        size = omega (arith, h.size, sizes);
        places = e.places;
        order = omega (arith, h.order, e.order);
        inside = λ z o. by_cases (in_orbit (hypermap_of w) face y z)
            (λ t. inr (e.part_marked.inside z t))
            (λ t. rw (off z (same_low k z o) t) (h.inside z o));
        whole = λ z o q. by_cases (in_orbit (hypermap_of w) face y z)
            (λ t. e.part_marked.inside _
            ((orbit_parts w k.hypermap face).transitive y z _ (same_mem k y s) t (around k z o)))
            (λ t. keeps _ (same_low k _ (same_around k z _ o (around k z o)))
            (h.whole z o (sym (off z (same_low k z o) t) ∙ q)));
        queued = λ i l. by_cases (ltb i f.tail)
            (λ t. let b = ltb-true i f.tail t in rw (e.before i b) (h.queued i b))
            (λ t. let r = e.behind i (ltb-false i f.tail t) l in
            let o = same_around k y r.0 s r.1 in
            rw r.2.1 ((closed k).back edge r.0 (same_mem k r.0 o) o));
        past = λ i l.
            let b : i < f.tail = omega (arith, h.order) in
            rw (e.before i b) (keeps _ (same_low k _ (h.queued i b)) (h.past i l));
        waiting = λ z o q. by_cases (in_orbit (hypermap_of w) face y z)
            (λ t. e.queued z t)
            (λ t. let r = h.waiting z o (sym (off z (same_low k z o) t) ∙ q) in
            (r.0, (omega (arith, r.1.0, e.order), e.before r.0 r.1.0 ∙ r.1.1)));
      }

      outside_too :
          (z : ℕ) → 1 ≤ z → same_component (hypermap_of w) x z ≡ false → mark_at g.marks z ≡ mark_at f.marks z
      outside_too z l n = off z l (refuted (in_orbit (hypermap_of w) face y z) (λ t. clash (same_around k y z s t) n))

      face_more : faces_entered w x v g.marks ≡ faces_entered w x v f.marks + 1
      face_more =
          one_more (hypermap_of w) (wf k) face y (same_mem k y s) (is_entered w x v g.marks) (is_entered w x v f.marks)
          (λ z t. and_true _ _ (same_around k y z s t) (eq-eqb _ v (e.part_marked.inside z t)))
          (λ z d. by_cases (in_orbit (hypermap_of w) face y z)
          (λ t. let n : is_marked f.marks v z ≡ false = ne_eqb _ v (λ q. omega (arith, one, unmarked z t)) in
          rw (t, n, eq-eqb _ v (e.part_marked.inside z t), same_around k y z s t))
          (λ t. rw (t, off z (low w z (rw mem_present at d)) t)
          (bool_ext _ _ (λ u. and_true _ _ u refl) (and_left _ _))))

  -- FROM THE FIRST DART
  module _ (m q : List ℕ) (d : Unmarked w x v m q) where
    none : Flooding w x v (front m q 0) 0
    none = record {
      size = d.marking.size;
      places = omega (arith, unmarked_few m, d.room);
      order = omega arith;
      inside = λ y s. inl (d.unmarked y s);
      whole = λ y s e. absurd (omega (arith, one, d.unmarked y s));
      queued = λ i l. absurd (omega arith);
      past = λ i l. absurd (omega arith);
      waiting = λ y s e. absurd (omega (arith, one, d.unmarked y s));
    }

    no_face : faces_entered w x v m ≡ 0
    no_face =
        let n = kept_none (is_entered w x v m) (hypermap_of w).darts (λ y i. refuted (is_entered w x v m y) (λ t.
        let e : mark_at m y ≡ v = eqb-true _ v (and_right (same_component (hypermap_of w) x y) _ t) in
        omega (arith, one, d.unmarked y (and_left _ (is_marked m v y) t)))) in
        omega (
          arith,
          n,
          keep_shorter (is_least_in (orbit_of (restrict (is_entered w x v m) (hypermap_of w)) face))
              (keep (is_entered w x v m) (hypermap_of w).darts),
        )

    pub first_asks : Entering w x v (front m q 0)
    first_asks = flood_asks (front m q 0) 0 none x (same_self k) (d.unmarked x (same_self k))

    pub first_done :
        (g : Front) → Entered w x v (front m q 0) g → length g.marks ≡ length m → length g.queue ≡ length q →
        Flood w x v (front m q 0) g 0 1
    first_done g e ms qs = record {
      state = entered (front m q 0) 0 none x (same_self k) (d.unmarked x (same_self k)) g e ms;
      marks_size = ms;
      queue_size = qs;
      outside = outside_too (front m q 0) 0 none x (same_self k) (d.unmarked x (same_self k)) g e ms;
      root = marked (front m q 0) 0 none x (same_self k) (d.unmarked x (same_self k)) g e ms;
      counted =
          omega (arith, no_face, face_more (front m q 0) 0 none x (same_self k) (d.unmarked x (same_self k)) g e ms);
    }

  -- FROM THE HEAD
  module _ (f₀ f : Front) (head count : ℕ) (h : Flood w x v f₀ f head count) (l : head < f.tail) where
    abbrev at : ℕ
    at = get_or f.queue head 0

    same_at : Same k at
    same_at = h.state.queued head l

    pub head_mark : HasMark f.marks at
    head_mark = record {
      low = same_low k at same_at;
      high = omega (arith, high w at (same_dart k at same_at), h.state.size);
    }

    -- its face is marked
    past :
        (g : Front) (n : ℕ) → Flood w x v f₀ g head n → head < g.tail →
        mark_at g.marks (get_or g.queue head 0) ≡ v → Flood w x v f₀ g (head + 1) n
    past g n i b e = record {
      state = record {
        size = i.state.size;
        places = i.state.places;
        order = omega arith;
        inside = i.state.inside;
        whole = i.state.whole;
        queued = i.state.queued;
        past = λ j c. by_cases (eqb j head)
            (λ t. rw (eqb-true j head t) e)
            (λ t. let d = eqb-false j head t in i.state.past j (omega arith));
        waiting = i.state.waiting;
      };
      marks_size = i.marks_size;
      queue_size = i.queue_size;
      outside = i.outside;
      root = i.root;
      counted = i.counted;
    }

    pub head_old : (mark_at f.marks at ≡ 0 → ⊥) → Flood w x v f₀ f (head + 1) count
    head_old d = past f count h l (⊎_elim (λ e. absurd (d e)) (λ e. e) (h.state.inside at same_at))

    module _ (zero : mark_at f.marks at ≡ 0) where
      pub head_asks : Entering w at v f
      head_asks = flood_asks f head h.state at same_at zero

      pub head_new :
          (g : Front) → Entered w at v f g → length g.marks ≡ length f.marks →
          length g.queue ≡ length f.queue → Flood w x v f₀ g (head + 1) (count + 1)
      head_new g e ms qs =
          past g (count + 1) (record {
            state = entered f head h.state at same_at zero g e ms;
            marks_size = ms ∙ h.marks_size;
            queue_size = qs ∙ h.queue_size;
            outside = λ z o n. outside_too f head h.state at same_at zero g e ms z o n ∙ h.outside z o n;
            root = keeps f head h.state at same_at zero g e ms x (same_low k x (same_self k)) h.root;
            counted = omega (arith, h.counted, face_more f head h.state at same_at zero g e ms);
          }) (omega (arith, e.order)) (rw (e.before head l) (marked f head h.state at same_at zero g e ms))
