-- A pass over the first darts of a list marks the orbit of each that has no mark yet, with its number. So each first
-- dart has a mark in the end, and two darts have the same one just where they lie in one orbit; a first dart to come
-- has none just where it lies apart from all earlier ones.
use mathlib.Core.Path.{◌≡◌, refl, sym, ap, ◌∙◌}
use mathlib.Core.Bool.{Bool, true, false, ◌&&◌, not, and-true, and-false, and_assoc}
use mathlib.Core.List.{List, [], ◌∷◌}
use Prim.Native.Nat.{ℕ, ◌-◌, ◌≤◌}
use native.Mathlib.Omega.{arith}
use lib.Dec.{eqb}
use lib.ListN.{length, replicate, length-replicate}
use borrow.Author.Tests.{eqb-true, eq-eqb, ne_eqb}
use Rattle.std.proofs.lemmas.List.{drop_more, drop_all}
use Rattle.lists.proofs.Bools.{by_cases, bool_ext, clash, refuted}
use Rattle.lists.specs.Lists.{all, Each}
use Rattle.lists.proofs.Lists.{Mem, zero_at, all_true, all_both}
use Rattle.hypermap.specs.Hypermap.{Kind, orbit_of, same_orbit}
use Rattle.hypermap.specs.Ring.{DoubleLink, no_two}
use Rattle.hypermap.specs.Laws.{Equivalence}
use Rattle.table.specs.Layout.{Table, capacity, is_present, holds_hypermap, hypermap_of}
use Rattle.table.proofs.Holding.{low, high, mem_present}
use Rattle.table.proofs.Walking.{same_orbits}
use Rattle.parts.specs.Marking.{mark_at, HasMark, PartMarked}
use Rattle.parts.proofs.Walking.{OrbitMarked, orbit_marked}
use Rattle.rings.specs.Inner.{Present, firsts_apart, FirstsTell, FirstsMarked}

-- ONE FIRST DART
abbrev no_mark : (marks : List ℕ) → DoubleLink → Bool
no_mark m l = eqb (mark_at m l.first) 0

abbrev HasOne : (marks : List ℕ) → DoubleLink → Type 0
HasOne m l = 1 ≤ mark_at m l.first

-- the mark is its own number, where no earlier first dart lies in its orbit
abbrev HasOwn : (marks : List ℕ) → DoubleLink → Type 0
HasOwn m l = mark_at m l.first ≡ l.first

-- what is still to be asked of the rest of the list
abbrev to_ask : Table → Kind → (marks : List ℕ) → List DoubleLink → Bool
to_ask w c m ls = all (no_mark m) ls && firsts_apart w c ls

-- THE MARKS: each is a dart of the orbit that it stands in
record Owner (w : Table) (c : Kind) (x y : ℕ) : Type 0 where
  here : is_present w x ≡ true
  same : same_orbit (hypermap_of w) c x y ≡ true

abbrev Owned : Table → Kind → (marks : List ℕ) → Type 0
Owned w c m = (y : ℕ) → is_present w y ≡ true → 1 ≤ mark_at m y → Owner w c (mark_at m y) y

-- the darts of an orbit have one mark
abbrev Alike : Table → Kind → (marks : List ℕ) → Type 0
Alike w c m =
    (x y : ℕ) → is_present w x ≡ true → is_present w y ≡ true → same_orbit (hypermap_of w) c x y ≡ true →
    mark_at m x ≡ mark_at m y

-- the darts that have a mark in m have it in v
abbrev Kept : Table → (m v : List ℕ) → Type 0
Kept w m v = (y : ℕ) → is_present w y ≡ true → 1 ≤ mark_at m y → mark_at v y ≡ mark_at m y

module _ (w : Table) (c : Kind) (s : holds_hypermap w ≡ true) where
  abbrev same : (x y : ℕ) → Bool
  same x y = same_orbit (hypermap_of w) c x y

  q : Equivalence (hypermap_of w).darts (same_orbit (hypermap_of w) c)
  q = same_orbits w c s

  member : (x : ℕ) → is_present w x ≡ true → Mem x (hypermap_of w).darts
  member x p = rw mem_present p

  -- the orbit of x, which has no mark, is marked
  module _ (x : ℕ) (p : is_present w x ≡ true) (m v : List ℕ) (f : mark_at m x ≡ 0)
      (k : PartMarked (orbit_of (hypermap_of w) c x) x m v) where
    d : OrbitMarked w c x x m v
    d = orbit_marked k

    marked_now : mark_at v x ≡ x
    marked_now = d.inside x (q.reflexive x (member x p))

    owned_now : Owned w c m → Owned w c v
    owned_now o y i h =
        by_cases (same x y)
        (λ t. rw (d.inside y t) (record { here = p; same = t }))
        (λ t. let e = d.outside y (low w y i) t in rw e (o y i (omega arith)))

    alike_now : Alike w c m → Alike w c v
    alike_now a y z i j h =
        by_cases (same x y)
        (λ t. d.inside y t ∙ sym (d.inside z (q.transitive x y z (member x p) t h)))
        (λ t. let u = refuted (same x z) (λ n. clash
        (q.transitive x z y (member x p) n (q.symmetric y z (member y i) h)) t) in
        d.outside y (low w y i) t ∙ a y z i j h ∙ sym (d.outside z (low w z j) u))

    kept_now : Alike w c m → Kept w m v
    kept_now a y i h = d.outside y (low w y i) (refuted (same x y) (λ t. omega (arith, a x y p i t)))

    no_mark_now : (l : DoubleLink) → Present w l → (no_mark m l && not (same x l.first)) ≡ no_mark v l
    no_mark_now l i =
        by_cases (same x l.first)
        (λ t. rw t (and-false (no_mark m l) ∙
        sym (ne_eqb (mark_at v l.first) 0 (λ e. omega (arith, d.inside l.first t, low w x p)))))
        (λ t. rw (t, d.outside l.first (low w l.first i.first) t) (and-true (no_mark m l)))

    to_ask_now :
        (z : ℕ) (ls : List DoubleLink) → Each (Present w) ls →
        to_ask w c m (record { first = x; second = z } ∷ ls) ≡ to_ask w c v ls
    unfolding all no_two
    to_ask_now z ls e =
        let n : DoubleLink → Bool = λ l. not (same x l.first) in
        rw (eq-eqb (mark_at m x) 0 f)
        (sym (and_assoc (all (no_mark m) ls) (all n ls) (firsts_apart w c ls)) ∙
        ap (λ b. b && firsts_apart w c ls) (all_both (Present w) (no_mark m) n (no_mark v) no_mark_now ls e))

  -- where each first dart has a mark, the marks tell
  tells :
      (m : List ℕ) → Owned w c m → Alike w c m → (ls : List DoubleLink) → Each (Present w) ls →
      Each (HasOne m) ls → FirstsTell w c ls m
  unfolding FirstsTell
  tells m o a [] e f = tt
  tells m o a (l ∷ ls) e f =
      let x = l.first in
      let g = o x e.0.first f.0 in
      let k = member _ g.here in (
        λ y i. bool_ext _ _
            (λ t. let b : mark_at m y ≡ mark_at m x = eqb-true _ _ t in
            let n = o y i (omega (arith, f.0)) in
            q.transitive x (mark_at m x) y (member x e.0.first) (q.symmetric _ x k g.same) (rw b at n.same))
            (λ t. eq-eqb _ _ (sym (a x y e.0.first i t))),
        tells m o a ls e.1 f.1,
      )

-- and where the mark of each is its own number, they are the orbits' marks
own_marks :
    (w : Table) (c : Kind) (m : List ℕ) (ls : List DoubleLink) → FirstsTell w c ls m → Each (HasOwn m) ls →
    FirstsMarked w c ls m
unfolding FirstsTell FirstsMarked
own_marks w c m [] t o = tt
own_marks w c m (l ∷ ls) t o = (λ y i. rw o.0 at (t.0 y i), own_marks w c m ls t.1 o.1)

-- THE PASS over ls has rs to go, and b tells whether all first darts so far lie apart. The double-links before are not
-- listed: marks that keep those there are have only the rest to show
pub record Firsts (w : Table) (c : Kind) (ls rs : List DoubleLink) (m : List ℕ) (b : Bool) : Type 0 where
  pub size : length m ≡ capacity w
  pub present : Each (Present w) rs
  answer : firsts_apart w c ls ≡ (b && to_ask w c m rs)
  owned : Owned w c m
  alike : Alike w c m
  marked : (v : List ℕ) → Kept w m v → Each (HasOne v) rs → Each (HasOne v) ls
  own : b ≡ true → (v : List ℕ) → Kept w m v → Each (HasOwn v) rs → Each (HasOwn v) ls

module _ (w : Table) (c : Kind) (ls : List DoubleLink) where
  pub firsts_none : (m : List ℕ) → Each (Present w) ls → m ≡ replicate (capacity w) 0 → Firsts w c ls ls m true
  firsts_none m t e = record {
    size = rw e (length-replicate (capacity w) 0);
    present = t;
    answer = sym (ap (λ a. a && firsts_apart w c ls)
        (all_true (no_mark m) (λ l. eq-eqb _ 0 (none l.first)) ls));
    owned = λ y i h. absurd (omega (arith, none y));
    alike = λ x y i j h. none x ∙ sym (none y);
    marked = λ v g r. r;
    own = λ a v g r. r;
  }
    where
      none : (y : ℕ) → mark_at m y ≡ 0
      none y = rw e (zero_at (capacity w) (y - 1))

  module _ (l : DoubleLink) (rs : List DoubleLink) (m : List ℕ) (b : Bool) (i : Firsts w c ls (l ∷ rs) m b) where
    here : is_present w l.first ≡ true
    here = i.present.0.first

    pub firsts_mark : HasMark m l.first
    firsts_mark = record { low = low w _ here; high = omega (arith, high w _ here, i.size) }

    -- it has a mark, and so lies in the orbit of an earlier one
    pub firsts_shared : (mark_at m l.first ≡ 0 → ⊥) → Firsts w c ls rs m false
    unfolding all
    firsts_shared d = record {
      size = i.size;
      present = i.present.1;
      answer = i.answer ∙ rw (ne_eqb (mark_at m l.first) 0 d) (and-false b);
      owned = i.owned;
      alike = i.alike;
      marked = λ v g r. i.marked v g (omega (arith, g _ here (omega (arith, d))), r);
      own = λ a v g r. clash a refl;
    }

    pub firsts_on :
        holds_hypermap w ≡ true → mark_at m l.first ≡ 0 → (v : List ℕ) → length v ≡ length m →
        PartMarked (orbit_of (hypermap_of w) c l.first) l.first m v → Firsts w c ls rs v b
    firsts_on s f v e d = record {
      size = e ∙ i.size;
      present = i.present.1;
      answer = i.answer ∙ ap (λ a. b && a) (to_ask_now w c s _ here m v f d _ _ i.present.1);
      owned = owned_now w c s _ here m v f d i.owned;
      alike = alike_now w c s _ here m v f d i.alike;
      marked = λ u g r. i.marked u (kept u g) (omega (arith, kept_here u g, low w _ here), r);
      own = λ a u g r. i.own a u (kept u g) (kept_here u g, r);
    }
      where
        now : mark_at v l.first ≡ l.first
        now = marked_now w c s _ here m v f d

        kept : (u : List ℕ) → Kept w v u → Kept w m u
        kept u g y j n =
            let k = kept_now w c s _ here m v f d i.alike y j n in g y j (omega (arith, k, n)) ∙ k

        kept_here : (u : List ℕ) → Kept w v u → mark_at u l.first ≡ l.first
        kept_here u g = g _ here (omega (arith, now, low w _ here)) ∙ now

  -- once two lie in one orbit, the rest is not asked
  pub firsts_known : (rs : List DoubleLink) (m : List ℕ) → Firsts w c ls rs m false → false ≡ firsts_apart w c ls
  firsts_known rs m i = sym i.answer

  module _
      (m : List ℕ) (b : Bool) (i : Firsts w c ls [] m b) (s : holds_hypermap w ≡ true) (t : Each (Present w) ls) where
    pub firsts_answer : b ≡ firsts_apart w c ls
    unfolding all no_two
    firsts_answer = sym (i.answer ∙ and-true b)

    pub firsts_tell : FirstsTell w c ls m
    firsts_tell = tells w c s m i.owned i.alike ls t (i.marked m (λ y j n. refl) tt)

    pub firsts_own : b ≡ true → FirstsMarked w c ls m
    firsts_own a = own_marks w c m ls firsts_tell (i.own a m (λ y j n. refl) tt)

-- WHAT THE PASS IS PROVED BY
pub ruleset firsts_pass = (
  drop_more,
  drop_all,
  firsts_none,
  firsts_mark,
  firsts_shared,
  firsts_on,
  firsts_known,
  firsts_answer,
  firsts_tell,
  firsts_own,
)
