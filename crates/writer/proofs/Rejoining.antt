-- The joins of a canonical tape rebuild a dimension on a table where each dart is alone in it: those of one orbit make
-- its cycle, and those of the others leave it.
use mathlib.Core.Path.{◌≡◌, refl, ap, sym, ◌∙◌}
use mathlib.Core.Bool.{Bool, true, false}
use mathlib.Core.List.{List, [], ◌∷◌, map, map-append}
use Prim.Native.Nat.{ℕ}
use lib.ListN.{length, drop}
use Rattle.lists.specs.Lists.{distinct}
use Rattle.lists.proofs.Bools.{clash, refuted}
use Rattle.lists.proofs.Lists.{Mem, mem_head, mem_tail, mem_nil, mem_cases, not_among, keep_mem, mem_kept}
use Rattle.lists.proofs.Lists.{distinct_head, distinct_tail, rising_keep, rising_distinct}
use Rattle.hypermap.specs.Hypermap.{Dimension, of, orbit_of, is_least_in, least_darts}
use Rattle.hypermap.specs.Laws.{IsOrbit, Equivalence, in_orbit}
use Rattle.hypermap.proofs.Permutations.Reaching.{onward}
use Rattle.hypermap.proofs.Hypermaps.Totals.{up, fit}
use Rattle.hypermap.proofs.Laws.Orbits.{orbit_law, in_orbit_equivalence}
use Rattle.hypermap.proofs.Laws.Counts.{count_law}
use Rattle.table.specs.Layout.{Table, capacity, word_at, next_word, is_present, hypermap_of, holds_hypermap}
use Rattle.table.specs.Runs.{after_all, AllAccepted}
use Rattle.table.proofs.Holding.{mem_present, table_hypermap}
use Rattle.table.proofs.Runs.{after_both, accepted_both}
use Rattle.tape.specs.Steps.{changes, step_rule}
use Rattle.writer.specs.Canonical.{orbit_joins, joins_over, joins_of}
use Rattle.writer.proofs.Cycles.{turn, turn_else, turn_orbit}
use Rattle.writer.proofs.JoinSteps.{Turned, joined_all}

-- v has the darts of w, and in dimension k each is alone
pub record Unjoined (w v : Table) (k : Dimension) : Type 0 where
  pub size : length v ≡ length w
  pub hypermap : holds_hypermap v ≡ true
  pub darts : (hypermap_of v).darts ≡ (hypermap_of w).darts
  pub alone : (x : ℕ) → is_present w x ≡ true → word_at v x (next_word k) ≡ x

-- u has the successors of w in dimension k, and those of v in the other
abbrev pub Rejoined : (w v u : Table) → Dimension → Type 0
Rejoined w v u k = Turned w v u k (λ x. word_at w x (next_word k))

-- THE ORBITS of w in dimension k
module _ (w : Table) (k : Dimension) where
  abbrev Together : ℕ → ℕ → Type 0
  Together x z = in_orbit (hypermap_of w) (of k) x z ≡ true

  abbrev Apart : ℕ → ℕ → Type 0
  Apart x z = in_orbit (hypermap_of w) (of k) x z ≡ false

  abbrev is_least : ℕ → Bool
  is_least = is_least_in (orbit_of (hypermap_of w) (of k))

  abbrev least : List ℕ
  least = least_darts (hypermap_of w) (orbit_of (hypermap_of w) (of k))

  -- what the joins of the orbit of x make of a dart
  abbrev turned : (x z : ℕ) → ℕ
  turned x z = turn x (drop 1 (orbit_of (hypermap_of w) (of k) x)) z

  turned_else : (x z : ℕ) → Apart x z → turned x z ≡ z
  turned_else x z n = let q = not_among z x _ n in turn_else x _ z q.0 q.1

  module _ (s : holds_hypermap w ≡ true) where
    alike : Equivalence (hypermap_of w).darts (in_orbit (hypermap_of w) (of k))
    alike = in_orbit_equivalence (hypermap_of w) (table_hypermap w s) (of k)

    least_dart : (x : ℕ) → Mem x least → Mem x (hypermap_of w).darts
    least_dart x l = (mem_kept is_least (hypermap_of w).darts x l).0

    orbit_at :
        (x : ℕ) → Mem x least →
        IsOrbit (hypermap_of w).darts (λ z. word_at w z (next_word k)) x (orbit_of (hypermap_of w) (of k) x)
    orbit_at x l = (orbit_law (hypermap_of w) (table_hypermap w s) (of k)).0 x (least_dart x l)

    turned_next : (x z : ℕ) → Mem x least → Together x z → turned x z ≡ word_at w z (next_word k)
    turned_next x z l t =
        turn_orbit (λ z. word_at w z (next_word k)) x (hypermap_of w).darts (capacity w)
        (fit (hypermap_of w) (table_hypermap w s)) (orbit_at x l) z t

    next_together : (x z : ℕ) → Mem x least → Together x z → Together x (word_at w z (next_word k))
    next_together x z l t = let i = (orbit_at x l).members in (i _).1 (onward _ x z ((i z).0 t))

    -- each dart has a least one
    least_on : (z : ℕ) → is_present w z ≡ true → (x : ℕ) × Mem x least × Together x z
    least_on z p =
        let d = mem_present w z ∙ p in
        let c = (count_law (hypermap_of w) (table_hypermap w s) z d).0 (of k) in (
          c.least,
          keep_mem is_least (hypermap_of w).darts c.least (alike.within z _ d c.member) c.counted,
          alike.symmetric z _ d c.member,
        )

    -- and only one
    one_least : (x y z : ℕ) → Mem x least → Mem y least → Together x z → Together y z → x ≡ y
    one_least x y z i j t u =
        let d = least_dart x i in
        let c = (count_law (hypermap_of w) (table_hypermap w s) x d).0 (of k) in
        let r = alike.transitive x z y d t (alike.symmetric y z (least_dart y j) u) in
        c.unique x (alike.reflexive x d) (mem_kept is_least (hypermap_of w).darts x i).1 ∙
        sym (c.unique y r (mem_kept is_least (hypermap_of w).darts y j).1)

-- THE JOINS of the orbits of xs: their darts get the successors of w, and no other successor changes
record Rebuilt (w v u : Table) (k : Dimension) (xs : List ℕ) (g : ℕ → ℕ) : Type 0 where
  accepted : AllAccepted step_rule u (map changes (joins_over (hypermap_of w) k xs))
  after : ℕ → ℕ
  turning : Turned w v (after_all step_rule u (map changes (joins_over (hypermap_of w) k xs))) k after
  reached : (x z : ℕ) → Mem x xs → Together w k x z → after z ≡ word_at w z (next_word k)
  kept : (z : ℕ) → ((x : ℕ) → Mem x xs → Apart w k x (g z)) → after z ≡ g z

module _ (w v : Table) (k : Dimension) (s : holds_hypermap w ≡ true) where
  -- the first orbit, and then the others
  module _
      (x : ℕ) (xs : List ℕ) (u : Table) (g : ℕ → ℕ) (h : Turned w v u k g)
      (l : (y : ℕ) → Mem y (x ∷ xs) → Mem y (least w k)) (d : distinct (x ∷ xs) ≡ true)
      (alone : (y z : ℕ) → Mem y (x ∷ xs) → Together w k y z → g z ≡ z) where
    first : Mem x (least w k)
    first = l x (mem_head x xs)

    apart : (y z : ℕ) → Mem y xs → Together w k y z → Apart w k x z
    apart y z m t =
        refuted _ (λ r. let e = one_least w k s x y z first (l y (mem_tail y x xs m)) r t in
        clash (rw (← e) at m) (distinct_head x xs d))

    first_joined :
        AllAccepted step_rule u (map changes (orbit_joins (hypermap_of w) k x)) ×
        Turned w v (after_all step_rule u (map changes (orbit_joins (hypermap_of w) k x))) k (λ z. turned w k x (g z))
    unfolding orbit_joins
    first_joined =
        let i = least_dart w k s x first in
        let o = (orbit_at w k s x first).once in
        joined_all w v k x _ u g h (rw mem_present at i)
        (λ t m. let r = mem_tail t x _ m in
        (rw mem_present at ((alike w k s).within x t i r), alone x t (mem_head x xs) r))
        (distinct_head x _ o) (distinct_tail x _ o)

    still_alone : (y z : ℕ) → Mem y xs → Together w k y z → turned w k x (g z) ≡ z
    still_alone y z m t = ap (turned w k x) (alone y z (mem_tail y x xs m) t) ∙ turned_else w k x z (apart y z m t)

    module _
        (i : Rebuilt w v (after_all step_rule u (map changes (orbit_joins (hypermap_of w) k x))) k xs
        (λ z. turned w k x (g z))) where
      first_reached : (z : ℕ) → Together w k x z → i.after z ≡ word_at w z (next_word k)
      first_reached z t =
          let e = ap (turned w k x) (alone x z (mem_head x xs) t) ∙ turned_next w k s x z first t in
          i.kept z (λ y m. rw e (refuted _ (λ r. clash (next_together w k s x z first t) (apart y _ m r)))) ∙ e

      both_rebuilt : Rebuilt w v u k (x ∷ xs) g
      unfolding joins_over
      both_rebuilt =
          let cs = orbit_joins (hypermap_of w) k x in
          let ds = joins_over (hypermap_of w) k xs in
          let e = map-append changes cs ds in
          record {
            accepted = rw e (accepted_both step_rule u (map changes cs) (map changes ds) first_joined.0 i.accepted);
            after = i.after;
            turning = rw (e, after_both step_rule) i.turning;
            reached = λ y z c t. mem_cases y x xs c (λ e. first_reached z (rw e at t)) (λ c. i.reached y z c t);
            kept = λ z n.
                let e = turned_else w k x (g z) (n x (mem_head x xs)) in
                i.kept z (λ y m. rw e (n y (mem_tail y x xs m))) ∙ e;
          }

  rebuilt :
      (xs : List ℕ) (u : Table) (g : ℕ → ℕ) → Turned w v u k g → ((x : ℕ) → Mem x xs → Mem x (least w k)) →
      distinct xs ≡ true → ((x z : ℕ) → Mem x xs → Together w k x z → g z ≡ z) → Rebuilt w v u k xs g
  unfolding joins_over
  rebuilt [] u g h l d alone =
      record { accepted = tt; after = g; turning = h; reached = λ x z m. mem_nil x m; kept = λ z n. refl }
  rebuilt (x ∷ xs) u g h l d alone =
      both_rebuilt x xs u g h l d alone
      (rebuilt xs _ _ (first_joined x xs u g h l d alone).1 (λ y m. l y (mem_tail y x xs m)) (distinct_tail x xs d)
      (still_alone x xs u g h l d alone))

pub rejoin :
    (w v : Table) (k : Dimension) → holds_hypermap w ≡ true → Unjoined w v k →
    AllAccepted step_rule v (map changes (joins_of (hypermap_of w) k)) ×
    Rejoined w v (after_all step_rule v (map changes (joins_of (hypermap_of w) k))) k
rejoin w v k s p =
    let start : Turned w v v k (λ x. x) = record {
      size = p.size;
      hypermap = p.hypermap;
      darts = p.darts;
      next = p.alone;
      other = λ j n x q. refl;
    } in
    let once = rising_distinct (least w k) (rising_keep (is_least w k) _ (up (hypermap_of w) (table_hypermap w s))) in
    let r = rebuilt w v k s (least w k) v (λ x. x) start (λ x m. m) once (λ x z m t. refl) in (
      r.accepted,
      record {
        size = r.turning.size;
        hypermap = r.turning.hypermap;
        darts = r.turning.darts;
        next = λ x q. let c = least_on w k s x q in r.turning.next x q ∙ r.reached c.0 x c.1 c.2;
        other = r.turning.other;
      },
    )
