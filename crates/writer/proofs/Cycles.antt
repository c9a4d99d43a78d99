-- A cycle as a product of swaps: the first number of an orbit is swapped with each of the others, in their order, and
-- that moves each number of the orbit to the next one and leaves the rest where they are.
use mathlib.Core.Path.{◌≡◌, refl, sym, ◌∙◌}
use mathlib.Core.Bool.{true, false}
use mathlib.Core.List.{List, [], ◌∷◌}
use Prim.Native.Nat.{ℕ, zero, suc, ◌≤◌}
use native.Mathlib.Omega.{arith}
use lib.Dec.{eqb}
use lib.ListN.{length}
use borrow.Author.Tests.{eqb-true, eq-eqb}
use Rattle.lists.specs.Lists.{among, distinct}
use Rattle.lists.proofs.Bools.{by_cases, clash}
use Rattle.lists.proofs.Lists.{Mem, mem_nil, mem_cases, not_among, distinct_head, distinct_tail}
use Rattle.hypermap.specs.Hypermap.{walk_from, walk}
use Rattle.hypermap.specs.Laws.{iterate, IsOrbit}
use Rattle.hypermap.specs.Change.{swap}
use Rattle.hypermap.proofs.Permutations.Splicing.{swap_first, swap_second, swap_else}

-- h swapped with each of a list
abbrev pub turn : (h : ℕ) → List ℕ → (x : ℕ) → ℕ
turn h [] x = x
turn h (t ∷ ts) x = turn h ts (swap h t x)

pub turn_else : (h : ℕ) (ts : List ℕ) (x : ℕ) → (x ≡ h → ⊥) → among x ts ≡ false → turn h ts x ≡ x
turn_else h [] x d n = refl
turn_else h (t ∷ ts) x d n =
    let r = not_among x t ts n in rw (swap_else h t x d r.0) (turn_else h ts x d r.1)

-- by f the list goes on from x and ends before h
abbrev LeadsHome : (f : ℕ → ℕ) → (h x : ℕ) → List ℕ → Type 0
LeadsHome f h x [] = x ≡ h
LeadsHome f h x (t ∷ ts) = (x ≡ t) × LeadsHome f h (f t) ts

module _ (f : ℕ → ℕ) (h : ℕ) where
  walk_leads : (k n x : ℕ) → k ≤ n → iterate k f x ≡ h → LeadsHome f h x (walk_from n f h x)
  unfolding walk_from
  walk_leads zero zero x l e = e
  walk_leads zero (suc n) x l e = rw (eq-eqb x h e) e
  walk_leads (suc k) zero x l e = absurd (omega arith)
  walk_leads (suc k) (suc n) x l e =
      by_cases (eqb x h) (λ t. rw t (eqb-true x h t)) (λ t. rw t (refl, walk_leads k n (f x) (omega arith) e))

  turn_home :
      (ts : List ℕ) (x : ℕ) → among h ts ≡ false → distinct ts ≡ true → LeadsHome f h x ts → turn h ts h ≡ x
  turn_home [] x n d w = sym w
  turn_home (t ∷ ts) x n d w =
      rw swap_first (turn_else h ts t (λ e. (not_among h t ts n).0 (sym e)) (distinct_head t ts d) ∙ sym w.0)

  turn_next :
      (ts : List ℕ) (x : ℕ) → among h ts ≡ false → distinct ts ≡ true → LeadsHome f h x ts →
      (z : ℕ) → Mem z ts → turn h ts z ≡ f z
  turn_next [] x n d w z m = mem_nil z m
  turn_next (t ∷ ts) x n d w z m =
      let r = not_among h t ts n in
      mem_cases z t ts m
      (λ e. rw (e, swap_second h t) (turn_home ts (f t) r.1 (distinct_tail t ts d) w.1))
      (λ i. rw (swap_else h t z (λ e. clash (rw e at i) r.1) (λ e. clash (rw e at i) (distinct_head t ts d)))
      (turn_next ts (f t) r.1 (distinct_tail t ts d) w.1 z i))

  -- THE CYCLE of an orbit
  pub turn_orbit :
      (ds : List ℕ) (n : ℕ) → length ds ≤ n → IsOrbit ds f h (walk n f h) → (z : ℕ) → Mem z (walk n f h) →
      turn h (walk_from n f h (f h)) z ≡ f z
  turn_orbit ds n l o z m =
      let ts = walk_from n f h (f h) in
      let a = distinct_head h ts o.once in
      let d = distinct_tail h ts o.once in
      let w = walk_leads (length ts) n (f h) (omega (arith, o.bounded)) o.home in
      mem_cases z h ts m (λ e. rw e (turn_home ts (f h) a d w)) (turn_next ts (f h) a d w z)
