-- What a test keeps of a list: under two tests, and by the places of a list.
use mathlib.Core.Path.{◌≡◌, refl, ap}
use mathlib.Core.Bool.{Bool, ◌&&◌, not, cond}
use mathlib.Core.List.{List, [], ◌∷◌}
use Prim.Native.Nat.{ℕ, zero, suc, ◌+◌, ◌-◌, ◌≤◌, ◌<◌}
use native.Mathlib.Numerals.{add-one}
use native.Mathlib.Omega.{arith}
use lib.ListN.{length, get_or, take, drop}
use lib.Seq.{drop-cons}
use Rattle.std.specs.List.{filter}
use Rattle.lists.specs.Lists.{keep, up_from}
use Rattle.lists.proofs.Bools.{by_cases}
use Rattle.lists.proofs.Lists.{Mem, mem_head, mem_tail}

-- two tests in turn are one
pub keep_both : (p q : ℕ → Bool) (xs : List ℕ) → keep q (keep p xs) ≡ keep (λ x. p x && q x) xs
unfolding keep
keep_both p q [] = refl
keep_both p q (x ∷ xs) = by_cases (p x) (λ t. rw (t, keep_both p q xs)) (λ t. rw t (keep_both p q xs))

-- the places of a list that pass a test, by their numbers or in a row
pub keep_places :
    (p : ℕ → Bool) (m : List ℕ) (a n : ℕ) → a + n ≤ length m →
    length (filter p (take n (drop a m))) ≡ length (keep (λ x. p (get_or m (x - 1) 0)) (up_from (suc a) n))
unfolding keep up_from
keep_places p m a zero h = refl
keep_places p m a (suc n) h =
    let e = keep_places p m (suc a) n (omega arith) in
    let i : suc a - 1 ≡ a = omega arith in
    rw (drop-cons m a 0 (omega arith), i) (by_cases (p (get_or m a 0)) (λ t. rw t (ap suc e)) (λ t. rw t e))

-- what passes one test and fails another
pub keep_rest :
    (p q r : ℕ → Bool) (xs : List ℕ) → ((x : ℕ) → Mem x xs → r x ≡ (p x && not (q x))) →
    length (keep q (keep p xs)) + length (keep r xs) ≡ length (keep p xs)
unfolding keep
keep_rest p q r [] h = refl
keep_rest p q r (x ∷ xs) h =
    let i = keep_rest p q r xs (λ y m. h y (mem_tail y x xs m)) in
    let e = h x (mem_head x xs) in
    by_cases (p x)
    (λ t. by_cases (q x)
    (λ u. rw (e, t, u) (omega arith))
    (λ u. rw (e, t, u) (omega arith)))
    (λ t. rw (e, t) i)

-- A PASS over the numbers from 1 to n that keeps those that pass p: what is left of them at x
abbrev pub left : (n : ℕ) → (p : ℕ → Bool) → (x : ℕ) → List ℕ
left n p x = keep p (up_from x (n + 1 - x))

module _ (n : ℕ) (p : ℕ → Bool) where
  pub left_first : left n p 1 ≡ keep p (up_from 1 n)
  left_first = let e : n + 1 - 1 ≡ n = omega arith in rw e

  pub left_next : (x : ℕ) → x ≤ n → left n p x ≡ cond (p x) (x ∷ left n p (x + 1)) (left n p (x + 1))
  unfolding keep up_from
  left_next x h = let e : n + 1 - x ≡ suc (n + 1 - (x + 1)) = omega arith in rw (e, add-one x)

  pub left_none : (x : ℕ) → n < x → left n p x ≡ []
  unfolding keep up_from
  left_none x h = let e : n + 1 - x ≡ 0 = omega arith in rw e
