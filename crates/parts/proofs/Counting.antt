-- Adding up and counting in one pass over the numbers: what was met and what is still to come make up the whole.
use mathlib.Core.Path.{◌≡◌, refl, ap, ◌∙◌}
use mathlib.Core.Bool.{Bool, true, false, cond}
use mathlib.Core.List.{◌∷◌}
use Prim.Native.Nat.{ℕ, zero, suc, ◌+◌, ◌≤◌, ◌<◌}
use native.Mathlib.Numerals.{add-one}
use native.Mathlib.Omega.{arith}
use lib.ListN.{length, take, replicate}
use lib.Seq.{length-take-le}
use lib.Dec.{ltb}
use borrow.Author.Tests.{le-leb}
use Rattle.std.specs.List.{filter, range_with_len}
use Rattle.lists.specs.Lists.{keep, sum_of, up_from}
use Rattle.lists.proofs.Bools.{by_cases}
use Rattle.lists.proofs.Sums.{sum_ones}
use Rattle.lists.proofs.Keeping.{left, left_first, left_next, left_none}
use Rattle.table.specs.Limits.{max_capacity, edge_next}
use Rattle.table.specs.Layout.{Table, capacity, word_at, is_present}

-- of the numbers from 1 to n that pass p, what f gives is added up below x
pub record Summing (n : ℕ) (p : ℕ → Bool) (f : ℕ → ℕ) (x total : ℕ) : Type 0 where
  pub low : 1 ≤ x
  pub high : x ≤ n + 1
  pub sum : total + sum_of f (left n p x) ≡ sum_of f (keep p (up_from 1 n))

pub summing_none : (n : ℕ) (p : ℕ → Bool) (f : ℕ → ℕ) → Summing n p f 1 0
summing_none n p f = record { low = omega arith; high = omega arith; sum = rw (left_first n p) (omega arith) }

module _ (n : ℕ) (p : ℕ → Bool) (f : ℕ → ℕ) (x total : ℕ) (c : Summing n p f x total) where
  next : x ≤ n → sum_of f (left n p x) ≡ cond (p x) (f x) 0 + sum_of f (left n p (x + 1))
  unfolding sum_of
  next h = rw (left_next n p x h) (by_cases (p x) (λ t. rw t (omega arith)) (λ t. rw t (omega arith)))

  pub summing_yes : x ≤ n → p x ≡ true → Summing n p f (x + 1) (total + f x)
  summing_yes h t =
      let e = rw t at (next h) in record { low = omega arith; high = omega arith; sum = omega (arith, c.sum) }

  pub summing_no : x ≤ n → p x ≡ false → Summing n p f (x + 1) total
  summing_no h t =
      let e = rw t at (next h) in record { low = omega arith; high = omega arith; sum = omega (arith, c.sum) }

  pub summing_all : n < x → total ≡ sum_of f (keep p (up_from 1 n))
  unfolding sum_of
  summing_all h =
      let t : total + 0 ≡ sum_of f (keep p (up_from 1 n)) = rw (left_none n p x h) at c.sum in
      omega arith

-- they are counted: each gives one
pub record Counting (n : ℕ) (p : ℕ → Bool) (x count : ℕ) : Type 0 where
  pub few : count < x
  pub ones : Summing n p (λ y. 1) x count

pub counting_none : (n : ℕ) (p : ℕ → Bool) → Counting n p 1 0
counting_none n p = record { few = omega arith; ones = summing_none n p (λ y. 1) }

module _ (n : ℕ) (p : ℕ → Bool) (x count : ℕ) (c : Counting n p x count) where
  pub counting_yes : x ≤ n → p x ≡ true → Counting n p (x + 1) (count + 1)
  counting_yes h t = let l = c.few in record { few = omega arith; ones = summing_yes n p (λ y. 1) x count c.ones h t }

  pub counting_no : x ≤ n → p x ≡ false → Counting n p (x + 1) count
  counting_no h t = let l = c.few in record { few = omega arith; ones = summing_no n p (λ y. 1) x count c.ones h t }

  pub counting_all : n < x → count ≡ length (keep p (up_from 1 n))
  counting_all h =
      summing_all n p (λ y. 1) x count c.ones h ∙ sum_ones (λ y. 1) (keep p (up_from 1 n)) (λ y m. refl)

-- the darts, kept by the library's filter of a range, which looks at a word alone
pub darts_kept :
    (w : Table) (a n : ℕ) → 1 ≤ a → a + n ≤ capacity w + 1 →
    filter (λ x. ltb 0 (word_at w x edge_next)) (range_with_len a n) ≡ keep (is_present w) (up_from a n)
unfolding keep up_from is_present
darts_kept w a zero l h = refl
darts_kept w a (suc n) l h =
    let r = darts_kept w (suc a) n (omega arith) (omega arith) in
    rw (add-one a, le-leb 1 a l, le-leb a (capacity w) (omega arith))
    (by_cases (ltb 0 (word_at w a edge_next)) (λ t. rw t (ap (λ u. a ∷ u) r)) (λ t. rw t r))

-- a part of a local array
pub zeros_length : (n : ℕ) → n ≤ max_capacity → length {A = ℕ} (take n (replicate max_capacity 0)) ≡ n
zeros_length n h = length-take-le n (replicate max_capacity 0) h
