-- The greatest of a list, and of the numbers that a ring names on a tape, one after the other.
use mathlib.Core.Path.{◌≡◌, sym, ◌∙◌}
use mathlib.Core.List.{List, [], ◌∷◌, ◌++◌, map}
use Prim.Native.Nat.{ℕ, zero, suc, max, ◌+◌, ◌*◌, ◌-◌}
use native.Mathlib.Omega.{arith}
use Rattle.std.specs.List.{fold, reduce, range_with_len}
use Rattle.std.specs.Option.{unwrap_or}
use Rattle.std.specs.Ordering.{nat_cmp, max_by_ordering}
use Rattle.std.proofs.lemmas.List.Folds.{max_of_map}
use lib.Dec.{ltb}
use borrow.Author.Tests.{ltb-true, ltb-false}
use Rattle.lists.proofs.Bools.{by_cases}
use Rattle.tape.specs.Tapes.{number_at, numbers_from}
use Rattle.needs.specs.Amounts.{larger, greatest}

-- THE LARGER of two, in arithmetic
pub larger_is : (a b : ℕ) → larger a b ≡ a + (b - a)
unfolding larger
larger_is a b =
    by_cases (ltb a b)
    (λ t. let h = ltb-true a b t in rw t (omega arith))
    (λ f. let h = ltb-false a b f in rw f (omega arith))

pub max_larger : (a b : ℕ) → max a b ≡ larger a b
max_larger a b = omega (arith, larger_is a b)

pub larger_zero : (a : ℕ) → larger a 0 ≡ a
larger_zero a = omega (arith, larger_is a 0)

pub zero_larger : (a : ℕ) → larger 0 a ≡ a
zero_larger a = omega (arith, larger_is 0 a)

pub larger_assoc : (a b c : ℕ) → larger a (larger b c) ≡ larger (larger a b) c
larger_assoc a b c =
    omega (arith, larger_is a b, larger_is b c, larger_is a (larger b c), larger_is (larger a b) c)

pub greatest_append : (xs ys : List ℕ) → greatest (xs ++ ys) ≡ larger (greatest xs) (greatest ys)
unfolding greatest
greatest_append [] ys = sym (zero_larger (greatest ys))
greatest_append (x ∷ xs) ys = rw (greatest_append xs ys) (larger_assoc x (greatest xs) (greatest ys))

-- THE SEARCH: the greatest of the numbers, one after the other
search_from :
    (tape : List ℕ) (n k i found : ℕ) → i ≡ 2 + 2 * k →
    fold (λ a j. max a (number_at tape (2 + 2 * j))) found (range_with_len k n) ≡
    larger found (greatest (numbers_from n i tape))
unfolding numbers_from greatest
search_from tape zero k i found e = sym (larger_zero found)
search_from tape (suc n) k i found e =
    let x = number_at tape (2 + 2 * k) in
    rw (search_from tape n (k + 1) (i + 2) (max found x) (omega arith), max_larger found x, e)
    (sym (larger_assoc found x _))

pub greatest_found :
    (tape : List ℕ) (n r : ℕ) →
    r ≡
    unwrap_or
    (reduce (λ p z. max_by_ordering (nat_cmp p z) p z) (map (λ k. number_at tape (2 + 2 * k)) (range_with_len 0 n))) 0 →
    r ≡ greatest (numbers_from n 2 tape)
greatest_found tape n r e =
    e ∙ max_of_map (λ k. number_at tape (2 + 2 * k)) (range_with_len 0 n) ∙
    search_from tape n 0 2 0 (omega arith) ∙ zero_larger _
