-- The place of a number in a list: a member has one, it is the first where the number is listed, and it is below the
-- length exactly for members.
use mathlib.Core.Path.{◌≡◌, refl, ap, sym, ◌∙◌}
use mathlib.Core.Bool.{true, false}
use mathlib.Core.List.{List, [], ◌∷◌}
use Prim.Native.Nat.{ℕ, zero, suc, ◌≤◌, ◌<◌}
use native.Mathlib.Omega.{arith}
use lib.Dec.{eqb, ltb}
use lib.ListN.{length, get_or}
use borrow.Author.Tests.{eqb-true, eqb-false, lt-ltb, le-ltb}
use Rattle.lists.specs.Lists.{among, distinct, index_of}
use Rattle.lists.proofs.Bools.{by_cases, clash}
use Rattle.lists.proofs.Lists.{Mem, mem_head, mem_tail, mem_nil, mem_cases, distinct_head}

pub index_member : (y : ℕ) (xs : List ℕ) → Mem y xs → (index_of y xs < length xs) × (get_or xs (index_of y xs) 0 ≡ y)
unfolding index_of
index_member y [] m = mem_nil y m
index_member y (x ∷ xs) m =
    by_cases (eqb y x)
    (λ t. rw t (omega arith, sym (eqb-true y x t)))
    (λ t. let i = index_member y xs (mem_cases y x xs m (λ e. absurd (eqb-false y x t e)) (λ k. k)) in
    rw t (omega (arith, i.0), i.1))

index_absent : (y : ℕ) (xs : List ℕ) → among y xs ≡ false → index_of y xs ≡ length xs
unfolding index_of among
index_absent y [] n = refl
index_absent y (x ∷ xs) n =
    by_cases (eqb y x) (λ t. clash refl (rw t at n)) (λ t. rw t (ap suc (index_absent y xs (rw t at n))))

pub indexed : (y : ℕ) (xs : List ℕ) → ltb (index_of y xs) (length xs) ≡ among y xs
indexed y xs =
    by_cases (among y xs)
    (λ t. lt-ltb (index_of y xs) (length xs) (index_member y xs t).0 ∙ sym t)
    (λ t. le-ltb (index_of y xs) (length xs) (omega (arith, index_absent y xs t)) ∙ sym t)

pub index_within : (y : ℕ) (xs : List ℕ) → index_of y xs ≤ length xs
index_within y xs =
    by_cases (among y xs) (λ t. omega (arith, (index_member y xs t).0)) (λ t. omega (arith, index_absent y xs t))

pub index_first : (y : ℕ) (xs : List ℕ) (k : ℕ) → k < index_of y xs → get_or xs k 0 ≡ y → ⊥
unfolding index_of
index_first y [] k h e = absurd (omega arith)
index_first y (x ∷ xs) zero h e =
    by_cases (eqb y x) (λ t. let z : 0 < 0 = rw t at h in absurd (omega arith)) (λ t. eqb-false y x t (sym e))
index_first y (x ∷ xs) (suc k) h e =
    by_cases (eqb y x)
    (λ t. let z : suc k < 0 = rw t at h in absurd (omega arith))
    (λ t. let z : suc k < suc (index_of y xs) = rw t at h in index_first y xs k (omega arith) e)

pub mem_at : (xs : List ℕ) (k : ℕ) → k < length xs → Mem (get_or xs k 0) xs
mem_at [] k h = absurd (omega arith)
mem_at (x ∷ xs) zero h = mem_head x xs
mem_at (x ∷ xs) (suc k) h = mem_tail (get_or xs k 0) x xs (mem_at xs k (omega arith))

pub not_again : (x : ℕ) (xs : List ℕ) → distinct (x ∷ xs) ≡ true → (k : ℕ) → k < length xs → get_or xs k 0 ≡ x → ⊥
not_again x xs d k h e = clash (rw e at (mem_at xs k h)) (distinct_head x xs d)

pub any_default : (xs : List ℕ) (i d e : ℕ) → i < length xs → get_or xs i d ≡ get_or xs i e
any_default [] i d e h = absurd (omega arith)
any_default (x ∷ xs) zero d e h = refl
any_default (x ∷ xs) (suc i) d e h = any_default xs i d e (omega arith)
