-- Rising lists of the same members are equal.
use Rattle.std.proofs.Common.{◌≡◌, ℕ, true, List, [], ◌∷◌, sym, refl, ◌∙◌, ap₂, arith}
use Rattle.lists.specs.Lists.{among, rising}
use Rattle.lists.proofs.Bools.{bool_ext}
use Rattle.lists.proofs.Lists.{Mem, mem_head, mem_tail, mem_nil, mem_cases, rising_head, rising_tail}

-- RISING LISTS of the same members
pub same_head :
    (x y : ℕ) (xs ys : List ℕ) → rising (x ∷ xs) ≡ true → rising (y ∷ ys) ≡ true →
    ((z : ℕ) → among z (x ∷ xs) ≡ among z (y ∷ ys)) → x ≡ y
same_head x y xs ys u v same =
    mem_cases x y ys (sym (same x) ∙ mem_head x xs) (λ e. e)
    (λ i. mem_cases y x xs (same y ∙ mem_head y ys) sym
    (λ j. absurd (omega (arith, rising_head x xs u y j, rising_head y ys v x i))))

pub same_tail :
    (x : ℕ) (xs ys : List ℕ) → rising (x ∷ xs) ≡ true → ((z : ℕ) → among z (x ∷ xs) ≡ among z (x ∷ ys)) →
    (z : ℕ) → Mem z xs → Mem z ys
same_tail x xs ys u same z m =
    mem_cases z x ys (sym (same z) ∙ mem_tail z x xs m) (λ e. absurd (omega (arith, rising_head x xs u z m))) (λ k. k)

pub rising_same : (xs ys : List ℕ) → rising xs ≡ true → rising ys ≡ true → ((z : ℕ) → among z xs ≡ among z ys) → xs ≡ ys
rising_same [] [] u v same = refl
rising_same [] (y ∷ ys) u v same = mem_nil y (same y ∙ mem_head y ys)
rising_same (x ∷ xs) [] u v same = mem_nil x (sym (same x) ∙ mem_head x xs)
rising_same (x ∷ xs) (y ∷ ys) u v same =
    let e = same_head x y xs ys u v same in
    let s : (z : ℕ) → among z (y ∷ xs) ≡ among z (y ∷ ys) = rw e at same in
    ap₂ (λ a l. a ∷ l) e (rising_same xs ys (rising_tail x xs u) (rising_tail y ys v) (λ z. bool_ext _ _
    (same_tail y xs ys (rw e at u) s z) (same_tail y ys xs v (λ a. sym (s a)) z)))
