-- A loop that changes the numbers of a list in place: the first k by f, and the others as they were.
use mathlib.Core.Path.{◌≡◌, refl, ap, ◌∙◌}
use mathlib.Core.List.{List, [], ◌∷◌, map}
use Prim.Native.Nat.{ℕ, zero, suc, ◌+◌, ◌<◌}
use native.Mathlib.Omega.{arith}
use lib.ListN.{length, set, get_or}

unfoldable pub mapped_to : (k : ℕ) → (ℕ → ℕ) → List ℕ → List ℕ
mapped_to zero f xs = xs
mapped_to (suc k) f [] = []
mapped_to (suc k) f (x ∷ xs) = f x ∷ mapped_to k f xs

module _ (f : ℕ → ℕ) where
  pub mapped_all : (xs : List ℕ) (k : ℕ) → length xs ≡ k → mapped_to k f xs ≡ map f xs
  unfolding mapped_to
  mapped_all [] zero e = refl
  mapped_all [] (suc k) e = refl
  mapped_all (x ∷ xs) zero e = absurd (omega arith)
  mapped_all (x ∷ xs) (suc k) e = ap (λ l. f x ∷ l) (mapped_all xs k (omega arith))

  -- the next number is still as it was
  next : (xs : List ℕ) (k : ℕ) → get_or (mapped_to k f xs) k 0 ≡ get_or xs k 0
  unfolding mapped_to
  next xs zero = refl
  next [] (suc k) = refl
  next (x ∷ xs) (suc k) = next xs k

  map_next :
      (xs : List ℕ) (k : ℕ) → k < length xs → set (mapped_to k f xs) k (f (get_or xs k 0)) ≡ mapped_to (suc k) f xs
  unfolding mapped_to
  map_next [] k h = absurd (omega arith)
  map_next (x ∷ xs) zero h = refl
  map_next (x ∷ xs) (suc k) h = ap (λ l. f x ∷ l) (map_next xs k (omega arith))

  -- one turn of the loop, over the numbers as they are now
  module _ (xs now after : List ℕ) (k : ℕ) (h : k < length xs) (e : now ≡ mapped_to k f xs) where
    was : get_or now k 0 ≡ get_or xs k 0
    was = ap (λ l. get_or l k 0) e ∙ next xs k

    one_on : mapped_to (suc k) f xs ≡ mapped_to (k + 1) f xs
    one_on = ap (λ i. mapped_to i f xs) (omega arith)

    pub map_step : (v : ℕ) → v ≡ f (get_or now k 0) → after ≡ set now k v → after ≡ mapped_to (k + 1) f xs
    map_step v t q = q ∙ rw (t, was, e) (map_next xs k h) ∙ one_on
