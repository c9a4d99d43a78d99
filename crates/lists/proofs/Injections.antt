-- An injection of a list into itself is onto, as a function that undoes it shows.
use Rattle.std.proofs.Common.{◌≡◌, ℕ, true, List, [], ◌∷◌, map, sym, refl, ap, ◌∙◌, arith}
use lib.ListN.{length-map}
use Rattle.lists.proofs.Lists.{Mem, mem_head, mem_tail, mem_cases, distinct_cons, mem_nil, distinct_head, distinct_tail}
use Rattle.lists.proofs.Lists.{pigeonhole}
use Rattle.lists.specs.Lists.{among, distinct}
use Rattle.lists.proofs.Bools.{by_cases, clash, refuted}

-- a member of a mapped list comes of a member
pub map_mem : (f : ℕ → ℕ) (xs : List ℕ) (y : ℕ) → Mem y (map f xs) → (x : ℕ) × Mem x xs × (f x ≡ y)
map_mem f [] y m = mem_nil y m
map_mem f (x ∷ xs) y m =
    mem_cases y (f x) (map f xs) m
    (λ e. (x, mem_head x xs, sym e))
    (λ k. let r = map_mem f xs y k in (r.0, mem_tail r.0 x xs r.1, r.2))

module _ (f g : ℕ → ℕ) where
  pub map_distinct :
      (xs : List ℕ) → ((x : ℕ) → Mem x xs → g (f x) ≡ x) → distinct xs ≡ true → distinct (map f xs) ≡ true
  unfolding distinct
  map_distinct [] undone d = refl
  map_distinct (x ∷ xs) undone d =
      distinct_cons (f x) (map f xs) (refuted _ (λ m. let r = map_mem f xs (f x) m in
      clash (same r.0 r.1 r.2) (distinct_head x xs d)))
      (map_distinct xs (λ y m. undone y (mem_tail y x xs m)) (distinct_tail x xs d))
    where
      same : (y : ℕ) → Mem y xs → f y ≡ f x → Mem x xs
      same y m e = rw (sym (undone y (mem_tail y x xs m)) ∙ ap g e ∙ undone x (mem_head x xs)) at m

  pub onto :
      (xs : List ℕ) → distinct xs ≡ true → ((x : ℕ) → Mem x xs → Mem (f x) xs) → ((x : ℕ) → Mem x xs → g (f x) ≡ x) →
      (y : ℕ) → Mem y xs → Mem (g y) xs × (f (g y) ≡ y)
  onto xs d keeps undone y m =
      by_cases (among y (map f xs))
      (λ t. let r = map_mem f xs y t in let e : g y ≡ r.0 = ap g (sym r.2) ∙ undone r.0 r.1 in
      (rw e r.1, ap f e ∙ r.2))
      (λ n. absurd (omega (
        arith,
        length-map xs f,
        pigeonhole (y ∷ map f xs) xs (distinct_cons y (map f xs) n (map_distinct xs undone d)) within,
      )))
    where
      within : (z : ℕ) → Mem z (y ∷ map f xs) → Mem z xs
      within z i =
          mem_cases z y (map f xs) i (λ e. rw e m) (λ t. let r = map_mem f xs z t in rw r.2 at (keeps r.0 r.1))
