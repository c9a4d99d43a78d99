-- Ranges of numbers: which numbers they have, that they rise, how long they are, and what is said of all of them.
use Rattle.std.proofs.Common.{◌≡◌, ℕ, zero, suc, ◌+◌, ◌<◌, ◌≤◌, Bool, true, ◌&&◌, eqb, ltb, length, get_or, map, refl}
use Rattle.std.proofs.Common.{List, [], ◌∷◌, ◌∙◌, ap, arith, lt-ltb, eqb-true, add-one, add-zero}
use Rattle.std.specs.List.{list_all, range_with_len}
use borrow.Author.Tests.{eqb-false}
use Rattle.lists.specs.Lists.{all, rising, up_from}
use Rattle.lists.proofs.Bools.{by_cases}
use Rattle.lists.proofs.Lists.{Mem, mem_head, mem_tail, mem_nil, mem_cases, mem_all}

pub mem_up_from : (n i x : ℕ) → i ≤ x → x < i + n → Mem x (up_from i n)
unfolding up_from
mem_up_from zero i x l h = absurd (omega arith)
mem_up_from (suc n) i x l h =
    by_cases (eqb x i)
    (λ t. rw (eqb-true x i t) (mem_head i (up_from (suc i) n)))
    (λ t. let d = eqb-false x i t in mem_tail x i _ (mem_up_from n (suc i) x (omega arith) (omega arith)))

pub up_from_mem : (n i x : ℕ) → Mem x (up_from i n) → (i ≤ x) × (x < i + n)
unfolding up_from
up_from_mem zero i x m = mem_nil x m
up_from_mem (suc n) i x m =
    mem_cases x i (up_from (suc i) n) m (λ e. omega arith) (λ k. let r = up_from_mem n (suc i) x k in omega arith)

pub up_from_rising : (i n : ℕ) → rising (up_from i n) ≡ true
unfolding up_from rising
up_from_rising i zero = refl
up_from_rising i (suc n) =
    rw (mem_all (ltb i) (up_from (suc i) n) (λ x m. lt-ltb i x (up_from_mem n (suc i) x m).0))
    (up_from_rising (suc i) n)

pub up_from_length : (i n : ℕ) → length (up_from i n) ≡ n
unfolding up_from
up_from_length i zero = refl
up_from_length i (suc n) = ap suc (up_from_length (suc i) n)

pub range_all : (p : ℕ → Bool) (x n : ℕ) → list_all p (range_with_len x n) ≡ all p (up_from x n)
unfolding all up_from
range_all p x zero = refl
range_all p x (suc n) = rw add-one (ap (λ b. p x && b) (range_all p (suc x) n))

pub map_up_from : (h : ℕ → ℕ) (a n i : ℕ) → i < n → get_or (map h (up_from a n)) i 0 ≡ h (a + i)
unfolding up_from
map_up_from h a zero i l = absurd (omega arith)
map_up_from h a (suc n) zero l = rw add-zero
map_up_from h a (suc n) (suc i) l = map_up_from h (suc a) n i (omega arith) ∙ ap h (omega arith)

pub words_all : (p : ℕ → Bool) (ws : List ℕ) → list_all p ws ≡ all p ws
unfolding all
words_all p [] = refl
words_all p (x ∷ ws) = ap (λ b. p x && b) (words_all p ws)
