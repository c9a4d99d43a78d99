-- The least capacity of a tape: the greatest number that is named is at most n exactly where each of them is, and the
-- numbers that accepted commands name are those of the table.
use mathlib.Core.Path.{◌≡◌}
use mathlib.Core.Bool.{true}
use mathlib.Core.List.{List, [], ◌∷◌}
use Prim.Native.Nat.{ℕ, ◌≤◌}
use native.Mathlib.Omega.{arith}
use lib.Dec.{leb, eqb}
use borrow.Author.Tests.{eqb-true, eqb-false, leb-true, le-leb}
use Rattle.lists.specs.Lists.{all}
use Rattle.lists.proofs.Bools.{by_cases, and_right, and_true}
use Rattle.lists.proofs.Lists.{Mem, mem_head, mem_tail, mem_nil, mem_cases, all_mem}
use Rattle.table.specs.Layout.{Table, capacity, is_present, holds_hypermap}
use Rattle.table.specs.Commands.{puts, takes_out, joins, cuts}
use Rattle.table.specs.Runs.{AllAccepted}
use Rattle.table.proofs.Holding.{high}
use Rattle.table.proofs.Stages.{passed, all_present}
use Rattle.table.proofs.Accepting.{put_passed}
use Rattle.rings.proofs.Conditions.{accepted_list}
use Rattle.tape.specs.Steps.{TapeCommand, changes, reports, cuts_ring, step_refusal, step_on, step_rule}
use Rattle.tape.proofs.Running.{step_holds}
use Rattle.needs.specs.Amounts.{named_by, named_in, greatest}
use Rattle.needs.specs.Laws.{CapacityLaw, AcceptedCapacityLaw}
use Rattle.needs.proofs.Greatest.{larger_is, larger_zero, greatest_append}

-- BOUNDS of a list
greatest_below : (xs : List ℕ) (n : ℕ) → ((x : ℕ) → Mem x xs → x ≤ n) → greatest xs ≤ n
unfolding greatest
greatest_below [] n h = omega arith
greatest_below (x ∷ xs) n h =
    let l = h x (mem_head x xs) in
    let r = greatest_below xs n (λ y m. h y (mem_tail y x xs m)) in
    omega (arith, larger_is x (greatest xs))

each_below : (xs : List ℕ) (n : ℕ) → greatest xs ≤ n → (x : ℕ) → Mem x xs → x ≤ n
unfolding greatest
each_below [] n h x m = mem_nil x m
each_below (y ∷ ys) n h x m =
    let e = larger_is y (greatest ys) in
    mem_cases x y ys m (λ q. omega arith) (λ k. each_below ys n (omega arith) x k)

pub capacity_law : CapacityLaw
capacity_law w cs = (
  λ h. greatest_below (named_in cs) (capacity w) (λ x m. by_cases (eqb x 0)
      (λ t. omega (arith, eqb-true x 0 t))
      (λ f. leb-true x (capacity w) (and_right (leb 1 x) (leb x (capacity w)) (h x m (eqb-false x 0 f))))),
  λ h x m d.
      and_true (leb 1 x) (leb x (capacity w)) (le-leb 1 x (omega arith))
      (le-leb x (capacity w) (each_below (named_in cs) (capacity w) h x m)),
)

-- ACCEPTED COMMANDS
present_below : (w : Table) (xs : List ℕ) → all (is_present w) xs ≡ true → greatest xs ≤ capacity w
present_below w xs p = greatest_below xs (capacity w) (λ x m. high w x (all_mem (is_present w) xs p x m))

named_below : (w : Table) (c : TapeCommand) → step_refusal w c ≡ 0 → greatest (named_by c) ≤ capacity w
unfolding greatest
named_below w (changes (puts x)) e = omega (arith, larger_zero x, (put_passed w x e).high)
named_below w (changes (takes_out x)) e = present_below w (x ∷ []) (all_present w (x ∷ []) (passed _ _ e).0)
named_below w (changes (joins k a b)) e = present_below w (a ∷ b ∷ []) (all_present w (a ∷ b ∷ []) (passed _ _ e).0)
named_below w (changes (cuts k a b)) e = present_below w (a ∷ b ∷ []) (all_present w (a ∷ b ∷ []) (passed _ _ e).0)
named_below w reports e = omega arith
named_below w (cuts_ring ws) e = present_below w ws (accepted_list w ws e).darts

accepted :
    (cs : List TapeCommand) (w : Table) → holds_hypermap w ≡ true → AllAccepted step_rule w cs →
    greatest (named_in cs) ≤ capacity w
unfolding named_in greatest
accepted [] w s a = omega arith
accepted (c ∷ cs) w s a =
    let k = step_holds w c s a.0 in
    let r : greatest (named_in cs) ≤ capacity w = rw k.1 at (accepted cs (step_on w c) k.0 a.1) in
    let l = named_below w c a.0 in
    omega (
      arith,
      greatest_append (named_by c) (named_in cs),
      larger_is (greatest (named_by c)) (greatest (named_in cs)),
    )

pub accepted_capacity_law : AcceptedCapacityLaw
accepted_capacity_law w cs = accepted cs w
