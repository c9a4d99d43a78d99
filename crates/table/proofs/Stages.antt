-- Refusals in order: what a refusal of 0 says of each stage, and how the stages of code put together give a
-- definition's.
use Rattle.std.specs.Bool.{⊤}
use Rattle.std.proofs.Common.{◌≡◌, ℕ, ◌<◌, Bool, true, false, ◌&&◌, eqb, List, [], ◌∷◌, sym, refl, ap, ◌∙◌, arith}
use Rattle.std.proofs.Common.{eq-eqb, ne_eqb, eqb-true}
use borrow.Author.Tests.{eqb-false}
use Rattle.lists.specs.Lists.{all}
use Rattle.lists.proofs.Bools.{by_cases, and_left}
use Rattle.lists.proofs.Lists.{Mem, mem_head, mem_tail, all_mem, mem_all}
use Rattle.table.specs.Refusals.{or_else, unless, off_the_table, no_tab}
use Rattle.table.specs.Layout.{Table, is_number, is_present}
use Rattle.table.specs.Commands.{presence_refusal, leaves}

-- 0 of both stages
pub passed : (n m : ℕ) → or_else n m ≡ 0 → (n ≡ 0) × (m ≡ 0)
unfolding or_else
passed n m e = by_cases (eqb n 0) (λ t. (eqb-true n 0 t, rw t at e)) (λ t. absurd (eqb-false n 0 t (rw t at e)))

pub fitting : (t : Bool) (n : ℕ) → 0 < n → unless t n ≡ 0 → t ≡ true
unfolding unless
fitting true n p e = refl
fitting false n p e = absurd (omega arith)

-- the first stage refuses, or lets the second answer
pub refused_first : (n m r : ℕ) → r ≡ n → (r ≡ 0 → ⊥) → r ≡ or_else n m
unfolding or_else
refused_first n m r e z = rw (ne_eqb n 0 (λ q. z (e ∙ q))) e

pub refused_second : (n m k r : ℕ) → k ≡ n → k ≡ 0 → r ≡ m → r ≡ or_else n m
unfolding or_else
refused_second n m k r e z q = rw (eq-eqb n 0 (sym e ∙ z)) q

-- one stage by itself
pub alone : (n : ℕ) → or_else n 0 ≡ n
unfolding or_else
alone n = by_cases (eqb n 0) (λ t. rw t (sym (eqb-true n 0 t))) (λ t. rw t)

-- code asks r for a condition t, and stops there or goes on
pub stage_stop : (r t : Bool) (n m : ℕ) → 0 < n → r ≡ t → r ≡ false → n ≡ or_else (unless t n) m
unfolding or_else unless
stage_stop r t n m p e f = rw (sym e ∙ f, ne_eqb n 0 (omega arith))

pub stage_on : (r t : Bool) (n m k : ℕ) → r ≡ t → r ≡ true → k ≡ m → k ≡ or_else (unless t n) m
unfolding or_else unless
stage_on r t n m k e f q = rw (sym e ∙ f) q

-- PRESENCE of one dart and of two
and_all : (t : Bool) → (t && true) ≡ t
and_all true = refl
and_all false = refl

pub one_presence :
    (w : Table) (x : ℕ) →
    presence_refusal w (x ∷ []) ≡ or_else (unless (is_number w x) off_the_table) (unless (is_present w x) no_tab)
unfolding presence_refusal all
one_presence w x = cc (and_all (is_number w x), and_all (is_present w x))

pub two_presence :
    (w : Table) (a b : ℕ) →
    presence_refusal w (a ∷ b ∷ []) ≡
    or_else (unless (is_number w a && is_number w b) off_the_table) (unless (is_present w a && is_present w b) no_tab)
unfolding presence_refusal all
two_presence w a b = cc (and_all (is_number w b), and_all (is_present w b))

pub all_present : (w : Table) (xs : List ℕ) → presence_refusal w xs ≡ 0 → all (is_present w) xs ≡ true
unfolding presence_refusal
all_present w xs e =
    fitting (all (is_present w) xs) no_tab (omega arith)
    (passed (unless (all (is_number w) xs) off_the_table) (unless (all (is_present w) xs) no_tab) e).1

pub named_present : (w : Table) (xs : List ℕ) → presence_refusal w xs ≡ 0 → (x : ℕ) → Mem x xs → is_present w x ≡ true
named_present w xs e = all_mem (is_present w) xs (all_present w xs e)

pub one_present : (w : Table) (x : ℕ) → presence_refusal w (x ∷ []) ≡ 0 → is_present w x ≡ true
one_present w x e = named_present w (x ∷ []) e x (mem_head x [])

pub both_present :
    (w : Table) (a b : ℕ) → presence_refusal w (a ∷ b ∷ []) ≡ 0 → (is_present w a ≡ true) × (is_present w b ≡ true)
both_present w a b e = (
  named_present w (a ∷ b ∷ []) e a (mem_head a (b ∷ [])),
  named_present w (a ∷ b ∷ []) e b (mem_tail b a (b ∷ []) (mem_head b [])),
)

-- and the other way: every dart has a number of the table
pub present_fits : (w : Table) (xs : List ℕ) → all (is_present w) xs ≡ true → presence_refusal w xs ≡ 0
unfolding presence_refusal or_else unless is_present
present_fits w xs p =
    let n = mem_all (is_number w) xs (λ x m. and_left (is_number w x) _ (all_mem (is_present w) xs p x m)) in rw (n, p)

pub both_fit :
    (w : Table) (a b : ℕ) → is_present w a ≡ true → is_present w b ≡ true → presence_refusal w (a ∷ b ∷ []) ≡ 0
unfolding all
both_fit w a b p q = present_fits w (a ∷ b ∷ []) (rw (p, q))

-- WHAT A COMMAND LEAVES
pub accepted : {S : Type 0} (n r : ℕ) (v w u : S) → r ≡ n → r ≡ 0 → u ≡ v → u ≡ leaves n v w
unfolding leaves
accepted n r v w u e z q = rw (eq-eqb n 0 (sym e ∙ z)) q

pub refused : {S : Type 0} (n r : ℕ) (v w : S) → r ≡ n → (r ≡ 0 → ⊥) → w ≡ leaves n v w
unfolding leaves
refused n r v w e z = rw (ne_eqb n 0 (λ q. z (e ∙ q)))

-- a change made by one name of its refusal is made by another
pub made :
    {S : Type 0} (n m r : ℕ) (u v w : S) → m ≡ n → (r ≡ m) × (u ≡ leaves m v w) → (r ≡ n) × (u ≡ leaves n v w)
made n m r u v w e p = (p.0 ∙ e, p.1 ∙ ap (λ i. leaves i v w) e)

-- WHAT THE CHECK TRIES BY ITSELF on stages: their definitions, opened by one name, and these facts
unfoldable pub definitions : ⊤
unfolding or_else unless leaves
definitions = tt

pub ruleset stages = (alone, one_presence, two_presence)
