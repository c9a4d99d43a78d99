-- The peak of a tape: a beginning reaches it that reaches the peak of the rest, or the beginning of no command. And an
-- accepted put adds one dart to the table, a take-out removes one, and all else keeps the darts.
use mathlib.Core.Path.{◌≡◌, refl, ap, sym, ◌∙◌}
use mathlib.Core.Bool.{true, false}
use mathlib.Core.List.{List, [], ◌∷◌}
use Prim.Native.Nat.{ℕ, zero, suc, ◌+◌, ◌-◌, ◌≤◌}
use native.Mathlib.Omega.{arith}
use lib.Dec.{leb, eqb}
use lib.ListN.{length, replicate, take}
use borrow.Author.Tests.{eqb-true, eqb-false, leb-true, leb-false}
use Rattle.lists.specs.Lists.{distinct}
use Rattle.lists.proofs.Bools.{by_cases, clash, refuted}
use Rattle.lists.proofs.Lists.{mem_head, mem_tail, mem_cases, distinct_cons, rising_keep, rising_distinct, pigeonhole}
use Rattle.lists.proofs.Sums.{kept_none}
use Rattle.hypermap.specs.Hypermap.{Dimension}
use Rattle.hypermap.proofs.Laws.Jordan.{break_darts}
use Rattle.table.specs.Layout.{Table, numbers, is_present, holds_hypermap, hypermap_of}
use Rattle.table.specs.Commands.{with_all, swapped, puts, takes_out, joins, cuts}
use Rattle.table.specs.Runs.{AllAccepted}
use Rattle.table.proofs.Numbers.{numbers_rising}
use Rattle.table.proofs.Zeros.{zeros_none}
use Rattle.table.proofs.Holding.{low, high, first_word, present_from, mem_present}
use Rattle.table.proofs.Accepting.{put_passed, take_out_passed, join_passed, cut_passed}
use Rattle.table.proofs.Swaps.{swap_law}
use Rattle.table.proofs.Commands.{all_length, here, present_elsewhere}
use Rattle.rings.specs.Rings.{links_of}
use Rattle.rings.proofs.Parting.{accepted_cut}
use Rattle.tape.specs.Steps.{TapeCommand, changes, reports, cuts_ring, step_refusal, step_on, step_rule}
use Rattle.tape.proofs.Running.{step_holds}
use Rattle.needs.specs.Amounts.{larger, puts_by, take_outs_by, peak_of, total}
use Rattle.needs.specs.Laws.{IsPeak, PeakLaw, darts_in, most_darts, MostDartsLaw}
use Rattle.needs.proofs.Greatest.{larger_is}

-- BEGINNINGS: those that reach the peak of the rest go on to reach that of all, but where a take-out leaves none above
-- 0, that of no command does
module _ (c : TapeCommand) (cs : List TapeCommand) (p : ℕ) (i : IsPeak cs p) where
  bound : (k : ℕ) →
      total puts_by (take k (c ∷ cs)) ≤ total take_outs_by (take k (c ∷ cs)) + (puts_by c + p - take_outs_by c)
  unfolding total
  bound zero = omega arith
  bound (suc k) = omega (arith, i.bound k)

  first_peak : IsPeak (c ∷ cs) (puts_by c + p - take_outs_by c)
  unfolding total
  first_peak =
      by_cases (leb (take_outs_by c) (puts_by c + p))
      (λ t.
      let l = leb-true (take_outs_by c) (puts_by c + p) t in
      record { bound = bound; beginning = suc i.beginning; reached = omega (arith, i.reached) })
      (λ f.
      let l = leb-false (take_outs_by c) (puts_by c + p) f in
      record { bound = bound; beginning = 0; reached = omega arith })

pub peak_law : PeakLaw
unfolding peak_of total
peak_law [] = record {
  bound = elim [ zero ↦ omega arith | suc k ↦ omega arith ];
  beginning = 0;
  reached = refl;
}
peak_law (c ∷ cs) = first_peak c cs (peak_of cs) (peak_law cs)

-- DARTS
darts_distinct : (w : Table) → distinct (hypermap_of w).darts ≡ true
darts_distinct w = rising_distinct _ (rising_keep (is_present w) (numbers w) (numbers_rising w))

pub no_darts : (n : ℕ) → darts_in (replicate n 0) ≡ 0
no_darts n = kept_none (is_present (replicate n 0)) (numbers (replicate n 0)) (λ x m. zeros_none n x)

-- x is present in w and not in v, and they have all other darts in common
module _
    (v w : Table) (x : ℕ) (absent : is_present v x ≡ false) (present : is_present w x ≡ true)
    (same : (y : ℕ) → (y ≡ x → ⊥) → is_present w y ≡ is_present v y) where
  no_fewer : suc (darts_in v) ≤ darts_in w
  no_fewer =
      pigeonhole (x ∷ (hypermap_of v).darts) (hypermap_of w).darts
      (distinct_cons x (hypermap_of v).darts (mem_present v x ∙ absent) (darts_distinct v))
      (λ y m. mem_present w y ∙ mem_cases y x (hypermap_of v).darts m (λ e. rw e present)
      (λ k. let p : is_present v y ≡ true = sym (mem_present v y) ∙ k in
      same y (λ e. clash p (ap (is_present v) e ∙ absent)) ∙ p))

  no_more : darts_in w ≤ suc (darts_in v)
  no_more =
      pigeonhole (hypermap_of w).darts (x ∷ (hypermap_of v).darts) (darts_distinct w)
      (λ y m. by_cases (eqb y x)
      (λ t. rw (eqb-true y x t) (mem_head x (hypermap_of v).darts))
      (λ f. mem_tail y x (hypermap_of v).darts
      (mem_present v y ∙ sym (same y (eqb-false y x f)) ∙ sym (mem_present w y) ∙ m)))

  one_more : darts_in w ≡ suc (darts_in v)
  one_more = let l = no_fewer in let h = no_more in omega arith

-- THE DARTS AFTER A COMMAND
put_darts :
    (w : Table) (x : ℕ) → step_refusal w (changes (puts x)) ≡ 0 → darts_in (with_all x x w) ≡ suc (darts_in w)
put_darts w x e =
    let f = put_passed w x e in
    let l = f.low in
    let h = f.high in
    one_more w (with_all x x w) x f.absent
    (present_from (with_all x x w) x l (rw (all_length w x x l h) h) (rw (here w x x l h 0 (omega arith)) l))
    (present_elsewhere w x x l h)

take_out_darts :
    (w : Table) (x : ℕ) → step_refusal w (changes (takes_out x)) ≡ 0 → darts_in w ≡ suc (darts_in (with_all x 0 w))
take_out_darts w x e =
    let p = (take_out_passed w x e).present in
    let l = low w x p in
    let h = high w x p in
    one_more (with_all x 0 w) w x
    (refuted (is_present (with_all x 0 w) x) (λ t.
    omega (arith, first_word (with_all x 0 w) x t, here w x 0 l h 0 (omega arith))))
    p (λ y d. sym (present_elsewhere w x 0 l h y d))

swap_darts :
    (w : Table) → holds_hypermap w ≡ true → (k : Dimension) (a b : ℕ) → is_present w a ≡ true → is_present w b ≡ true →
    darts_in (swapped k a b w) ≡ darts_in w
swap_darts w s k a b p q = ap length (swap_law w s k a b p q).holds.darts

ring_darts :
    (w : Table) (ws : List ℕ) → holds_hypermap w ≡ true → step_refusal w (cuts_ring ws) ≡ 0 →
    darts_in (step_on w (cuts_ring ws)) ≡ darts_in w
ring_darts w ws s e = ap length ((accepted_cut w ws s e).holds.darts ∙ break_darts (links_of ws) (hypermap_of w))

-- the most that the rest reaches, as the first command raises it
step :
    (w : Table) (c : TapeCommand) (p : ℕ) → holds_hypermap w ≡ true → step_refusal w c ≡ 0 →
    larger (darts_in w) (darts_in (step_on w c) + p) ≡ darts_in w + (puts_by c + p - take_outs_by c)
step w (changes (puts x)) p s e =
    omega (arith, larger_is (darts_in w) (darts_in (with_all x x w) + p), put_darts w x e)
step w (changes (takes_out x)) p s e =
    omega (arith, larger_is (darts_in w) (darts_in (with_all x 0 w) + p), take_out_darts w x e)
step w (changes (joins k a b)) p s e =
    let j = join_passed w k a b e in
    omega (arith, larger_is (darts_in w) (darts_in (swapped k a b w) + p), swap_darts w s k a b j.first j.second)
step w (changes (cuts k a b)) p s e =
    let j = cut_passed w k a b e in
    omega (arith, larger_is (darts_in w) (darts_in (swapped k a b w) + p), swap_darts w s k a b j.first j.second)
step w reports p s e = omega (arith, larger_is (darts_in w) (darts_in w + p))
step w (cuts_ring ws) p s e =
    omega (arith, larger_is (darts_in w) (darts_in (step_on w (cuts_ring ws)) + p), ring_darts w ws s e)

most :
    (cs : List TapeCommand) (w : Table) → holds_hypermap w ≡ true → AllAccepted step_rule w cs →
    most_darts w cs ≡ darts_in w + peak_of cs
unfolding most_darts peak_of
most [] w s a = omega arith
most (c ∷ cs) w s a =
    ap (larger (darts_in w)) (most cs (step_on w c) (step_holds w c s a.0).0 a.1) ∙
    step w c (peak_of cs) s a.0

pub most_darts_law : MostDartsLaw
most_darts_law w cs = most cs w
