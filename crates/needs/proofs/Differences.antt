-- The words that a command changes: every accepted put, take-out, join and cut changes exactly four. Two tables differ
-- in as many words as any list of exactly those places has.
use mathlib.Core.Path.{◌≡◌, ap, sym, ◌∙◌}
use mathlib.Core.Logic.{◌↔◌}
use mathlib.Core.Bool.{Bool, true, false, not}
use mathlib.Core.List.{List, [], ◌∷◌}
use Prim.Native.Nat.{ℕ, ◌≤◌, ◌<◌}
use native.Mathlib.Omega.{arith}
use lib.Dec.{eqb, ltb}
use lib.ListN.{length, get_or, get_or-eq_default}
use lib.Seq.{get_or-set_other}
use borrow.Author.Tests.{eqb-false, ne_eqb, ltb-true, ltb-false, not-true}
use Rattle.lists.specs.Lists.{among, keep, distinct, up_from}
use Rattle.lists.proofs.Bools.{by_cases, clash}
use Rattle.lists.proofs.Lists.{Mem, mem_nil, mem_cases, not_among, keep_mem, mem_kept, rising_keep, rising_distinct}
use Rattle.lists.proofs.Lists.{pigeonhole}
use Rattle.lists.proofs.Ranges.{mem_up_from, up_from_rising}
use Rattle.hypermap.specs.Hypermap.{Dimension, of}
use Rattle.table.specs.Limits.{hypermap_words, words_per_change}
use Rattle.table.specs.Layout.{Table, capacity, place, word_at, next_word, back_word, is_present, holds_hypermap}
use Rattle.table.specs.Commands.{with_word, with_all, swapped, Command, puts, takes_out, joins, cuts, command_on}
use Rattle.table.specs.Commands.{command_refusal, is_together}
use Rattle.table.specs.Laws.{four_places, IsSwapped}
use Rattle.table.proofs.Holding.{low, high, mem_present, links, empty}
use Rattle.table.proofs.Writing.{each_word}
use Rattle.table.proofs.Accepting.{Free, put_passed, Alone, take_out_passed, Joined, join_passed, cut_passed}
use Rattle.table.proofs.Swaps.{swap_law}
use Rattle.table.proofs.Commands.{all_length, here}
use Rattle.table.proofs.Walking.{same_orbits}
use Rattle.needs.specs.Laws.{differing}

-- COUNTING: the places where two tables differ are as many as those of any list of exactly these places
module _ (v w : Table) (size : length w ≡ length v) where
  abbrev differs_at : ℕ → Bool
  differs_at i = not (eqb (get_or w i 0) (get_or v i 0))

  abbrev places : List ℕ
  places = up_from 0 (length v)

  -- past the end there is 0 in both
  within : (i : ℕ) → (get_or w i 0 ≡ get_or v i 0 → ⊥) → i < length v
  within i d =
      by_cases (ltb i (length v)) (λ t. ltb-true i (length v) t)
      (λ f. let l = ltb-false i (length v) f in
      absurd (d (get_or-eq_default w 0 (omega arith) ∙ sym (get_or-eq_default v 0 l))))

  module _
      (ps : List ℕ) (once : distinct ps ≡ true)
      (exact : (i : ℕ) → (get_or w i 0 ≡ get_or v i 0 → ⊥) ↔ (among i ps ≡ true)) where
    no_more : length (keep differs_at places) ≤ length ps
    no_more =
        pigeonhole (keep differs_at places) ps
        (rising_distinct (keep differs_at places) (rising_keep differs_at places (up_from_rising 0 (length v))))
        (λ i m. (exact i).0 (eqb-false _ _ (not-true _ (mem_kept differs_at places i m).1)))

    no_fewer : length ps ≤ length (keep differs_at places)
    no_fewer =
        pigeonhole ps (keep differs_at places) once
        (λ i m. let d = (exact i).1 m in
        keep_mem differs_at places i (mem_up_from (length v) 0 i (omega arith) (omega (arith, within i d)))
        (rw (ne_eqb (get_or w i 0) (get_or v i 0) d)))

    pub differing_is : differing v w ≡ length ps
    unfolding differing
    differing_is = omega (arith, no_more, no_fewer)

-- A SWAP of two darts
pub swap_words :
    (w : Table) (k : Dimension) (a b : ℕ) → IsSwapped w k a b → (a ≡ b → ⊥) →
    differing w (swapped k a b w) ≡ words_per_change
swap_words w k a b z d =
    let f = z.four_words d in differing_is w (swapped k a b w) z.size (four_places w k a b) f.four f.differ

-- ONE DART'S FOUR WORDS, which are all u, written with another number v
module _ (w : Table) (x u v : ℕ) (l : 1 ≤ x) (h : x ≤ capacity w) where
  abbrev own : List ℕ
  own = place x 0 ∷ place x 1 ∷ place x 2 ∷ place x 3 ∷ []

  own_distinct : distinct own ≡ true
  unfolding distinct among
  own_distinct =
      rw (
        ne_eqb (place x 0) (place x 1) (λ e. absurd (omega arith)),
        ne_eqb (place x 0) (place x 2) (λ e. absurd (omega arith)),
        ne_eqb (place x 0) (place x 3) (λ e. absurd (omega arith)),
        ne_eqb (place x 1) (place x 2) (λ e. absurd (omega arith)),
        ne_eqb (place x 1) (place x 3) (λ e. absurd (omega arith)),
        ne_eqb (place x 2) (place x 3) (λ e. absurd (omega arith)),
      )

  kept : (i : ℕ) → among i own ≡ false → get_or (with_all x v w) i 0 ≡ get_or w i 0
  unfolding with_all with_word
  kept i n =
      let n₁ = not_among i _ _ n in
      let n₂ = not_among i _ _ n₁.1 in
      let n₃ = not_among i _ _ n₂.1 in
      let d₀ = n₁.0 in
      let d₁ = n₂.0 in
      let d₂ = n₃.0 in
      let d₃ = (not_among i _ _ n₃.1).0 in
      simp get_or-set_other

  module _
      (same : (k : Dimension) → (word_at w x (next_word k) ≡ u) × (word_at w x (back_word k) ≡ u)) (d : u ≡ v → ⊥) where
    word_changed : (j : ℕ) → j < hypermap_words → get_or (with_all x v w) (place x j) 0 ≡ get_or w (place x j) 0 → ⊥
    unfolding word_at
    word_changed j g e = d (sym (each_word (λ j. word_at w x j ≡ u) same j g) ∙ sym e ∙ here w x v l h j g)

    changed : (i : ℕ) → Mem i own → get_or (with_all x v w) i 0 ≡ get_or w i 0 → ⊥
    changed i m e =
        mem_cases i _ _ m
        (λ c. word_changed 0 (omega arith) (rw c at e))
        (λ m₁. mem_cases i _ _ m₁
        (λ c. word_changed 1 (omega arith) (rw c at e))
        (λ m₂. mem_cases i _ _ m₂
        (λ c. word_changed 2 (omega arith) (rw c at e))
        (λ m₃. mem_cases i _ _ m₃
        (λ c. word_changed 3 (omega arith) (rw c at e))
        (λ m₄. mem_nil i m₄))))

    dart_words : differing w (with_all x v w) ≡ words_per_change
    dart_words =
        differing_is w (with_all x v w) (all_length w x v l h) own own_distinct
        (λ i. (
          λ f. by_cases (among i own) (λ m. m) (λ n. absurd (f (kept i n))),
          λ m. changed i m,
        ))

-- A COMMAND that is accepted
module _ (w : Table) (s : holds_hypermap w ≡ true) where
  put_words : (x : ℕ) → Free w x → differing w (with_all x x w) ≡ words_per_change
  put_words x f =
      let l = f.low in
      dart_words w x 0 x l f.high (empty w s x l f.high f.absent) (λ e. absurd (omega arith))

  take_out_words : (x : ℕ) → Alone w x → differing w (with_all x 0 w) ≡ words_per_change
  take_out_words x f =
      let p = f.present in
      dart_words w x x 0 (low w x p) (high w x p)
      (λ k. (f.home k, sym (ap (λ y. word_at w y (back_word k)) (f.home k)) ∙ (links w s k x p).back_next))
      (λ e. absurd (omega (arith, low w x p)))

  two_words :
      (k : Dimension) (a b : ℕ) → is_present w a ≡ true → is_present w b ≡ true → (a ≡ b → ⊥) →
      differing w (swapped k a b w) ≡ words_per_change
  two_words k a b p q d = swap_words w k a b (swap_law w s k a b p q) d

  -- a dart is together with itself
  join_differ : (k : Dimension) (a b : ℕ) → Joined w k a b → a ≡ b → ⊥
  unfolding is_together
  join_differ k a b j e =
      clash ((same_orbits w (of k) s).reflexive a (mem_present w a ∙ j.first)) (rw (← e) at j.apart)

pub command_words :
    (w : Table) (c : Command) → holds_hypermap w ≡ true → command_refusal w c ≡ 0 →
    differing w (command_on w c) ≡ words_per_change
command_words w (puts x) s e = put_words w s x (put_passed w x e)
command_words w (takes_out x) s e = take_out_words w s x (take_out_passed w x e)
command_words w (joins k a b) s e =
    let j = join_passed w k a b e in two_words w s k a b j.first j.second (join_differ w s k a b j)
command_words w (cuts k a b) s e =
    let c = cut_passed w k a b e in two_words w s k a b c.first c.second c.differ
