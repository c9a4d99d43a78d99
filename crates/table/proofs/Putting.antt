-- A put adds a dart, and a take-out removes one: the words of one number are written, and every other dart keeps its
-- own.
use Rattle.std.proofs.Common.{◌≡◌, ℕ, ◌≤◌, false, eqb, sym, ap, ◌∙◌, arith, eqb-true}
use borrow.Author.Tests.{eqb-false}
use Rattle.lists.proofs.Bools.{by_cases, clash, refuted}
use Rattle.hypermap.specs.Hypermap.{Dimension, is_dart}
use Rattle.table.specs.Layout.{Table, capacity, word_at, next_word, back_word, is_present, hypermap_of}
use Rattle.table.specs.Commands.{with_all}
use Rattle.table.specs.Laws.{PutLaw, TakeOutLaw}
use Rattle.table.proofs.Holding.{low, high, first_word, present_from, mem_present, links}
use Rattle.table.proofs.Writing.{next_small, back_small}
use Rattle.table.proofs.Accepting.{put_passed, take_out_passed}
use Rattle.table.proofs.Commands.{all_length, here, elsewhere, present_elsewhere}

-- A NUMBER WRITTEN, with all its words the same
module _ (w : Table) (x v : ℕ) (l : 1 ≤ x) (h : x ≤ capacity w) where
  -- all other numbers are present as before
  other_dart : (y : ℕ) → eqb y x ≡ false → is_dart (hypermap_of (with_all x v w)) y ≡ is_dart (hypermap_of w) y
  other_dart y n =
      mem_present (with_all x v w) y ∙ present_elsewhere w x v l h y (eqb-false y x n) ∙ sym (mem_present w y)

  other_words :
      (k : Dimension) (y : ℕ) → 1 ≤ y → (y ≡ x → ⊥) →
      (word_at (with_all x v w) y (next_word k) ≡ word_at w y (next_word k)) ×
      (word_at (with_all x v w) y (back_word k) ≡ word_at w y (back_word k))
  other_words k y g d =
      (elsewhere w x v l h (next_word k) (next_small k) y g d, elsewhere w x v l h (back_word k) (back_small k) y g d)

pub put_law : PutLaw
put_law w s x e =
    let f = put_passed w x e in
    let l = f.low in
    let h = f.high in
    let v = with_all x x w in
    let word = here w x x l h in
    let p = present_from v x l (rw (all_length w x x l h) h) (rw (word 0 (omega arith)) l) in
    record {
      new = mem_present w x ∙ f.absent;
      darts = λ y. by_cases (eqb y x)
          (λ t. rw t (rw (eqb-true y x t) (mem_present v x ∙ p)))
          (λ n. rw n (other_dart w x x l h y n));
      alone = λ k. (word (next_word k) (next_small k), word (back_word k) (back_small k));
      others = λ k y d.
          let i = sym (mem_present w y) ∙ d in
          other_words w x x l h k y (low w y i) (λ q. clash i (rw q f.absent));
    }

pub take_out_law : TakeOutLaw
take_out_law w s x e =
    let f = take_out_passed w x e in
    let l = low w x f.present in
    let h = high w x f.present in
    let v = with_all x 0 w in
    let n = refuted (is_present v x)
    (λ p. omega (arith, first_word v x p, here w x 0 l h 0 (omega arith))) in
    record {
      new = mem_present v x ∙ n;
      darts = λ y. by_cases (eqb y x)
          (λ t. rw t (rw (eqb-true y x t) (mem_present w x ∙ f.present)))
          (λ m. rw m (sym (other_dart w x 0 l h y m)));
      alone = λ k. (
        f.home k,
        ap (λ z. word_at w z (back_word k)) (sym (f.home k)) ∙ (links w s k x f.present).back_next,
      );
      others = λ k y d.
          let i = sym (mem_present v y) ∙ d in
          let o = other_words w x 0 l h k y (low v y i) (λ q. clash i (rw q n)) in
          (sym o.0, sym o.1);
    }
