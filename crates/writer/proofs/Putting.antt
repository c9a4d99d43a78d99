-- The puts of a canonical tape, on a table of zeros: each is accepted, and they leave a table with the darts of the
-- tape's table, each alone.
use mathlib.Core.Path.{◌≡◌, refl, sym, ◌∙◌}
use mathlib.Core.Bool.{true, false, ◌||◌}
use mathlib.Core.List.{List, [], ◌∷◌, map}
use Prim.Native.Nat.{ℕ, ◌≤◌}
use native.Mathlib.Omega.{arith}
use lib.Dec.{eqb}
use lib.ListN.{length, replicate, length-replicate}
use borrow.Author.Tests.{eqb-true, eqb-false}
use Rattle.lists.specs.Lists.{among, distinct}
use Rattle.lists.proofs.Bools.{by_cases, clash, refuted, or_false, or_right}
use Rattle.lists.proofs.Lists.{Mem, mem_head, mem_tail, distinct_head, distinct_tail, keep_ext, rising_keep}
use Rattle.lists.proofs.Lists.{rising_distinct}
use Rattle.hypermap.specs.Hypermap.{Dimension}
use Rattle.table.specs.Layout.{Table, capacity, numbers, word_at, next_word, is_present, holds_hypermap, hypermap_of}
use Rattle.table.specs.Commands.{with_all, puts, command_refusal}
use Rattle.table.specs.Runs.{after_all, AllAccepted}
use Rattle.table.proofs.Numbers.{numbers_rising}
use Rattle.table.proofs.Holding.{low, high, present_from, mem_present}
use Rattle.table.proofs.Writing.{next_small}
use Rattle.table.proofs.Zeros.{zeros_hold, zeros_none}
use Rattle.table.proofs.Accepting.{put_fits}
use Rattle.table.proofs.Commands.{all_length, here, elsewhere, keeps_hypermap_law, present_elsewhere}
use Rattle.tape.specs.Steps.{changes, step_rule}
use Rattle.writer.specs.Canonical.{puts_of}

-- ONE PUT
module _ (v : Table) (x : ℕ) (l : 1 ≤ x) (h : x ≤ capacity v) where
  put_present : (y : ℕ) → is_present (with_all x x v) y ≡ (eqb y x || is_present v y)
  put_present y =
      let z = all_length v x x l h in
      by_cases (eqb y x)
      (λ t. let e = eqb-true y x t in rw (t, e)
      (present_from (with_all x x v) x l (rw z h) (rw (here v x x l h 0 (omega arith)) l)))
      (λ t. rw t (present_elsewhere v x x l h y (eqb-false y x t)))

-- PUTS of the darts of w, that have left v, with some of them yet to come
record Puts (w v : Table) (left : List ℕ) : Type 0 where
  size : length v ≡ length w
  hypermap : holds_hypermap v ≡ true
  once : distinct left ≡ true
  either : (y : ℕ) → is_present w y ≡ (is_present v y || among y left)
  apart : (y : ℕ) → Mem y left → is_present v y ≡ false
  alone : (k : Dimension) (y : ℕ) → is_present v y ≡ true → word_at v y (next_word k) ≡ y

module _ (w v : Table) (x : ℕ) (xs : List ℕ) (p : Puts w v (x ∷ xs)) where
  dart_of : is_present w x ≡ true
  dart_of = p.either x ∙ or_right (is_present v x) _ (mem_head x xs)

  dart_low : 1 ≤ x
  dart_low = low w x dart_of

  dart_high : x ≤ capacity v
  dart_high = rw p.size (high w x dart_of)

  dart_accepted : command_refusal v (puts x) ≡ 0
  dart_accepted = put_fits v x (record { low = dart_low; high = dart_high; absent = p.apart x (mem_head x xs) })

  dart_put : Puts w (with_all x x v) xs
  unfolding among
  dart_put =
      let s = keeps_hypermap_law v p.hypermap (puts x) dart_accepted in
      record {
        size = s.1 ∙ p.size;
        hypermap = s.0;
        once = distinct_tail x xs p.once;
        either = λ y. p.either y ∙ rw (put_present v x dart_low dart_high y)
            (by_cases (eqb y x) (λ t. rw t (or_right (is_present v y) true refl)) (λ t. rw t));
        apart = λ y m. rw (put_present v x dart_low dart_high y, p.apart y (mem_tail y x xs m))
            (or_false _ ∙ refuted _ (λ t. clash (rw (eqb-true y x t) at m) (distinct_head x xs p.once)));
        alone = λ k y q. by_cases (eqb y x)
            (λ t. rw (eqb-true y x t) (here v x x dart_low dart_high (next_word k) (next_small k)))
            (λ t. let r : is_present v y ≡ true = rw (put_present v x dart_low dart_high y, t) at q in
            elsewhere v x x dart_low dart_high (next_word k) (next_small k) y (low v y r) (eqb-false y x t) ∙
            p.alone k y r);
      }

putting :
    (w : Table) (xs : List ℕ) (v : Table) → Puts w v xs →
    AllAccepted step_rule v (map changes (map puts xs)) × Puts w (after_all step_rule v (map changes (map puts xs))) []
putting w [] v p = (tt, p)
putting w (x ∷ xs) v p =
    let r = putting w xs (with_all x x v) (dart_put w v x xs p) in ((dart_accepted w v x xs p, r.0), r.1)

-- ALL PUTS
pub record PutAll (w v : Table) : Type 0 where
  pub size : length v ≡ length w
  pub hypermap : holds_hypermap v ≡ true
  pub darts : (hypermap_of v).darts ≡ (hypermap_of w).darts
  pub alone : (k : Dimension) (x : ℕ) → is_present w x ≡ true → word_at v x (next_word k) ≡ x

all_put : (w v : Table) → Puts w v [] → PutAll w v
unfolding among
all_put w v p =
    let same : (y : ℕ) → is_present v y ≡ is_present w y = λ y. sym (p.either y ∙ or_false _) in
    record {
      size = p.size;
      hypermap = p.hypermap;
      darts = rw p.size (keep_ext (is_present v) (is_present w) (numbers w) (λ y m. same y));
      alone = λ k x q. p.alone k x (same x ∙ q);
    }

zeros_puts : (w : Table) → Puts w (replicate (length w) 0) (hypermap_of w).darts
zeros_puts w =
    let none = zeros_none (length w) in
    record {
      size = length-replicate (length w) 0;
      hypermap = zeros_hold (length w);
      once = rising_distinct _ (rising_keep (is_present w) (numbers w) (numbers_rising w));
      either = λ y. sym (rw (none y) (mem_present w y));
      apart = λ y m. none y;
      alone = λ k y p. clash p (none y);
    }

pub put_all :
    (w : Table) →
    AllAccepted step_rule (replicate (length w) 0) (map changes (puts_of (hypermap_of w))) ×
    PutAll w (after_all step_rule (replicate (length w) 0) (map changes (puts_of (hypermap_of w))))
unfolding puts_of
put_all w = let r = putting w (hypermap_of w).darts _ (zeros_puts w) in (r.0, all_put w _ r.1)
