-- What a table that holds a hypermap says of its darts. A number is present, and then its successor and its predecessor
-- in each dimension are present and undo each other, or it has four zero words.
use Rattle.std.proofs.Common.{◌≡◌, ℕ, ◌<◌, ◌≤◌, true, false, ◌&&◌, ◌⊎◌, length, inl, inr, ⊎_elim, arith, ltb-true}
use Rattle.std.proofs.Common.{lt-ltb, eq-eqb, eqb-true, le-leb, leb-true}
use Rattle.lists.specs.Lists.{among}
use Rattle.lists.proofs.Bools.{by_cases, clash, bool_ext, or_cases, or_left, or_right, and_left, and_right, and_true}
use Rattle.lists.proofs.Lists.{all_mem, mem_all, keep_mem, mem_kept, keep_shorter, rising_keep}
use Rattle.hypermap.specs.Hypermap.{Dimension, edge, vertex, Hypermap, is_hypermap}
use Rattle.hypermap.proofs.Hypermaps.Totals.{hypermap_of as hypermap_from}
use Rattle.hypermap.proofs.Hypermaps.Totals as Totals
use Rattle.hypermap.proofs.Hypermaps.Alike.{Agrees}
use Rattle.table.specs.Layout.{Table, capacity, numbers, word_at, next_word, back_word, is_present, hypermap_of}
use Rattle.table.specs.Layout.{is_absent, words_linked, dart_fits, holds_hypermap}
use Rattle.table.specs.Laws.{HypermapLaw, Holds}
use Rattle.table.proofs.Numbers.{mem_numbers, numbers_mem, numbers_rising, numbers_length}

-- PRESENT
module _ (w : Table) (x : ℕ) where
  pub low : is_present w x ≡ true → 1 ≤ x
  unfolding is_present
  low p = leb-true 1 x (search (and_left, and_right))

  pub high : is_present w x ≡ true → x ≤ capacity w
  unfolding is_present
  high p = leb-true x (capacity w) (search (and_left, and_right))

  pub first_word : is_present w x ≡ true → 0 < word_at w x 0
  unfolding is_present
  first_word p = ltb-true 0 (word_at w x 0) (search (and_left, and_right))

  pub present_from : 1 ≤ x → x ≤ capacity w → 0 < word_at w x 0 → is_present w x ≡ true
  unfolding is_present
  present_from l h f = rw (le-leb 1 x l, le-leb x (capacity w) h) (lt-ltb 0 (word_at w x 0) f)

  pub mem_present : among x (hypermap_of w).darts ≡ is_present w x
  mem_present =
      bool_ext _ _ (λ m. (mem_kept (is_present w) (numbers w) x m).1)
      (λ p. keep_mem (is_present w) (numbers w) x (mem_numbers w x (low p) (high p)) p)

-- LINKED, OR EMPTY
pub record Links (w : Table) (k : Dimension) (x : ℕ) : Type 0 where
  pub next_present : is_present w (word_at w x (next_word k)) ≡ true
  pub back_present : is_present w (word_at w x (back_word k)) ≡ true
  pub back_next : word_at w (word_at w x (next_word k)) (back_word k) ≡ x
  pub next_back : word_at w (word_at w x (back_word k)) (next_word k) ≡ x

abbrev pub Empty : Table → ℕ → Type 0
Empty w x = (k : Dimension) → (word_at w x (next_word k) ≡ 0) × (word_at w x (back_word k) ≡ 0)

module _ (w : Table) (x : ℕ) where
  links_of : (k : Dimension) → words_linked w k x ≡ true → Links w k x
  unfolding words_linked
  links_of k t = record {
    next_present = search (and_left, and_right);
    back_present = search (and_left, and_right);
    back_next = eqb-true _ _ (search (and_left, and_right));
    next_back = eqb-true _ _ (search (and_left, and_right));
  }

  linked_from : (k : Dimension) → Links w k x → words_linked w k x ≡ true
  unfolding words_linked
  linked_from k l = rw (l.next_present, l.back_present, eq-eqb _ _ l.back_next) (eq-eqb _ _ l.next_back)

  empty_of : is_absent w x ≡ true → Empty w x
  unfolding is_absent
  empty_of t edge = (eqb-true _ _ (search (and_left, and_right)), eqb-true _ _ (search (and_left, and_right)))
  empty_of t vertex = (eqb-true _ _ (search (and_left, and_right)), eqb-true _ _ (search (and_left, and_right)))

  absent_from : Empty w x → is_absent w x ≡ true
  unfolding is_absent
  absent_from z = rw ((z edge).0, (z edge).1, (z vertex).0, (z vertex).1)

  fitting : holds_hypermap w ≡ true → 1 ≤ x → x ≤ capacity w → Empty w x ⊎ ((k : Dimension) → Links w k x)
  unfolding holds_hypermap dart_fits
  fitting s l h =
      ⊎_elim (λ t. inl (empty_of t)) (λ t. inr (both t))
      (or_cases (is_absent w x) _ (all_mem (dart_fits w) (numbers w) s x (mem_numbers w x l h)))
    where
      both : (words_linked w edge x && words_linked w vertex x) ≡ true → (k : Dimension) → Links w k x
      both t edge = links_of edge (and_left _ (words_linked w vertex x) t)
      both t vertex = links_of vertex (and_right (words_linked w edge x) _ t)

module _ (w : Table) (s : holds_hypermap w ≡ true) where
  pub links : (k : Dimension) (x : ℕ) → is_present w x ≡ true → Links w k x
  links k x p =
      ⊎_elim (λ z. absurd (omega (arith, (z edge).0, first_word w x p))) (λ l. l k)
      (fitting w x s (low w x p) (high w x p))

  pub empty : (x : ℕ) → 1 ≤ x → x ≤ capacity w → is_present w x ≡ false → Empty w x
  empty x l h n =
      ⊎_elim (λ z. z) (λ i. clash (present_from w x l h (low w _ (i edge).next_present)) n) (fitting w x s l h)

pub holds_from :
    (w : Table) → ((x : ℕ) → 1 ≤ x → x ≤ capacity w → Empty w x ⊎ ((k : Dimension) → Links w k x)) →
    holds_hypermap w ≡ true
unfolding holds_hypermap dart_fits
holds_from w f =
    mem_all (dart_fits w) (numbers w) (λ x m. let r = numbers_mem w x m in
    ⊎_elim (λ z. or_left _ _ (absent_from w x z))
    (λ l. or_right (is_absent w x) _ (and_true _ _ (linked_from w x edge (l edge)) (linked_from w x vertex (l vertex))))
    (f x r.0 r.1))

-- THE HYPERMAP: no more darts than numbers
pub darts_few : (w : Table) → length (hypermap_of w).darts ≤ capacity w
darts_few w = omega (arith, keep_shorter (is_present w) (numbers w), numbers_length w)

pub table_hypermap : (w : Table) → holds_hypermap w ≡ true → is_hypermap (hypermap_of w) ≡ true
table_hypermap w s =
    hypermap_from (hypermap_of w) (rising_keep (is_present w) (numbers w) (numbers_rising w)) (darts_few w)
    (λ k. record {
      keeps = λ x m. rw mem_present (links w s k x (rw mem_present at m)).back_present;
      keeps_back = λ x m. rw mem_present (links w s k x (rw mem_present at m)).next_present;
      undoes = λ x m. (links w s k x (rw mem_present at m)).back_next;
      undone = λ x m. (links w s k x (rw mem_present at m)).next_back;
    })

pub hypermap_law : HypermapLaw
hypermap_law w = (
  λ s. (table_hypermap w s, λ x l h n. absent_from w x (empty w s x l h n)),
  λ t. holds_from w (λ x l h. by_cases (is_present w x)
      (λ p. inr (λ k. let i = Totals.links (hypermap_of w) t.0 k in let m = rw (← mem_present w x) at p in record {
        next_present = rw mem_present at (i.keeps_back x m);
        back_present = rw mem_present at (i.keeps x m);
        back_next = i.undoes x m;
        next_back = i.undone x m;
      }))
      (λ n. inl (empty_of w x (t.1 x l h n)))),
)

-- A TABLE HOLDS what its own hypermap agrees with
pub holds_agrees : (w : Table) (m : Hypermap) → Holds w m → Agrees m (hypermap_of w)
holds_agrees w m h = record { darts = h.darts; next = h.next; back = h.back }

pub agrees_holds : (w : Table) (m : Hypermap) → Agrees m (hypermap_of w) → Holds w m
agrees_holds w m g = record { darts = g.darts; next = g.next; back = g.back }
