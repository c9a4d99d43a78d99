-- Commands written in one pass over the numbers: at each that passes a test, the bytes that belong to it.
use mathlib.Core.Path.{◌≡◌, refl, sym, ap, ◌∙◌}
use mathlib.Core.Bool.{Bool, true, false, ◌&&◌, cond}
use mathlib.Core.List.{List, [], ◌∷◌, ◌++◌, map}
use Prim.Native.Nat.{ℕ, ◌+◌, ◌-◌, ◌≤◌, ◌<◌}
use native.Mathlib.Omega.{arith}
use lib.Dec.{eqb}
use borrow.Author.Tests.{ne_eqb}
use Rattle.lists.specs.Lists.{keep, up_from}
use Rattle.lists.proofs.Bools.{by_cases, refuted, and_left}
use Rattle.lists.proofs.Keeping.{keep_both, left, left_first, left_next, left_none}
use Rattle.lists.proofs.Ranges.{map_up_from}
use Rattle.hypermap.specs.Hypermap.{Dimension, Hypermap, of, orbit_of, is_least_in}
use Rattle.table.specs.Layout.{Table, capacity, is_present, hypermap_of}
use Rattle.table.specs.Commands.{puts}
use Rattle.table.proofs.Holding.{first_word, present_from}
use Rattle.parts.specs.Marks.{mark_of, marks_of, orbit_marks}
use Rattle.parts.specs.Marking.{mark_at}
use Rattle.parts.proofs.LeastMarks.{marks_length}
use Rattle.tape.specs.Tapes.{bytes_of, tape_bytes}
use Rattle.writer.specs.Canonical.{orbit_joins, joins_over, puts_of, joins_of}
use Rattle.writer.specs.Inner.{HasRoom, Lays}
use Rattle.writer.proofs.Sizes.{tape_append}
use Rattle.writer.proofs.Laying.{Laying, laying_none, laying_then, laying_all, room_first}

-- the bytes of each number, one after another
unfoldable pub bytes_over : (f : ℕ → List ℕ) → List ℕ → List ℕ
bytes_over f [] = []
bytes_over f (x ∷ xs) = f x ++ bytes_over f xs

-- of the numbers that are left of those from 1 to n at x
abbrev bytes_after : (n : ℕ) → (p : ℕ → Bool) → (f : ℕ → List ℕ) → (x : ℕ) → List ℕ
bytes_after n p f x = bytes_over f (left n p x)

-- THE PASS stands at x
pub record Passing
    (n : ℕ) (p : ℕ → Bool) (f : ℕ → List ℕ) (from : ℕ) (o q : List ℕ) (at x : ℕ) : Type 0 where
  pub low : 1 ≤ x
  pub high : x ≤ n + 1
  pub laying : Laying from (bytes_over f (keep p (up_from 1 n))) (bytes_after n p f x) o q at

module _ (n : ℕ) (p : ℕ → Bool) (f : ℕ → List ℕ) (from : ℕ) (o : List ℕ) where
  pub passing_none : HasRoom from (bytes_over f (keep p (up_from 1 n))) o → Passing n p f from o o from 1
  passing_none h =
      record { low = omega arith; high = omega arith; laying = rw (left_first n p) (laying_none h) }

  module _ (q : List ℕ) (at x : ℕ) (g : Passing n p f from o q at x) where
    next :
        x ≤ n → bytes_after n p f x ≡ cond (p x) (f x ++ bytes_after n p f (x + 1)) (bytes_after n p f (x + 1))
    unfolding bytes_over
    next h = rw (left_next n p x h) (by_cases (p x) (λ t. rw t) (λ t. rw t))

    here :
        x ≤ n → p x ≡ true →
        Laying from (bytes_over f (keep p (up_from 1 n))) (f x ++ bytes_after n p f (x + 1)) o q at
    here h t = rw (next h, t) at g.laying

    pub passing_room : x ≤ n → p x ≡ true → HasRoom at (f x) q
    passing_room h t = room_first (f x) (bytes_after n p f (x + 1)) (here h t).room

    pub passing_yes :
        (r : List ℕ) (m : ℕ) → x ≤ n → p x ≡ true → Lays at (f x) q r m → Passing n p f from o r m (x + 1)
    passing_yes r m h t l =
        record { low = omega arith; high = omega arith; laying = laying_then (here h t) l }

    pub passing_no : x ≤ n → p x ≡ false → Passing n p f from o q at (x + 1)
    passing_no h t = record { low = omega arith; high = omega arith; laying = rw (next h, t) at g.laying }

    pub passing_all : n < x → Lays from (bytes_over f (keep p (up_from 1 n))) o q at
    unfolding bytes_over
    passing_all h = laying_all (rw (left_none n p x h) at g.laying)

-- COMMANDS of a whole table
puts_bytes : (xs : List ℕ) → tape_bytes (map puts xs) ≡ bytes_over (λ x. bytes_of (puts x)) xs
unfolding tape_bytes bytes_over
puts_bytes [] = refl
puts_bytes (x ∷ xs) = rw (puts_bytes xs)

joins_bytes :
    (m : Hypermap) (k : Dimension) (xs : List ℕ) →
    tape_bytes (joins_over m k xs) ≡ bytes_over (λ x. tape_bytes (orbit_joins m k x)) xs
unfolding tape_bytes bytes_over joins_over
joins_bytes m k [] = refl
joins_bytes m k (x ∷ xs) =
    tape_append (orbit_joins m k x) (joins_over m k xs) ∙
    ap (λ t. tape_bytes (orbit_joins m k x) ++ t) (joins_bytes m k xs)

module _ (w : Table) where
  pub all_puts :
      tape_bytes (puts_of (hypermap_of w)) ≡
      bytes_over (λ x. bytes_of (puts x)) (keep (is_present w) (up_from 1 (capacity w)))
  unfolding puts_of
  all_puts = puts_bytes (hypermap_of w).darts

  -- the first darts of orbits
  abbrev pub is_first : Dimension → ℕ → Bool
  is_first k x = is_present w x && is_least_in (orbit_of (hypermap_of w) (of k)) x

  pub all_joins :
      (k : Dimension) → tape_bytes (joins_of (hypermap_of w) k) ≡
      bytes_over (λ x. tape_bytes (orbit_joins (hypermap_of w) k x)) (keep (is_first k) (up_from 1 (capacity w)))
  all_joins k =
      joins_bytes (hypermap_of w) k _ ∙
      ap (bytes_over _) (keep_both (is_present w) (is_least_in (orbit_of (hypermap_of w) (of k)))
      (up_from 1 (capacity w)))

  -- a number that is marked with itself is the first dart of an orbit
  pub first_test :
      (k : Dimension) (x r : ℕ) (m : List ℕ) → 1 ≤ x → x ≤ capacity w → m ≡ orbit_marks w (of k) → r ≡ mark_at m x →
      is_first k x ≡ eqb r x
  unfolding marks_of mark_of
  first_test k x r m l h u v =
      let part = orbit_of (hypermap_of w) (of k) in
      let e : 1 + (x - 1) ≡ x = omega arith in
      let g = map_up_from (mark_of w part) 1 (capacity w) (x - 1) (omega arith) ∙ ap (mark_of w part) e in
      rw (v, u, g) (by_cases (is_present w x) (λ t. rw t) (λ t. rw t (sym (ne_eqb 0 x (omega arith)))))

-- WHAT THE CHECK TRIES BY ITSELF on a pass
pub ruleset passing = (
  refuted,
  and_left,
  first_word,
  present_from,
  marks_length,
  passing_none,
  passing_room,
  passing_yes,
  passing_no,
  passing_all,
  all_puts,
  all_joins,
  first_test,
)
