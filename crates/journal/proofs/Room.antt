-- The room of a journal: by its words and by the limit, and as one number.
use mathlib.Core.Path.{◌≡◌, sym, ◌∙◌}
use mathlib.Core.Bool.{true}
use Prim.Native.Nat.{ℕ, ◌*◌, ◌/◌, ◌≤◌, min}
use Rattle.std.proofs.Math.Nat.{min-le_left, min-le_right, le-min}
use native.Mathlib.Omega.{arith}
use lib.Dec.{leb}
use lib.ListN.{length}
use borrow.Author.Tests.{leb-true, le-leb}
use Rattle.lists.proofs.Bools.{bool_ext, and_left, and_right, and_true}
use Rattle.table.specs.Limits.{words_per_entry, max_entries}
use Rattle.journal.specs.Entries.{Journal}
use Rattle.journal.specs.Heads.{has_room}
use Rattle.journal.specs.Inner.{IsRoom}

module _ (j : Journal) where
  pub room_known : (n : ℕ) → has_room j n ≡ true → (words_per_entry * n ≤ length j) × (n ≤ max_entries)
  unfolding has_room
  room_known n t = (
    leb-true _ _ (and_left (leb (words_per_entry * n) (length j)) (leb n max_entries) t),
    leb-true _ _ (and_right (leb (words_per_entry * n) (length j)) (leb n max_entries) t),
  )

  pub room_from : (n : ℕ) → words_per_entry * n ≤ length j → n ≤ max_entries → has_room j n ≡ true
  unfolding has_room
  room_from n h g = and_true _ _ (le-leb _ _ h) (le-leb n max_entries g)

  is_room : (r : ℕ) → words_per_entry * r ≤ length j → r ≤ max_entries →
      ((n : ℕ) → words_per_entry * n ≤ length j → n ≤ max_entries → n ≤ r) → IsRoom j r
  is_room r h g most n =
      bool_ext _ _ (λ t. let k = room_known n t in le-leb n r (most n k.0 k.1))
      (λ t. let l = leb-true n r t in room_from n (omega arith) (omega arith))

  pub room_least : IsRoom j (min (length j / words_per_entry) max_entries)
  room_least =
      let n = length j / words_per_entry in
      let l = min-le_left n max_entries in
      let r = min-le_right n max_entries in
      is_room (min n max_entries) (omega arith) r (λ k h g. le-min (omega arith) g)

  module _ (r : ℕ) (known : IsRoom j r) where
    pub room_left : (n : ℕ) → has_room j n ≡ true → n ≤ r
    room_left n t = leb-true n r (sym (known n) ∙ t)
