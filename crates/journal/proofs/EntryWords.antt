-- Entries written and read again: the entry of a command is read back as that command, and a write changes the one
-- entry that it names.
use mathlib.Core.Path.{◌≡◌, refl, ◌∙◌}
use mathlib.Core.Bool.{true}
use mathlib.Core.List.{List, [], ◌∷◌}
use mathlib.Core.Logic.{◌≢◌}
use Prim.Native.Nat.{ℕ, suc, ◌+◌, ◌*◌, ◌/◌, ◌≤◌, ◌<◌}
use native.Mathlib.Omega.{arith}
use lib.ListN.{length, get_or, length-set}
use lib.Seq.{lt-length-set, get_or-set_same, get_or-set_other}
use Rattle.hypermap.specs.Hypermap.{edge, vertex}
use Rattle.table.specs.Limits.{words_per_entry}
use Rattle.table.specs.Commands.{Command, puts, takes_out, joins, cuts}
use Rattle.journal.specs.Entries.{Journal, Entry, entry_of, is_change, command_in, entry_at, with_entry, with_entries}

-- A COMMAND'S ENTRY
pub command_kept : (c : Command) → (is_change (entry_of c) ≡ true) × (command_in (entry_of c) ≡ c)
unfolding is_change command_in
command_kept (puts x) = (refl, refl)
command_kept (takes_out x) = (refl, refl)
command_kept (joins edge a b) = (refl, refl)
command_kept (joins vertex a b) = (refl, refl)
command_kept (cuts edge a b) = (refl, refl)
command_kept (cuts vertex a b) = (refl, refl)

-- ONE ENTRY WRITTEN
module _ (j : Journal) (i : ℕ) (e : Entry) where
  pub entry_length : length (with_entry j i e) ≡ length j
  unfolding with_entry
  entry_length = simp length-set

  pub entry_read_back : words_per_entry * i + words_per_entry ≤ length j → entry_at (with_entry j i e) i ≡ e
  unfolding with_entry entry_at
  entry_read_back h =
      let at = words_per_entry * i in
      let d₁ : at ≢ at + 1 = omega arith in
      let d₂ : at ≢ at + 2 = omega arith in
      let d₃ : at + 1 ≢ at + 2 = omega arith in
      let l₁ : at < length j = omega arith in
      let l₂ : at + 1 < length j = omega arith in
      let l₃ : at + 2 < length j = omega arith in
      simp (get_or-set_same, get_or-set_other, lt-length-set)

  other_word : (n : ℕ) → n / words_per_entry ≢ i → get_or (with_entry j i e) n 0 ≡ get_or j n 0
  unfolding with_entry
  other_word n d =
      let d₁ : n ≢ words_per_entry * i = omega arith in
      let d₂ : n ≢ words_per_entry * i + 1 = omega arith in
      let d₃ : n ≢ words_per_entry * i + 2 = omega arith in
      simp get_or-set_other

  pub other_entry : (k : ℕ) → k ≢ i → entry_at (with_entry j i e) k ≡ entry_at j k
  unfolding entry_at
  other_entry k d =
      rw (
        other_word (words_per_entry * k) (omega arith),
        other_word (words_per_entry * k + 1) (omega arith),
        other_word (words_per_entry * k + 2) (omega arith),
      )

pub entries_length : (cs : List Command) (j : Journal) (i : ℕ) → length (with_entries j i cs) ≡ length j
unfolding with_entries
entries_length [] j i = refl
entries_length (c ∷ cs) j i = entries_length cs (with_entry j i (entry_of c)) (suc i) ∙ entry_length j i (entry_of c)
