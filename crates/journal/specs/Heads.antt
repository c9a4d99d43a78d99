-- The head of a journal: how many entries are used, and sixteen checkpoints, which document 02, Job 5, calls marks.
use Rattle.std.specs.Prelude.{Bool, ◌&&◌, ◌||◌, not, cond, map, ℕ, ◌+◌, ◌*◌, leb, ltb, eqb, length, get_or, set}
use Rattle.lists.specs.Lists.{all}
use Rattle.table.specs.Limits.{words_per_entry, max_entries, unset, checkpoint_count}
use Rattle.table.specs.Refusals.{undo_unfit, journal_full, no_mark, unless}
use Rattle.journal.specs.Entries.{Journal}
use Rattle.journal.specs.declared.Head.{Head}

-- ROOM for n entries in all: in the lent words, and within the limit
unfoldable pub has_room : Journal → (n : ℕ) → Bool
has_room j n = leb (words_per_entry * n) (length j) && leb n max_entries

-- 18: no room for n entries after the used ones
unfoldable pub room_refusal : Journal → (used n : ℕ) → ℕ
room_refusal j k n = unless (has_room j (k + n)) journal_full

-- 17: "a length past the lent words or that limit or a set mark past the length"
unfoldable pub checkpoint_fits : (length checkpoint : ℕ) → Bool
checkpoint_fits n c = eqb c unset || leb c n

unfoldable pub head_fits : Journal → Head → Bool
head_fits j h = has_room j h.length && all (checkpoint_fits h.length) h.checkpoints

unfoldable pub head_refusal : Journal → Head → ℕ
head_refusal j h = unless (head_fits j h) undo_unfit

-- CHECKPOINTS, by their numbers
unfoldable pub checkpoint_of : Head → (c : ℕ) → ℕ
checkpoint_of h c = get_or h.checkpoints c unset

abbrev pub with_length : (n : ℕ) → Head → Head
with_length n h = record { checkpoints = h.checkpoints; length = n }

-- "Setting a mark again moves it"
abbrev pub with_checkpoint : (c : ℕ) → Head → Head
with_checkpoint c h = record { checkpoints = set h.checkpoints c h.length; length = h.length }

-- "drops marks past the new length"
abbrev pub kept_to : (length checkpoint : ℕ) → ℕ
kept_to n c = cond (ltb n c) unset c

abbrev pub cut_back : (n : ℕ) → Head → Head
cut_back n h = record { checkpoints = map (kept_to n) h.checkpoints; length = n }

-- 19: "mark above 15 or, on going back, unset"
unfoldable pub set_refusal : (c : ℕ) → ℕ
set_refusal c = unless (ltb c checkpoint_count) no_mark

unfoldable pub back_refusal : Head → (c : ℕ) → ℕ
back_refusal h c = unless (ltb c checkpoint_count && not (eqb (checkpoint_of h c) unset)) no_mark
