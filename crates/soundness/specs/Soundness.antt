-- What a caller's table and tape must pass before all else. Document 01, "Table" and refusals 1 and 2.
use Rattle.std.specs.Prelude.{Bool, ◌&&◌, List, ℕ, ◌*◌, ◌%◌, leb, eqb, length}
use Rattle.table.specs.Limits.{words_per_dart, max_capacity, max_tape}
use Rattle.table.specs.Refusals.{wrong_size, bent_table, or_else, unless}
use Rattle.table.specs.Layout.{Table, holds_hypermap}

-- "table words not a multiple of 4 or above 16,384" is 1
unfoldable pub size_fits : Table → Bool
size_fits w = eqb (length w % words_per_dart) 0 && leb (length w) (words_per_dart * max_capacity)

-- "each tab has four zeros (absent), or four numbers that name present tabs, with follower and predecessor inverse to
-- each other in both permutations"
unfoldable pub is_sound : Table → Bool
is_sound w = holds_hypermap w

unfoldable pub table_refusal : Table → ℕ
table_refusal w = or_else (unless (size_fits w) wrong_size) (unless (is_sound w) bent_table)

-- "tape above 65,536 bytes" is 1
unfoldable pub tape_refusal : (tape : List ℕ) → ℕ
tape_refusal bs = unless (leb (length bs) max_tape) wrong_size
