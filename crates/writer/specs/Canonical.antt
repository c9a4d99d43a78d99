-- The canonical tape of a table. Document 01: "The writer puts the tabs in rising order; then for each tie of two or
-- more tabs, by rising smallest tab m, tie joins (m, t) with t each further tab in following order; then cells
-- likewise."
use Rattle.std.specs.Prelude.{List, [], ◌∷◌, ◌++◌, map, ℕ, drop}
use Rattle.hypermap.specs.Hypermap.{Dimension, edge, vertex, Hypermap, of, orbit_of, least_darts}
use Rattle.table.specs.Layout.{Table, hypermap_of}
use Rattle.table.specs.Commands.{Command, puts, joins}
use Rattle.tape.specs.Tapes.{tape_bytes}

-- x with each further dart of its orbit; an orbit of one dart has none
unfoldable pub orbit_joins : Hypermap → Dimension → (x : ℕ) → List Command
orbit_joins m k x = map (joins k x) (drop 1 (orbit_of m (of k) x))

unfoldable pub joins_over : Hypermap → Dimension → (least : List ℕ) → List Command
joins_over m k [] = []
joins_over m k (x ∷ xs) = orbit_joins m k x ++ joins_over m k xs

abbrev pub joins_of : Hypermap → Dimension → List Command
joins_of m k = joins_over m k (least_darts m (orbit_of m (of k)))

unfoldable pub puts_of : Hypermap → List Command
puts_of m = map puts m.darts

abbrev pub commands_of : Table → List Command
commands_of w = puts_of (hypermap_of w) ++ joins_of (hypermap_of w) edge ++ joins_of (hypermap_of w) vertex

unfoldable pub tape_of : Table → List ℕ
tape_of w = tape_bytes (commands_of w)
