-- A ring of records as a list of words.
use Rattle.std.specs.Prelude.{cond, List, [], ◌∷◌, ℕ, ltb}
use Rattle.table.specs.Limits.{max_double_links}
use Rattle.records.specs.declared.DoubleLink.{DoubleLink}

-- the two darts of each double-link in turn
unfoldable pub words_of : List DoubleLink → List ℕ
words_of [] = []
words_of (l ∷ ls) = l.first ∷ l.second ∷ words_of ls

-- how many of n double-links are copied
unfoldable pub fitted : ℕ → ℕ
fitted n = cond (ltb max_double_links n) 0 n
