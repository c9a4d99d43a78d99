-- A ring lent as a list of words, the two darts of each double-link in turn: its refusals in order, and the table that
-- it leaves. Document 01, "Ring" and "Refusals": 1 and 2 are the caller's.
use Rattle.std.specs.Prelude.{Bool, true, ◌&&◌, List, [], ◌∷◌, ℕ, ◌%◌, leb, ltb, eqb, length}
use Rattle.lists.specs.Lists.{all}
use Rattle.hypermap.specs.Hypermap.{edge, Hypermap, same_edge}
use Rattle.hypermap.specs.Ring.{DoubleLink, unicity, continuity, closure, simplicity, pairs_differ}
use Rattle.table.specs.Limits.{max_ring}
use Rattle.table.specs.Refusals.{no_list, apart, same_tab, tie_twice, gap_twice, path_broken, or_else, unless}
use Rattle.table.specs.Layout.{Table, hypermap_of}
use Rattle.table.specs.Commands.{Command, cuts, swapped, presence_refusal, leaves}

-- the double-links that a list of words holds; document 01's crossings
unfoldable pub links_of : (words : List ℕ) → List DoubleLink
links_of [] = []
links_of (a ∷ []) = []
links_of (a ∷ b ∷ ws) = record { first = a; second = b } ∷ links_of ws

-- not 10: not empty, not odd, not above the limit
unfoldable pub is_list : (words : List ℕ) → Bool
is_list ws = ltb 0 (length ws) && eqb (length ws % 2) 0 && leb (length ws) max_ring

-- 8: the two darts of each double-link lie in one edge, 2.6 (1)
unfoldable pub pairs_together : Hypermap → List DoubleLink → Bool
pairs_together m ls = all (λ l. same_edge m l.first l.second) ls

-- 13: the path goes on and closes, 2.7 (1) and (2)
unfoldable pub path_closes : Hypermap → List DoubleLink → Bool
path_closes m [] = true
path_closes m (l ∷ ls) = continuity m l ls && closure m l ls

-- each condition over the whole list before the next
unfoldable pub condition_refusal : Hypermap → List DoubleLink → ℕ
condition_refusal m ls =
    or_else (unless (pairs_together m ls) apart)
    (or_else (unless (pairs_differ ls) same_tab)
    (or_else (unless (unicity m ls) tie_twice)
    (or_else (unless (simplicity m ls) gap_twice) (unless (path_closes m ls) path_broken))))

unfoldable pub ring_refusal : Table → (words : List ℕ) → ℕ
ring_refusal w ws =
    or_else (unless (is_list ws) no_list)
    (or_else (presence_refusal w ws) (condition_refusal (hypermap_of w) (links_of ws)))

-- THE CUT: the change of each double-link in turn, in four words
unfoldable pub cut_along : List DoubleLink → Table → Table
cut_along [] w = w
cut_along (l ∷ ls) w = cut_along ls (swapped edge l.first l.second w)

-- the same as commands: an edge cut for each double-link
unfoldable pub cuts_of : List DoubleLink → List Command
cuts_of [] = []
cuts_of (l ∷ ls) = cuts edge l.first l.second ∷ cuts_of ls

unfoldable pub ring_leaves : Table → (words : List ℕ) → Table
ring_leaves w ws = leaves (ring_refusal w ws) (cut_along (links_of ws) w) w
