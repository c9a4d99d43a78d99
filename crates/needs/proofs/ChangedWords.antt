-- The words that a tape changes, command by command: an accepted ring changes four for each double-link, which swaps
-- two darts that differ, so all the words changed are four times the changes counted.
use mathlib.Core.Path.{◌≡◌, refl}
use mathlib.Core.Bool.{true, not}
use mathlib.Core.List.{List, [], ◌∷◌}
use Prim.Native.Nat.{ℕ, ◌*◌}
use native.Mathlib.Omega.{arith}
use lib.Dec.{eqb}
use lib.ListN.{length}
use borrow.Author.Tests.{eqb-false, not-true}
use Rattle.lists.specs.Lists.{all}
use Rattle.lists.proofs.Bools.{and_left, and_right}
use Rattle.hypermap.specs.Hypermap.{edge}
use Rattle.hypermap.specs.Ring.{DoubleLink, pairs_differ}
use Rattle.table.specs.Limits.{words_per_change}
use Rattle.table.specs.Layout.{Table, holds_hypermap, hypermap_of}
use Rattle.table.specs.Commands.{swapped}
use Rattle.rings.specs.Rings.{links_of, ring_refusal}
use Rattle.rings.specs.Laws.{are_darts}
use Rattle.rings.proofs.Conditions.{accepted_list}
use Rattle.rings.proofs.Cuts.{first_swapped, darts_stay}
use Rattle.rings.proofs.Parting.{accepted_darts}
use Rattle.tape.specs.Steps.{TapeCommand, changes, reports, cuts_ring, step_refusal, step_on}
use Rattle.tape.proofs.Running.{step_holds}
use Rattle.needs.specs.Amounts.{changes_by, total}
use Rattle.needs.specs.Laws.{changed_along, changed_by, changed_on, WordsLaw}
use Rattle.needs.proofs.Differences.{swap_words, command_words}

-- A RING: each double-link is a swap of two darts
along_words :
    (ls : List DoubleLink) (w : Table) → holds_hypermap w ≡ true → are_darts (hypermap_of w) ls ≡ true →
    pairs_differ ls ≡ true → changed_along ls w ≡ words_per_change * length ls
unfolding changed_along all
along_words [] w s t d = refl
along_words (l ∷ ls) w s t d =
    let same = eqb l.first l.second in
    let n = eqb-false l.first l.second (not-true same (and_left (not same) (pairs_differ ls) d)) in
    let z = first_swapped w l ls s t in
    let v = swapped edge l.first l.second w in
    let rest = along_words ls v z.hypermap (darts_stay w l ls s t) (and_right (not same) (pairs_differ ls) d) in
    omega (arith, swap_words w edge l.first l.second z n)

ring_words :
    (w : Table) (ws : List ℕ) → holds_hypermap w ≡ true → ring_refusal w ws ≡ 0 →
    changed_along (links_of ws) w ≡ words_per_change * length (links_of ws)
ring_words w ws s e =
    along_words (links_of ws) w s (accepted_darts w ws e) (accepted_list w ws e).fit.differ

-- A TAPE
step_words :
    (w : Table) (c : TapeCommand) → holds_hypermap w ≡ true → step_refusal w c ≡ 0 →
    changed_by w c ≡ words_per_change * changes_by c
step_words w (changes c) s e = command_words w c s e
step_words w reports s e = refl
step_words w (cuts_ring ws) s e = ring_words w ws s e

pub words_law : WordsLaw
unfolding changed_on total
words_law w [] s a = refl
words_law w (c ∷ cs) s a =
    let first = step_words w c s a.0 in
    let rest = words_law (step_on w c) cs (step_holds w c s a.0).0 a.1 in
    omega arith
