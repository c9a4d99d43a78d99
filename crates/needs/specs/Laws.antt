-- What holds of the needs of a tape: each law is a type, and its proof a term of that type in proofs/. Document 02, Job
-- 1.
use Rattle.std.specs.Prelude.{◌≡◌, ◌↔◌, true, not, List, [], ◌∷◌, ℕ, ◌+◌, ◌*◌, ◌≤◌, eqb, length, get_or, take}
use Rattle.lists.specs.Lists.{among, keep, up_from}
use Rattle.hypermap.specs.Hypermap.{edge}
use Rattle.hypermap.specs.Ring.{DoubleLink}
use Rattle.table.specs.Limits.{words_per_change}
use Rattle.table.specs.Layout.{Table, capacity, is_number, holds_hypermap, hypermap_of}
use Rattle.table.specs.Commands.{command_on, swapped}
use Rattle.table.specs.Runs.{AllAccepted}
use Rattle.rings.specs.Rings.{links_of}
use Rattle.tape.specs.Steps.{TapeCommand, changes, reports, cuts_ring, step_on, step_rule}
use Rattle.needs.specs.Amounts.{named_in, larger, greatest, puts_by, take_outs_by, peak_of, changes_by, total}

-- THE LEAST CAPACITY: "at which no nonzero tab number is off the table"
abbrev pub NoneOff : Table → List TapeCommand → Type 0
NoneOff w cs = (x : ℕ) → among x (named_in cs) ≡ true → (x ≡ 0 → ⊥) → is_number w x ≡ true

abbrev pub CapacityLaw : Type 0
CapacityLaw = (w : Table) (cs : List TapeCommand) → NoneOff w cs ↔ (greatest (named_in cs) ≤ capacity w)

-- so commands that are all accepted need no more than there is
abbrev pub AcceptedCapacityLaw : Type 0
AcceptedCapacityLaw =
    (w : Table) (cs : List TapeCommand) → holds_hypermap w ≡ true → AllAccepted step_rule w cs →
    greatest (named_in cs) ≤ capacity w

-- THE PEAK: "the highest of puts less take-outs over all beginnings of the tape, at least 0"
pub record IsPeak (cs : List TapeCommand) (p : ℕ) : Type 0 where
  pub bound : (k : ℕ) → total puts_by (take k cs) ≤ total take_outs_by (take k cs) + p
  pub beginning : ℕ
  pub reached : total puts_by (take beginning cs) ≡ total take_outs_by (take beginning cs) + p

abbrev pub PeakLaw : Type 0
PeakLaw = (cs : List TapeCommand) → IsPeak cs (peak_of cs)

-- "the most tabs present at any moment"
abbrev pub darts_in : Table → ℕ
darts_in w = length (hypermap_of w).darts

unfoldable pub most_darts : Table → List TapeCommand → ℕ
most_darts w [] = darts_in w
most_darts w (c ∷ cs) = larger (darts_in w) (most_darts (step_on w c) cs)

abbrev pub MostDartsLaw : Type 0
MostDartsLaw =
    (w : Table) (cs : List TapeCommand) → holds_hypermap w ≡ true → AllAccepted step_rule w cs →
    most_darts w cs ≡ darts_in w + peak_of cs

-- WORDS: "the words changed, counted command by command and crossing by crossing". The places where two tables differ
unfoldable pub differing : (before after : Table) → ℕ
differing v w = length (keep (λ i. not (eqb (get_or w i 0) (get_or v i 0))) (up_from 0 (length v)))

unfoldable pub changed_along : List DoubleLink → Table → ℕ
changed_along [] w = 0
changed_along (l ∷ ls) w =
    differing w (swapped edge l.first l.second w) +
    changed_along ls (swapped edge l.first l.second w)

abbrev pub changed_by : Table → TapeCommand → ℕ
changed_by w (changes c) = differing w (command_on w c)
changed_by w reports = 0
changed_by w (cuts_ring ws) = changed_along (links_of ws) w

unfoldable pub changed_on : Table → List TapeCommand → ℕ
changed_on w [] = 0
changed_on w (c ∷ cs) = changed_by w c + changed_on (step_on w c) cs

abbrev pub WordsLaw : Type 0
WordsLaw =
    (w : Table) (cs : List TapeCommand) → holds_hypermap w ≡ true → AllAccepted step_rule w cs →
    changed_on w cs ≡ words_per_change * total changes_by cs
