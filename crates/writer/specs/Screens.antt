-- What the planning screen gets: ten numbers of four bytes, and then the rewritten tape. Document 01, "Tape".
use Rattle.std.specs.Prelude.{List, [], ◌∷◌, ◌++◌, ℕ, ◌-◌, ◌/◌, ◌%◌, ℤ, pos, negsuc}
use Rattle.table.specs.Layout.{Table, hypermap_of}
use Rattle.parts.specs.Counts.{counts_of}
use Rattle.parts.specs.declared.Counts.{Counts}
use Rattle.table.specs.Runs.{Outcome}
use Rattle.writer.specs.Canonical.{tape_of}
use Rattle.tape.specs.declared.Run.{Run}

-- a number in four bytes, low byte first; a negative one in two's complement
abbrev pub four_bytes : ℕ → List ℕ
four_bytes n = n % 256 ∷ n / 256 % 256 ∷ n / 65536 % 256 ∷ n / 16777216 % 256 ∷ []

abbrev pub twos_complement : ℤ → ℕ
twos_complement (pos n) = n
twos_complement (negsuc n) = 4294967295 - n

unfoldable pub numbers_bytes : (numbers : List ℕ) → List ℕ
numbers_bytes [] = []
numbers_bytes (n ∷ ns) = four_bytes n ++ numbers_bytes ns

-- the refusal or 0, the commands accepted, and the report
abbrev pub ten_numbers : (number accepted : ℕ) → Counts → List ℕ
ten_numbers n k c =
    n ∷ k ∷ c.darts ∷ c.edges ∷ c.vertices ∷ c.faces ∷ c.components ∷ twos_complement c.characteristic ∷
    c.genus ∷ c.lifts ∷ []

-- document 01's order: tabs, ties, cells, gaps; and then the rewritten tape
unfoldable pub screen_bytes : Outcome Table → List ℕ
screen_bytes o =
    numbers_bytes (ten_numbers o.number o.accepted (counts_of (hypermap_of o.state))) ++ tape_of o.state

-- an outcome by what a run tells
abbrev pub outcome_of : Run → Table → Outcome Table
outcome_of r w = record { number = r.number; accepted = r.accepted; state = w }
