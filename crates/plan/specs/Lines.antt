-- The lines that the program writes. Document 01: "It writes `ok` a command, the eight report numbers in the order
-- above for 07, or `refused` and the number, then ends. .. numbers are decimal, a negative one with a minus in front."
use Rattle.std.specs.Prelude.{cond, List, [], ◌∷◌, ◌++◌, length, replicate, ℕ, zero, suc, ◌+◌, ◌*◌, ◌/◌, ◌%◌, ltb, leb}
use Rattle.std.specs.Prelude.{eqb, ℤ, pos, negsuc}
use Rattle.table.specs.Limits.{words_per_dart, max_capacity, max_tape}
use Rattle.table.specs.Refusals.{wrong_size}
use Rattle.table.specs.Layout.{Table, hypermap_of}
use Rattle.parts.specs.Counts.{counts_of}
use Rattle.parts.specs.declared.Counts.{Counts}
use Rattle.tape.specs.Steps.{TapeCommand, changes, reports, cuts_ring, step_refusal, step_on}
use Rattle.tape.specs.Tapes.{contents_of}

-- NUMBERS. The digits of a number, the first of them not 0 unless it is alone. A digit's byte is 48 and the digit.
-- Fuel: the most digits
unfoldable pub decimal_by : (most : ℕ) → ℕ → List ℕ
decimal_by zero n = []
decimal_by (suc k) n = cond (ltb n 10) ((48 + n) ∷ []) (decimal_by k (n / 10) ++ ((48 + n % 10) ∷ []))

-- of a number of 64 bits
abbrev pub most_digits : ℕ
most_digits = 20

abbrev pub decimal : ℕ → List ℕ
decimal n = decimal_by most_digits n

-- with a minus in front of a negative one
abbrev pub signed : ℤ → List ℕ
signed (pos n) = decimal n
signed (negsuc n) = 45 ∷ decimal (suc n)

-- LINES, in ASCII. `ok`
abbrev pub ok_line : List ℕ
ok_line = 111 ∷ 107 ∷ 10 ∷ []

-- the report: tabs, ties, cells, gaps, pieces, characteristic, handles, lifts, with a space before all but the first
abbrev pub next : ℕ → List ℕ
next n = 32 ∷ decimal n

unfoldable pub report_line : Counts → List ℕ
report_line c =
    decimal c.darts ++ (next c.edges ++ next c.vertices) ++ (next c.faces ++ next c.components) ++
    (32 ∷ []) ++ signed c.characteristic ++ (next c.genus ++ next c.lifts) ++ (10 ∷ [])

-- `refused` and the number
abbrev pub refused_word : List ℕ
refused_word = 114 ∷ 101 ∷ 102 ∷ 117 ∷ 115 ∷ 101 ∷ 100 ∷ 32 ∷ []

unfoldable pub refused_line : (refusal : ℕ) → List ℕ
refused_line n = refused_word ++ decimal n ++ (10 ∷ [])

-- of an accepted command that leaves the table w
abbrev pub accepted_line : Table → TapeCommand → List ℕ
accepted_line w (changes c) = ok_line
accepted_line w reports = report_line (counts_of (hypermap_of w))
accepted_line w (cuts_ring ws) = ok_line

-- A RUN: a line for each command up to the first that is refused, and then that refusal. n is what ends the tape, 0 if
-- nothing does
unfoldable pub lines_over : Table → List TapeCommand → (n : ℕ) → List ℕ
lines_over w [] n = cond (eqb n 0) [] (refused_line n)
lines_over w (c ∷ cs) n =
    cond (eqb (step_refusal w c) 0) (accepted_line (step_on w c) c ++ lines_over (step_on w c) cs n)
    (refused_line (step_refusal w c))

abbrev pub lines_of : Table → (tape : List ℕ) → List ℕ
lines_of w bs = lines_over w (contents_of bs).commands (contents_of bs).refusal

-- THE WHOLE TAPE, played on an empty table. Document 01: "A tape above 65,536 bytes writes `refused 1` alone."
abbrev pub tape_lines : (tape : List ℕ) → List ℕ
tape_lines bs =
    cond (leb (length bs) max_tape) (lines_of (replicate (words_per_dart * max_capacity) 0) bs)
    (refused_line wrong_size)
