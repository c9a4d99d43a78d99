-- How commands stand on a tape: one byte, then operands of two bytes, low byte first. Document 01, "Commands" and
-- "Tape".
use Rattle.std.specs.Prelude.{Bool, ◌&&◌, cond, List, [], ◌∷◌, ◌++◌, ℕ, zero, suc, ◌+◌, ◌*◌, ◌/◌, ◌%◌, leb, ltb, eqb}
use Rattle.std.specs.Prelude.{length, get_or, drop}
use Rattle.hypermap.specs.Hypermap.{Dimension, edge, vertex}
use Rattle.table.specs.Refusals.{unknown_command, torn_command, or_else, unless}
use Rattle.table.specs.Commands.{Command, puts, takes_out, joins, cuts}
use Rattle.tape.specs.Steps.{TapeCommand, changes, reports, cuts_ring}

-- the operand bytes of each command, by its byte; no command has the byte 0, and a ring's entry is the one byte before
-- its pairs
unfoldable pub operand_sizes : List ℕ
operand_sizes = 0 ∷ 2 ∷ 2 ∷ 4 ∷ 4 ∷ 4 ∷ 4 ∷ 0 ∷ 1 ∷ []

unfoldable pub is_command : (byte : ℕ) → Bool
is_command b = leb 1 b && ltb b (length operand_sizes)

-- a command's own byte and its entry in the table
unfoldable pub command_size : (byte : ℕ) → ℕ
command_size b = 1 + get_or operand_sizes b 0

-- READING. The number in two bytes from i on
unfoldable pub number_at : (tape : List ℕ) → (i : ℕ) → ℕ
number_at bs i = get_or bs i 0 + 256 * get_or bs (i + 1) 0

-- n numbers from i on
unfoldable pub numbers_from : (n i : ℕ) → (tape : List ℕ) → List ℕ
numbers_from zero i bs = []
numbers_from (suc n) i bs = number_at bs i ∷ numbers_from n (i + 2) bs

-- the first command's byte, the bytes of the whole command, and the command
abbrev pub byte_of : (tape : List ℕ) → ℕ
byte_of bs = get_or bs 0 0

unfoldable pub size_of : (tape : List ℕ) → ℕ
size_of bs = command_size (byte_of bs) + cond (eqb (byte_of bs) 8) (4 * get_or bs 1 0) 0

unfoldable pub command_of : (tape : List ℕ) → TapeCommand
command_of bs =
    cond (eqb (byte_of bs) 1) (changes (puts (number_at bs 1)))
    (cond (eqb (byte_of bs) 2) (changes (takes_out (number_at bs 1)))
    (cond (eqb (byte_of bs) 3) (changes (joins edge (number_at bs 1) (number_at bs 3)))
    (cond (eqb (byte_of bs) 4) (changes (cuts edge (number_at bs 1) (number_at bs 3)))
    (cond (eqb (byte_of bs) 5) (changes (joins vertex (number_at bs 1) (number_at bs 3)))
    (cond (eqb (byte_of bs) 6) (changes (cuts vertex (number_at bs 1) (number_at bs 3)))
    (cond (eqb (byte_of bs) 7) reports (cuts_ring (numbers_from (2 * get_or bs 1 0) 2 bs))))))))

-- 15 for a byte that is no command, 16 where the tape ends inside the command
unfoldable pub read_refusal : (tape : List ℕ) → ℕ
read_refusal bs =
    or_else (unless (is_command (byte_of bs)) unknown_command) (unless (leb (size_of bs) (length bs)) torn_command)

-- the tape after the first command
abbrev pub rest_of : (tape : List ℕ) → List ℕ
rest_of bs = drop (size_of bs) bs

-- THE COMMANDS of a tape in their order, as far as they can be read, and what stops the reading, 0 at its end. Fuel:
-- the bytes; ReadingLaw shows that it suffices
pub record Contents : Type 0 where
  pub commands : List TapeCommand
  pub refusal : ℕ

abbrev pub ended_by : (refusal : ℕ) → Contents
ended_by n = record { commands = []; refusal = n }

abbrev pub after : TapeCommand → Contents → Contents
after c t = record { commands = c ∷ t.commands; refusal = t.refusal }

unfoldable pub contents_by : (fuel : ℕ) → (tape : List ℕ) → Contents
contents_by zero bs = ended_by 0
contents_by (suc n) [] = ended_by 0
contents_by (suc n) (b ∷ bs) =
    cond (eqb (read_refusal (b ∷ bs)) 0) (after (command_of (b ∷ bs)) (contents_by n (rest_of (b ∷ bs))))
    (ended_by (read_refusal (b ∷ bs)))

abbrev pub contents_of : (tape : List ℕ) → Contents
contents_of bs = contents_by (length bs) bs

-- WRITING. A number in two bytes
abbrev pub number_bytes : ℕ → List ℕ
number_bytes x = x % 256 ∷ x / 256 ∷ []

abbrev pub join_byte : Dimension → ℕ
join_byte edge = 3
join_byte vertex = 5

abbrev pub cut_byte : Dimension → ℕ
cut_byte edge = 4
cut_byte vertex = 6

abbrev pub bytes_of : Command → List ℕ
bytes_of (puts x) = 1 ∷ number_bytes x
bytes_of (takes_out x) = 2 ∷ number_bytes x
bytes_of (joins k a b) = join_byte k ∷ number_bytes a ++ number_bytes b
bytes_of (cuts k a b) = cut_byte k ∷ number_bytes a ++ number_bytes b

unfoldable pub tape_bytes : List Command → List ℕ
tape_bytes [] = []
tape_bytes (c ∷ cs) = bytes_of c ++ tape_bytes cs
