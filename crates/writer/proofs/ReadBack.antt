-- A written tape is read back: each command's bytes are read as that command, and what follows them is read next.
use mathlib.Core.Path.{◌≡◌, refl, ap, ◌∙◌}
use mathlib.Core.Bool.{true}
use mathlib.Core.List.{List, [], ◌∷◌, ◌++◌, map}
use Prim.Native.Nat.{ℕ, suc, ◌+◌, ◌*◌, ◌/◌, ◌%◌, ◌<◌}
use native.Mathlib.Omega.{arith}
use lib.Dec.{leb}
use lib.ListN.{length}
use borrow.Author.Tests.{le-leb}
use Rattle.hypermap.specs.Hypermap.{edge, vertex}
use Rattle.table.specs.Refusals.{or_else, unless}
use Rattle.table.specs.Commands.{Command, puts, takes_out, joins, cuts}
use Rattle.tape.specs.Steps.{changes}
use Rattle.tape.specs.Tapes.{operand_sizes, is_command, command_size, number_at, size_of, command_of, read_refusal}
use Rattle.tape.specs.Tapes.{rest_of, contents_of, after, bytes_of, tape_bytes}
use Rattle.tape.proofs.Contents.{reading_law}

-- two bytes hold the number that they were written from
wide : (x : ℕ) → x % 256 + 256 * (x / 256) ≡ x
wide x = omega arith

-- a tape that starts with the command c, and then goes on with rest
record Starts (bs : List ℕ) (c : Command) (rest : List ℕ) : Type 0 where
  some : 0 < length bs
  whole : read_refusal bs ≡ 0
  command : command_of bs ≡ changes c
  behind : rest_of bs ≡ rest

-- a command of one operand has three bytes, and of two five
three : (n : ℕ) → leb 3 (suc (suc (suc n))) ≡ true
three n = le-leb 3 (suc (suc (suc n))) (omega arith)

five : (n : ℕ) → leb 5 (suc (suc (suc (suc (suc n))))) ≡ true
five n = le-leb 5 (suc (suc (suc (suc (suc n))))) (omega arith)

starts : (c : Command) (rest : List ℕ) → Starts (bytes_of c ++ rest) c rest
unfolding read_refusal command_of is_command size_of command_size operand_sizes number_at or_else unless
starts (puts x) rest =
    record { some = omega arith; whole = rw (three (length rest)); command = rw wide; behind = refl }
starts (takes_out x) rest =
    record { some = omega arith; whole = rw (three (length rest)); command = rw wide; behind = refl }
starts (joins edge a b) rest =
    record { some = omega arith; whole = rw (five (length rest)); command = rw (wide a, wide b); behind = refl }
starts (joins vertex a b) rest =
    record { some = omega arith; whole = rw (five (length rest)); command = rw (wide a, wide b); behind = refl }
starts (cuts edge a b) rest =
    record { some = omega arith; whole = rw (five (length rest)); command = rw (wide a, wide b); behind = refl }
starts (cuts vertex a b) rest =
    record { some = omega arith; whole = rw (five (length rest)); command = rw (wide a, wide b); behind = refl }

pub read_back : (cs : List Command) → contents_of (tape_bytes cs) ≡ record { commands = map changes cs; refusal = 0 }
unfolding tape_bytes
read_back [] = (reading_law []).none refl
read_back (c ∷ cs) =
    let s = starts c (tape_bytes cs) in
    (reading_law (bytes_of c ++ tape_bytes cs)).read s.some s.whole ∙
    rw (s.command, s.behind) (ap (after (changes c)) (read_back cs))
