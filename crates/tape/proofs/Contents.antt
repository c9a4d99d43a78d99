-- The contents of a tape need no fuel: every command has a byte, so a tape has at least as many bytes as commands.
use mathlib.Core.Path.{◌≡◌, refl, ap}
use mathlib.Core.List.{List, [], ◌∷◌}
use Prim.Native.Nat.{ℕ, zero, suc, ◌≤◌, ◌<◌}
use native.Mathlib.Omega.{arith}
use lib.Dec.{leb}
use lib.ListN.{length, length-drop}
use borrow.Author.Tests.{eq-eqb, ne_eqb, leb-true}
use Rattle.table.specs.Refusals.{unless, unknown_command, torn_command}
use Rattle.table.proofs.Stages.{passed, fitting}
use Rattle.tape.specs.Tapes.{is_command, command_size, byte_of, size_of, command_of, read_refusal, rest_of, ended_by}
use Rattle.tape.specs.Tapes.{after, contents_by, contents_of}
use Rattle.tape.specs.Laws.{ReadingLaw}

-- THE FIRST COMMAND has a byte, and its bytes lie on the tape
pub size_some : (bs : List ℕ) → 1 ≤ size_of bs
unfolding size_of command_size
size_some bs = omega arith

pub size_fits : (bs : List ℕ) → read_refusal bs ≡ 0 → size_of bs ≤ length bs
unfolding read_refusal
size_fits bs e =
    leb-true (size_of bs) (length bs)
    (fitting (leb (size_of bs) (length bs)) torn_command (omega arith)
    (passed (unless (is_command (byte_of bs)) unknown_command) (unless (leb (size_of bs) (length bs)) torn_command)
    e).1)

-- so the rest is shorter
pub rest_shorter : (bs : List ℕ) → 0 < length bs → length (rest_of bs) < length bs
rest_shorter bs p = let s = size_some bs in rw length-drop (omega arith)

-- FUEL
fuel_suffices : (n k : ℕ) (bs : List ℕ) → length bs ≤ n → length bs ≤ k → contents_by n bs ≡ contents_by k bs
unfolding contents_by
fuel_suffices zero zero bs p q = refl
fuel_suffices zero (suc k) [] p q = refl
fuel_suffices zero (suc k) (b ∷ bs) p q = absurd (omega arith)
fuel_suffices (suc n) zero [] p q = refl
fuel_suffices (suc n) zero (b ∷ bs) p q = absurd (omega arith)
fuel_suffices (suc n) (suc k) [] p q = refl
fuel_suffices (suc n) (suc k) (b ∷ bs) p q =
    let r = rest_shorter (b ∷ bs) (omega arith) in
    rw (fuel_suffices n k (rest_of (b ∷ bs)) (omega arith) (omega arith))

-- THE CASES
read_none : (bs : List ℕ) → length bs ≡ 0 → contents_of bs ≡ ended_by 0
unfolding contents_by
read_none [] e = refl
read_none (b ∷ bs) e = absurd (omega arith)

read_refused : (bs : List ℕ) → 0 < length bs → (read_refusal bs ≡ 0 → ⊥) → contents_of bs ≡ ended_by (read_refusal bs)
unfolding contents_by
read_refused [] p d = absurd (omega arith)
read_refused (b ∷ bs) p d = rw (ne_eqb (read_refusal (b ∷ bs)) 0 d)

read_first :
    (bs : List ℕ) → 0 < length bs → read_refusal bs ≡ 0 →
    contents_of bs ≡ after (command_of bs) (contents_of (rest_of bs))
unfolding contents_by
read_first [] p e = absurd (omega arith)
read_first (b ∷ bs) p e =
    let r = rest_shorter (b ∷ bs) p in
    rw (eq-eqb (read_refusal (b ∷ bs)) 0 e)
    (ap (after (command_of (b ∷ bs)))
    (fuel_suffices (length bs) (length (rest_of (b ∷ bs))) (rest_of (b ∷ bs)) (omega arith) (omega arith)))

pub reading_law : ReadingLaw
reading_law bs = record { none = read_none bs; refused = read_refused bs; read = read_first bs }
