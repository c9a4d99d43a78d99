-- What the decoder reads: command bytes and their sizes, and numbers one after the other.
use mathlib.Core.Path.{◌≡◌, refl, ap, sym, ◌∙◌}
use mathlib.Core.Bool.{true, false}
use mathlib.Core.List.{List, [], ◌∷◌, ◌++◌, append-nil}
use Prim.Native.Nat.{ℕ, zero, suc, ◌+◌, ◌*◌, ◌≤◌, ◌<◌}
use native.Mathlib.Nat.{zero-add}
use native.Mathlib.Numerals.{add-one}
use native.Mathlib.Omega.{arith}
use lib.Dec.{leb}
use lib.ListN.{length, get_or, take, drop, set, length-set}
use lib.Seq.{take_all, drop-length, paste-suc}
use borrow.Author.Tests.{leb-true, ltb-true, lt-ltb, le-leb, lt-leb, ne_eqb}
use Rattle.std.proofs.Common.{Result, Ok, Err}
use Rattle.std.specs.Result.{IsErrAnd}
use Rattle.std.proofs.lemmas.Result.{err_from_is_err_and}
use Rattle.lists.proofs.Bools.{by_cases, and_left, and_right}
use Rattle.table.specs.Refusals.{or_else, unless}
use Rattle.tape.specs.Tapes.{operand_sizes, is_command, command_size, byte_of, size_of, read_refusal, command_of}
use Rattle.tape.specs.Tapes.{number_at, numbers_from}
use Rattle.table.specs.declared.refusals.Refusal.{Refusal}
use Rattle.tape.specs.Opcodes.{byte_for}
use Rattle.tape.specs.Inner.{meaning, HasOperands, Reads}
use Rattle.tape.specs.declared.Instruction.{Instruction}
use Rattle.tape.specs.declared.opcode.Opcode.{Opcode}
use Rattle.tape.specs.declared.opcode.Opcode.TheVariants as opcode
use Rattle.hypermap.specs.Hypermap.{edge, vertex}
use Rattle.table.specs.Commands.{puts, takes_out, joins, cuts}
use Rattle.tape.specs.Steps.{TapeCommand, changes, reports}

-- COMMAND BYTES are indices of the operand table, and its entries are small
pub command_below : (b : ℕ) → is_command b ≡ true → b < 9
unfolding is_command operand_sizes
command_below b h = ltb-true b 9 (and_right (leb 1 b) _ h)

pub is_known : (b : ℕ) → 1 ≤ b → b ≤ 8 → is_command b ≡ true
unfolding is_command operand_sizes
is_known b p q = rw (le-leb 1 b p, lt-ltb b 9 (omega arith))

-- READING by the byte. The first command is known, and has n bytes
pub record Sized (bs : List ℕ) (n : ℕ) : Type 0 where
  pub known : is_command (byte_of bs) ≡ true
  pub size : n ≡ size_of bs

module _ {bs : List ℕ} {n : ℕ} (s : Sized bs n) where
  pub torn_refusal : length bs < n → 16 ≡ read_refusal bs
  unfolding read_refusal or_else unless
  torn_refusal l = rw (s.known, ← s.size, lt-leb _ _ l)

  pub whole_refusal : n ≤ length bs → read_refusal bs ≡ 0
  unfolding read_refusal or_else unless
  whole_refusal l = rw (s.known, ← s.size, le-leb _ _ l)

-- the bytes of a command other than a ring are its entry's
pub plain_sized : (bs : List ℕ) (b n : ℕ) → b ≡ byte_of bs → 1 ≤ b → b ≤ 7 → n ≡ command_size b → Sized bs n
unfolding size_of
plain_sized bs b n h p q e =
    record {
      known = rw (← h) (is_known b (omega arith) (omega arith));
      size = rw (← h, ne_eqb b 8 (λ z. omega arith)) (omega arith);
    }

pub ring_sized : {bs : List ℕ} {n : ℕ} → byte_of bs ≡ 8 → n ≡ command_size 8 + 4 * get_or bs 1 0 → Sized bs n
unfolding size_of
ring_sized e q = record { known = rw e (is_known 8 (omega arith) (omega arith)); size = rw e q }

-- a byte below or above those of the commands is none
pub is_unknown : (b : ℕ) → (1 ≤ b → 9 ≤ b) → is_command b ≡ false
unfolding is_command
is_unknown b l =
    by_cases (is_command b)
    (λ h.
    let some = leb-true 1 b (and_left (leb 1 b) _ h) in
    let u = command_below b h in
    absurd (omega (arith, l some))) (λ h. h)

pub unknown_refusal : (bs : List ℕ) → is_command (byte_of bs) ≡ false → 15 ≡ read_refusal bs
unfolding read_refusal or_else unless
unknown_refusal bs e = rw e

-- a byte that is not 0 stands on the tape
pub some_byte : (bs : List ℕ) (b : ℕ) → b ≡ byte_of bs → 0 < b → 0 < length bs
some_byte [] b e p = absurd (omega arith)
some_byte (x ∷ bs) b e p = omega arith

byte_positive : (o : Opcode) → 1 ≤ byte_for o
byte_positive o = grind arith

-- COMMANDS BUT THE RING, by their opcodes: how many operands each has, and the command of those operands
abbrev operands_of : Opcode → ℕ
operands_of opcode.Put = 1
operands_of opcode.TakeOut = 1
operands_of opcode.EdgeJoin = 2
operands_of opcode.EdgeCut = 2
operands_of opcode.VertexJoin = 2
operands_of opcode.VertexCut = 2
operands_of opcode.Report = 0
operands_of opcode.RingCut = 0

abbrev command_with : Opcode → (operands : List ℕ) → TapeCommand
command_with opcode.Put xs = changes (puts (get_or xs 0 0))
command_with opcode.TakeOut xs = changes (takes_out (get_or xs 0 0))
command_with opcode.EdgeJoin xs = changes (joins edge (get_or xs 0 0) (get_or xs 1 0))
command_with opcode.EdgeCut xs = changes (cuts edge (get_or xs 0 0) (get_or xs 1 0))
command_with opcode.VertexJoin xs = changes (joins vertex (get_or xs 0 0) (get_or xs 1 0))
command_with opcode.VertexCut xs = changes (cuts vertex (get_or xs 0 0) (get_or xs 1 0))
command_with opcode.Report xs = reports
command_with opcode.RingCut xs = reports

size_by : (o : Opcode) → byte_for o ≤ 7 → 1 + 2 * operands_of o ≡ command_size (byte_for o)
unfolding command_size operand_sizes
size_by opcode.Put p = refl
size_by opcode.TakeOut p = refl
size_by opcode.EdgeJoin p = refl
size_by opcode.EdgeCut p = refl
size_by opcode.VertexJoin p = refl
size_by opcode.VertexCut p = refl
size_by opcode.Report p = refl
size_by opcode.RingCut p = absurd (omega arith)

command_by :
    (bs : List ℕ) (o : Opcode) → byte_for o ≤ 7 → byte_of bs ≡ byte_for o →
    command_with o (numbers_from (operands_of o) 1 bs) ≡ command_of bs
unfolding command_of numbers_from
command_by bs opcode.Put p e = rw e
command_by bs opcode.TakeOut p e = rw e
command_by bs opcode.EdgeJoin p e = rw e
command_by bs opcode.EdgeCut p e = rw e
command_by bs opcode.VertexJoin p e = rw e
command_by bs opcode.VertexCut p e = rw e
command_by bs opcode.Report p e = rw e
command_by bs opcode.RingCut p e = absurd (omega arith)

-- ANSWERS of the decoder in the arm of such an opcode: q is the one that the first byte b was read as
module _
    (bs : List ℕ) (b : ℕ) (first : b ≡ byte_of bs) (q : Opcode) (read : b ≡ byte_for q) (o : Opcode) (is : q ≡ o)
    (p : byte_for o ≤ 7) where
  byte_is : byte_of bs ≡ byte_for o
  byte_is = sym first ∙ read ∙ ap byte_for is

  sized : Sized bs (1 + 2 * operands_of o)
  sized = plain_sized bs (byte_for o) _ (sym byte_is) (byte_positive o) p (size_by o p)

  -- its operands are not all on the tape
  pub torn_reads :
      (r : Result (Instruction × ℕ) Refusal) (d : Refusal) → IsErrAnd r (λ y. y ≡ d) →
      HasOperands bs (operands_of o) (Err d) → Reads bs r
  torn_reads r d q t = let u = err_from_is_err_and r q in rw (u.1, u.2, t.0) (torn_refusal sized t.1)

  -- or they are the numbers xs, and i is the instruction of them
  pub whole_reads :
      (xs : List ℕ) → HasOperands bs (operands_of o) (Ok xs) → (i : Instruction) →
      meaning bs i ≡ command_with o xs → (n : ℕ) → n ≡ command_size (byte_for q) → Reads bs (Ok (i, n))
  whole_reads xs t i m n z = (
    whole_refusal sized t.0,
    m ∙ ap (command_with o) t.1 ∙ command_by bs o p byte_is,
    z ∙ ap (λ k. command_size (byte_for k)) is ∙ sym (size_by o p) ∙ sized.size,
  )

-- NUMBERS one after the other
pub numbers_length : (n i : ℕ) (bs : List ℕ) → length (numbers_from n i bs) ≡ n
unfolding numbers_from
numbers_length zero i bs = refl
numbers_length (suc n) i bs = ap suc (numbers_length n (i + 2) bs)

pub numbers_at : (n i : ℕ) (bs : List ℕ) (k : ℕ) → k < n → get_or (numbers_from n i bs) k 0 ≡ number_at bs (i + 2 * k)
unfolding numbers_from
numbers_at zero i bs k h = absurd (omega arith)
numbers_at (suc n) i bs zero h = ap (number_at bs) (omega arith)
numbers_at (suc n) i bs (suc k) h = numbers_at n (i + 2) bs k (omega arith) ∙ ap (number_at bs) (omega arith)

-- the first k words hold the numbers of a tape from i on, and the others what they held
pub record Fills (tape : List ℕ) (i : ℕ) (old words : List ℕ) (k : ℕ) : Type 0 where
  pub inside : k ≤ length old
  pub filled : words ≡ take k (numbers_from (length old) i tape) ++ drop k old
  pub size : length words ≡ length old

module _ {tape : List ℕ} {i : ℕ} {old words : List ℕ} {k : ℕ} (g : Fills tape i old words k) where
  pub fills_on : {x : ℕ} → k < length words → x ≡ number_at tape (i + 2 * k) → Fills tape i old (set words k x) (k + 1)
  fills_on {x} h e =
      let l = numbers_from (length old) i tape in
      let n = numbers_length (length old) i tape in
      let v : x ≡ get_or l k 0 = e ∙ sym (numbers_at (length old) i tape k (omega arith)) in
      record {
        inside = omega arith;
        filled = rw (g.filled, v, add-one) (simp zero-add at (paste-suc old 0 l k 0 (omega arith) (omega arith)));
        size = length-set words k x ∙ g.size;
      }

  pub fills_all : length words ≤ k → words ≡ numbers_from (length old) i tape
  fills_all h =
      let l = numbers_from (length old) i tape in
      let n = numbers_length (length old) i tape in
      let e : k ≡ length old = omega arith in
      g.filled ∙ rw (e, drop-length old, append-nil) (take_all (length old) l (omega arith))
