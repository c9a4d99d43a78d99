-- What the inner functions are lent and answer.
use Rattle.std.specs.Prelude.{◌≡◌, List, ℕ, ◌+◌, ◌*◌, ◌≤◌, ◌<◌, length, Result, MatchResult}
use Rattle.table.specs.Limits.{max_tape}
use Rattle.table.specs.Layout.{Table}
use Rattle.table.specs.Inner.{WithinCapacity, command_for}
use Rattle.table.specs.Replies.{number}
use Rattle.table.specs.declared.refusals.Refusal.{Refusal}
use Rattle.table.specs.declared.refusals.Refusal.TheVariants.{TornCommand}
use Rattle.tape.specs.Steps.{TapeCommand, changes, reports, cuts_ring}
use Rattle.tape.specs.Tapes.{size_of, command_of, read_refusal, numbers_from}
use Rattle.tape.specs.declared.Instruction.{Instruction}
use Rattle.tape.specs.declared.Instruction.TheVariants as instruction

-- DECODING. The command that an instruction stands for; a ring's darts stay on the tape
abbrev pub meaning : (tape : List ℕ) → Instruction → TapeCommand
meaning bs (instruction.Change c) = changes (command_for c)
meaning bs instruction.Report = reports
meaning bs (instruction.RingCut n) = cuts_ring (numbers_from (2 * n) 2 bs)

-- the n numbers after a command's byte, where the tape has them
abbrev pub HasOperands : (tape : List ℕ) → (n : ℕ) → Result (List ℕ) Refusal → Type 0
HasOperands bs n r =
    MatchResult r (λ xs. (1 + 2 * n ≤ length bs) × (xs ≡ numbers_from n 1 bs))
    (λ e. (e ≡ TornCommand) × (length bs < 1 + 2 * n))

-- what an answer of the decoder tells of the tape: the first command and its bytes, or why it cannot be read
abbrev pub Reads : (tape : List ℕ) → Result (Instruction × ℕ) Refusal → Type 0
Reads bs r =
    MatchResult r (λ p. (read_refusal bs ≡ 0) × (meaning bs p.0 ≡ command_of bs) × (p.1 ≡ size_of bs))
    (λ e. number e ≡ read_refusal bs)

-- PLAYING: a table within the capacity, and a tape whose commands a u32 can count
pub record Playable (w : Table) (tape : List ℕ) : Type 0 where
  pub table : WithinCapacity w
  pub short : length tape ≤ max_tape
