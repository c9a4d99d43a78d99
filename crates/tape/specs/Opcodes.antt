-- The code's opcodes, and the bytes that they stand for.
use Rattle.std.specs.Prelude.{◌≡◌, ℕ, false, Result, MatchResult}
use Rattle.table.specs.declared.refusals.Refusal.{Refusal}
use Rattle.table.specs.declared.refusals.Refusal.TheVariants.{UnknownCommand}
use Rattle.tape.specs.Tapes.{is_command}
use Rattle.tape.specs.declared.opcode.Opcode.{Opcode}
use Rattle.tape.specs.declared.opcode.Opcode.TheVariants as opcode

abbrev pub byte_for : Opcode → ℕ
byte_for opcode.Put = 1
byte_for opcode.TakeOut = 2
byte_for opcode.EdgeJoin = 3
byte_for opcode.EdgeCut = 4
byte_for opcode.VertexJoin = 5
byte_for opcode.VertexCut = 6
byte_for opcode.Report = 7
byte_for opcode.RingCut = 8

-- what a byte is read as
abbrev pub IsOpcode : (byte : ℕ) → Result Opcode Refusal → Type 0
IsOpcode b r = MatchResult r (λ o. b ≡ byte_for o) (λ e. (e ≡ UnknownCommand) × (is_command b ≡ false))
