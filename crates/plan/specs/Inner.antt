-- What the program's functions write.
use Rattle.std.specs.Prelude.{List, ℕ}
use Rattle.table.specs.Layout.{Table, hypermap_of}
use Rattle.parts.specs.Counts.{counts_of}
use Rattle.tape.specs.declared.Instruction.{Instruction}
use Rattle.tape.specs.declared.Instruction.TheVariants as instruction
use Rattle.plan.specs.Lines.{ok_line, report_line}

-- the line of an accepted instruction that leaves the table w
abbrev pub instruction_line : Table → Instruction → List ℕ
instruction_line w (instruction.Change c) = ok_line
instruction_line w instruction.Report = report_line (counts_of (hypermap_of w))
instruction_line w (instruction.RingCut n) = ok_line
