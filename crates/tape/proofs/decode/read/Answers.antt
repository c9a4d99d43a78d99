use Rattle.std.proofs.Common.{[], sym, ◌∙◌, ap, arith, refl}
use Rattle.tape.specs.Opcodes.{byte_for}
use Rattle.tape.specs.Tapes.{numbers_from}
use Rattle.tape.specs.declared.opcode.Opcode.TheVariants as opcode
use Rattle.tape.specs.declared.Instruction.TheVariants as instruction
use Rattle.table.specs.declared.Change.TheVariants as change
use Rattle.tape.proofs.Decoding.{torn_reads, whole_reads, unknown_refusal, some_byte}
use Rattle.tape.proofs.decode.read.Goals as goal

pub returns-in_default : goal.returns-in_default
returns-in_default c = unknown_refusal _ (rw c.byte_at.ensures at c.in_default.ensures.1)

pub returns-in_err-x-in-Put : goal.returns-in_err-x-in-Put
returns-in_err-x-in-Put c =
    torn_reads _ _ c.byte_at.ensures _ c.in-Ok.ensures opcode.Put c.in-Put.is (omega arith) _ _
    c.from_residual.ensures.1 c.in_err-x-in-Put.ensures

pub returns-in_ok-x-in-Put : goal.returns-in_ok-x-in-Put
returns-in_ok-x-in-Put c =
    rw c.change.ensures
    (whole_reads _ _ c.byte_at.ensures _ c.in-Ok.ensures opcode.Put c.in-Put.is (omega arith) _
    c.in_ok-x-in-Put.ensures (instruction.Change (change.Put c.into.result))
    (rw c.into.ensures) _ refl)

pub returns-in_err-x-in-TakeOut : goal.returns-in_err-x-in-TakeOut
returns-in_err-x-in-TakeOut c =
    torn_reads _ _ c.byte_at.ensures _ c.in-Ok.ensures opcode.TakeOut c.in-TakeOut.is (omega arith) _ _
    c.from_residual-in_err-x-in-TakeOut.ensures.1 c.in_err-x-in-TakeOut.ensures

pub returns-in_ok-x-in-TakeOut : goal.returns-in_ok-x-in-TakeOut
returns-in_ok-x-in-TakeOut c =
    rw c.change-in-TakeOut.ensures
    (whole_reads _ _ c.byte_at.ensures _ c.in-Ok.ensures opcode.TakeOut c.in-TakeOut.is (omega arith) _
    c.in_ok-x-in-TakeOut.ensures (instruction.Change (change.TakeOut c.into-in-TakeOut.result))
    (rw c.into-in-TakeOut.ensures) _ refl)

pub returns-in_err-a-in-EdgeJoin : goal.returns-in_err-a-in-EdgeJoin
returns-in_err-a-in-EdgeJoin c =
    torn_reads _ _ c.byte_at.ensures _ c.in-Ok.ensures opcode.EdgeJoin c.in-EdgeJoin.is (omega arith) _ _
    c.from_residual-in_err-a-in-EdgeJoin.ensures.1 c.in_err-a-in-EdgeJoin.ensures

pub returns-in_ok-a-in-EdgeJoin : goal.returns-in_ok-a-in-EdgeJoin
returns-in_ok-a-in-EdgeJoin c =
    rw c.change-in-EdgeJoin.ensures
    (whole_reads _ _ c.byte_at.ensures _ c.in-Ok.ensures opcode.EdgeJoin c.in-EdgeJoin.is (omega arith) _
    c.in_ok-a-in-EdgeJoin.ensures
    (instruction.Change (change.EdgeJoin c.into-in-EdgeJoin.result c.into-in-EdgeJoin-2.result))
    (rw (c.into-in-EdgeJoin.ensures, c.into-in-EdgeJoin-2.ensures)) _ refl)

pub returns-in_err-a-in-EdgeCut : goal.returns-in_err-a-in-EdgeCut
returns-in_err-a-in-EdgeCut c =
    torn_reads _ _ c.byte_at.ensures _ c.in-Ok.ensures opcode.EdgeCut c.in-EdgeCut.is (omega arith) _ _
    c.from_residual-in_err-a-in-EdgeCut.ensures.1 c.in_err-a-in-EdgeCut.ensures

pub returns-in_ok-a-in-EdgeCut : goal.returns-in_ok-a-in-EdgeCut
returns-in_ok-a-in-EdgeCut c =
    rw c.change-in-EdgeCut.ensures
    (whole_reads _ _ c.byte_at.ensures _ c.in-Ok.ensures opcode.EdgeCut c.in-EdgeCut.is (omega arith) _
    c.in_ok-a-in-EdgeCut.ensures
    (instruction.Change (change.EdgeCut c.into-in-EdgeCut.result c.into-in-EdgeCut-2.result))
    (rw (c.into-in-EdgeCut.ensures, c.into-in-EdgeCut-2.ensures)) _ refl)

pub returns-in_err-a-in-VertexJoin : goal.returns-in_err-a-in-VertexJoin
returns-in_err-a-in-VertexJoin c =
    torn_reads _ _ c.byte_at.ensures _ c.in-Ok.ensures opcode.VertexJoin c.in-VertexJoin.is (omega arith) _ _
    c.from_residual-in_err-a-in-VertexJoin.ensures.1 c.in_err-a-in-VertexJoin.ensures

pub returns-in_ok-a-in-VertexJoin : goal.returns-in_ok-a-in-VertexJoin
returns-in_ok-a-in-VertexJoin c =
    rw c.change-in-VertexJoin.ensures
    (whole_reads _ _ c.byte_at.ensures _ c.in-Ok.ensures opcode.VertexJoin c.in-VertexJoin.is (omega arith) _
    c.in_ok-a-in-VertexJoin.ensures
    (instruction.Change (change.VertexJoin c.into-in-VertexJoin.result c.into-in-VertexJoin-2.result))
    (rw (c.into-in-VertexJoin.ensures, c.into-in-VertexJoin-2.ensures)) _ refl)

pub returns-in_err-a-in-VertexCut : goal.returns-in_err-a-in-VertexCut
returns-in_err-a-in-VertexCut c =
    torn_reads _ _ c.byte_at.ensures _ c.in-Ok.ensures opcode.VertexCut c.in-VertexCut.is (omega arith) _ _
    c.from_residual-in_err-a-in-VertexCut.ensures.1 c.in_err-a-in-VertexCut.ensures

pub returns-in_ok-a-in-VertexCut : goal.returns-in_ok-a-in-VertexCut
returns-in_ok-a-in-VertexCut c =
    rw c.change-in-VertexCut.ensures
    (whole_reads _ _ c.byte_at.ensures _ c.in-Ok.ensures opcode.VertexCut c.in-VertexCut.is (omega arith) _
    c.in_ok-a-in-VertexCut.ensures
    (instruction.Change (change.VertexCut c.into-in-VertexCut.result c.into-in-VertexCut-2.result))
    (rw (c.into-in-VertexCut.ensures, c.into-in-VertexCut-2.ensures)) _ refl)

pub returns-in-Report : goal.returns-in-Report
unfolding numbers_from
returns-in-Report c =
    let e = c.in-Ok.ensures ∙ ap byte_for c.in-Report.is in
    let some = some_byte c.args.tape.now _ (sym e ∙ c.byte_at.ensures) (omega arith) in
    whole_reads _ _ c.byte_at.ensures _ c.in-Ok.ensures opcode.Report c.in-Report.is (omega arith) []
    (omega (arith, some), refl) instruction.Report refl _ c.size.ensures
