use mathlib.Core.Path.{◌≡◌, ap, ◌∙◌}
use native.Mathlib.Omega.{arith}
use mir.Syntax.{w32}
use mir.Val.{of_z, to_z}
use borrow.Author.Rules.{rules}
use Rattle.std.specs.List.{flat_map}
use Rattle.writer.proofs.Screening.{complement_is, numbers_flat, answer_laid, tape_written}
use Rattle.writer.proofs.Laying.{lays_length}
use Rattle.writer.proofs.Sizes.{tape_fits}
use Rattle.writer.proofs.screen.write_answer.Goals as goal

pub unwrap-requires : goal.unwrap-requires
unwrap-requires c =
    let f = tape_fits _ c.requires.table.hypermap c.requires.table.room in
    tape_written _ c.args.out.now _ _ _ (omega (arith, c.requires.room)) (lays_length c.write_bytes-end.ensures)
    c.write_tape.ensures.value

-- the characteristic is read back from the bits of an i32
pub returns : goal.returns
returns c =
    let x = c.counts-c.result.characteristic in
    let z : of_z w32 (to_z w32 (of_z w32 x)) ≡ of_z w32 x = search rules in
    let h = c.as_flattened.ensures.value ∙ ap (flat_map (λ bs. bs)) c.numbers_in_bytes-head.ensures ∙ numbers_flat _ in
    answer_laid _ _ _ c.counts-c.result _ _ _ _ _ c.into.ensures c.counts-c.ensures
    (c.cast_unsigned.ensures ∙ z ∙ complement_is x) c.requires.room
    (tape_fits _ c.requires.table.hypermap c.requires.table.room) h c.write_bytes-end.ensures
    c.write_tape.ensures.out
