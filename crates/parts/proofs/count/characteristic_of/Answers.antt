use Rattle.std.proofs.Common.{◌≡◌, ℕ, ◌≤◌, ◌∙◌, w32, to_z, pos, arith}
use Rattle.std.proofs.lemmas.Int.{ints, to_z_pos}
use Rattle.table.specs.Limits.{max_capacity}
use Rattle.parts.proofs.count.characteristic_of.Goals as goal

-- a count of few is the same number when it is signed
signed : (n : ℕ) → n ≤ max_capacity → to_z w32 n ≡ pos n
signed n few = to_z_pos w32 n (omega arith)

pub returns : goal.returns
returns c =
    let few = c.requires in
    let v = c.cast_signed.ensures ∙ signed _ few.vertices in
    let e = c.cast_signed-2.ensures ∙ signed _ few.edges in
    let f = c.cast_signed-3.ensures ∙ signed _ few.faces in
    let d = c.cast_signed-4.ensures ∙ signed _ few.darts in
    omega (arith, ints, v, e, f, d)
