-- What holds of canonical tapes: each law is a type, and its proof a term of that type in proofs/.
use Rattle.std.specs.Prelude.{◌≡◌, true, ◌+◌, ◌*◌, length, replicate}
use Rattle.hypermap.specs.Hypermap.{edges, vertices}
use Rattle.table.specs.Limits.{words_per_dart}
use Rattle.table.specs.Layout.{Table, capacity, holds_hypermap, hypermap_of}
use Rattle.table.specs.Runs.{Outcome}
use Rattle.tape.specs.Runs.{run_of}
use Rattle.writer.specs.Canonical.{commands_of, tape_of}

-- the bytes of a canonical tape; with as many darts as the greatest table has room for there are at most
-- `longest_canonical` of them
abbrev pub SizeLaw : Type 0
SizeLaw =
    (w : Table) → holds_hypermap w ≡ true →
    length (tape_of w) + 5 * (edges (hypermap_of w) + vertices (hypermap_of w)) ≡ 13 * length (hypermap_of w).darts

-- a canonical tape, played on an empty table of the same size, is accepted whole and builds the table
pub record IsBuilt (w : Table) (o : Outcome Table) : Type 0 where
  pub whole : o.number ≡ 0
  pub all : o.accepted ≡ length (commands_of w)
  pub same : o.state ≡ w

abbrev pub BuildLaw : Type 0
BuildLaw =
    (w : Table) → holds_hypermap w ≡ true → length w ≡ words_per_dart * capacity w →
    IsBuilt w (run_of (replicate (length w) 0) (tape_of w))

-- unequal tables of one size never share a tape
abbrev pub OnlyTapeLaw : Type 0
OnlyTapeLaw =
    (v w : Table) → holds_hypermap v ≡ true → holds_hypermap w ≡ true → length v ≡ words_per_dart * capacity v →
    length v ≡ length w → tape_of v ≡ tape_of w → v ≡ w
