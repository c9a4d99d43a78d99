-- What an accepted report promises of its lifts. Document 02, Job 2.
use Rattle.std.specs.Prelude.{◌≡◌, ◌+◌, length}
use Rattle.table.specs.Layout.{Table, hypermap_of}
use Rattle.parts.specs.Counts.{alone_darts}
use Rattle.kernel.specs.Calls.{report_of}

-- they are the components less the darts that are alone
abbrev pub LiftsPromise : Type 0
LiftsPromise =
    (w : Table) → (report_of w).number ≡ 0 →
    (report_of w).lifts + length (alone_darts (hypermap_of w)) ≡ (report_of w).components
