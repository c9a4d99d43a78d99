-- A report's lifts are the components less the darts that are alone: its table is sound, so the law of lifts applies.
use Rattle.table.specs.Layout.{hypermap_of}
use Rattle.table.proofs.Holding.{table_hypermap}
use Rattle.parts.proofs.Lifting.{lifts_law}
use Rattle.promises.specs.Lifts.{LiftsPromise}
use Rattle.soundness.proofs.Passing.{table_passed}
use Rattle.promises.proofs.Accepted.{plan_reported, report_passed}

pub lifts_promise : LiftsPromise
lifts_promise w e =
    let t = report_passed w e in
    let r = plan_reported w t in
    rw (r.lifts, r.components) (lifts_law (hypermap_of w) (table_hypermap w (table_passed w t).hypermap))
