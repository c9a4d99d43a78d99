use Rattle.std.proofs.Common.{rules, ◌-◌, sym, ap, ◌∙◌}
use Rattle.tape.specs.Runs.{told_of}
use Rattle.tape.proofs.Playing.{kept_on, stopped_after}
use Rattle.journal.proofs.Undoings.{going_end, going_stop, going_on}
use Rattle.journal.proofs.undo.undo_back.Goals as goal

pub returns-in_err-map_err : goal.returns-in_err-map_err
returns-in_err-map_err c =
    let m = c.in_err-map_err.ensures in
    let s = stopped_after _ _ c.undo_entry.result (c.args.used - 1 - (c.loop-n.n-counter - 1)) _ _ m.cases
    (λ d o. search rules) c.from_residual.ensures.1 m.variant in
    let e = going_stop _ _ _ _ _ _ c.loop-n.invariant c.loop-n-test.true _ _ c.undo_entry.ensures.value
    c.undo_entry.ensures.table s.0 in
    record { value = s.1 ∙ ap told_of (sym e); table = ap (λ o. o.state) (sym e) }

pub loop-n-preserved : goal.loop-n-preserved
loop-n-preserved c = going_on _ _ _ _ _ _ c.loop-n.invariant c.loop-n-test.true _ _ c.undo_entry.ensures.value
    c.undo_entry.ensures.table (kept_on _ c.in_ok-map_err.ensures.variant)

pub returns : goal.returns
returns c =
    let e = going_end _ _ _ _ _ _ c.loop-n.invariant c.loop-n-test.false in
    record { value = ap told_of (sym e); table = ap (λ o. o.state) (sym e) }
