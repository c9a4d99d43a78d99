use Rattle.std.proofs.Common.{rules, sym, ap, ◌∙◌}
use Rattle.tape.specs.Runs.{told_of}
use Rattle.tape.proofs.Playing.{nothing_left, something_left, first_fits, first_rest, playing_end, playing_stopped}
use Rattle.tape.proofs.Playing.{playing_on, kept_on, kept_value, stopped_after}
use Rattle.tape.proofs.play.play.Goals as goal

pub returns-in_err-size : goal.returns-in_err-size
returns-in_err-size g c =
    let m = c.in_err-size.ensures in
    let i = c.loop-rest.invariant in
    let s = stopped_after _ _ c.play_first.result c.loop-rest.accepted _ _ m.cases
    (λ d o. search rules) c.from_residual.ensures.1 m.variant in
    let e = playing_stopped g.M.Machine.rule _ _ _ _ _ i.0
    (something_left _ _ c.is_empty.ensures c.loop-rest-test.true) _ c.play_first.ensures.value _
    c.play_first.ensures.state s.0 in
    record {
      value = s.1 ∙ ap told_of (sym e);
      state = ap (λ o. o.state) (sym e);
      names = c.play_first.ensures.names ∙ i.1;
    }

pub slice_bounds-rest-count : goal.slice_bounds-rest-count
slice_bounds-rest-count g c =
    let m = c.in_ok-size.ensures in
    let w = kept_value _ _ c.play_first.result (c.in_ok-size.field-0-0, c.in_ok-size.size) _ m.cases
    (λ x o. search rules) c.play_first.ensures.first m.variant in
    first_fits g.M.Machine.rule _ _ (sym c.play_first.ensures.value ∙ kept_on _ m.variant) _ w.1

pub slice_bounds-rest-start : goal.slice_bounds-rest-start
slice_bounds-rest-start g c = slice_bounds-rest-count g c

pub loop-rest-smaller : goal.loop-rest-smaller
loop-rest-smaller g c =
    let m = c.in_ok-size.ensures in
    let w = kept_value _ _ c.play_first.result (c.in_ok-size.field-0-0, c.in_ok-size.size) _ m.cases
    (λ x o. search rules) c.play_first.ensures.first m.variant in
    first_rest g.M.Machine.rule _ _ (sym c.play_first.ensures.value ∙ kept_on _ m.variant) _ w.1
    (something_left _ _ c.is_empty.ensures c.loop-rest-test.true)

pub loop-rest-preserved : goal.loop-rest-preserved
loop-rest-preserved g c =
    let m = c.in_ok-size.ensures in
    let w = kept_value _ _ c.play_first.result (c.in_ok-size.field-0-0, c.in_ok-size.size) _ m.cases
    (λ x o. search rules) c.play_first.ensures.first m.variant in
    let i = c.loop-rest.invariant in (
      playing_on g.M.Machine.rule _ _ _ _ _ i.0
          (something_left _ _ c.is_empty.ensures c.loop-rest-test.true) _ c.play_first.ensures.value _
          c.play_first.ensures.state (kept_on _ m.variant) _ w.1,
      c.play_first.ensures.names ∙ i.1,
    )

pub returns : goal.returns
returns g c =
    let i = c.loop-rest.invariant in
    let e = playing_end g.M.Machine.rule _ _ _ _ _ i.0
    (nothing_left _ _ c.is_empty.ensures c.loop-rest-test.false) in
    record { value = ap told_of (sym e); state = ap (λ o. o.state) (sym e); names = i.1 }
