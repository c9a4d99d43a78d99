-- Document 01's plans to check hold, every row of their table: the checker computes it.
use mathlib.Core.Path.{refl}
use Rattle.lists.specs.Lists.{all, among, index_of, keep, least_of, up_from}
use Rattle.hypermap.specs.Hypermap.{walk_from, spread, spread_by}
use Rattle.hypermap.specs.Ring.{no_two, last_of, continuity}
use Rattle.table.specs.Refusals.{or_else, unless}
use Rattle.table.specs.Layout.{word_at, is_present, is_absent, words_linked, dart_fits, holds_hypermap}
use Rattle.table.specs.Commands.{with_word, with_all, swapped, presence_refusal, is_together, leaves}
use Rattle.parts.specs.Marks.{mark_of, marks_of}
use Rattle.parts.specs.Counts.{counts_of}
use Rattle.rings.specs.Rings.{links_of, is_list, pairs_together, path_closes, condition_refusal, ring_refusal}
use Rattle.rings.specs.Rings.{cut_along}
use Rattle.tape.specs.Tapes.{tape_bytes}
use Rattle.writer.specs.Canonical.{orbit_joins, joins_over, puts_of, tape_of}
use Rattle.soundness.specs.Soundness.{size_fits, is_sound, table_refusal}
use Rattle.kernel.specs.Calls.{call_refusal, call_leaves, ring_call_refusal, ring_call_leaves, report_on}
use Rattle.kernel.specs.Tapes.{empty_table}
use Rattle.promises.specs.Plans.{PlansPromise, same_numbers, faces_fit, row_fits, rows}

pub plans_promise : PlansPromise
unfolding all among index_of keep least_of walk_from spread spread_by no_two last_of continuity or_else
    unless up_from word_at is_present is_absent words_linked dart_fits holds_hypermap with_word with_all swapped
    presence_refusal is_together leaves mark_of marks_of counts_of links_of is_list pairs_together path_closes
    condition_refusal ring_refusal cut_along tape_bytes orbit_joins joins_over puts_of tape_of size_fits is_sound
    table_refusal call_refusal call_leaves ring_call_refusal ring_call_leaves report_on empty_table same_numbers
    faces_fit row_fits rows
plans_promise = refl
