use Rattle.std.proofs.Common.{ap, sym, ◌∙◌}
use Rattle.table.specs.Limits.{max_capacity}
use Rattle.parts.specs.Counts.{counts_of}
use Rattle.parts.specs.MarkedSets.{flooded_of}
use Rattle.parts.proofs.MarkedSets.{all_set, all_is}
use Rattle.parts.proofs.count.counts.Goals as goal

pub marked_counts-requires : goal.marked_counts-requires
marked_counts-requires c =
    let p = c.requires in
    let f = c.flood_all-found in
    let is = all_is _ p.hypermap p.room max_capacity p.room _ f.auto.marks f.ensures.marks in
    record {
      set = all_set _ p.hypermap p.room max_capacity p.room _ f.auto.marks f.ensures.marks;
      floods = f.ensures.value ∙ ap flooded_of (sym is);
    }

pub returns : goal.returns
returns c =
    let p = c.requires in
    let f = c.flood_all-found in
    c.marked_counts.ensures ∙ ap counts_of
    (all_is _ p.hypermap p.room max_capacity p.room _ f.auto.marks f.ensures.marks)
