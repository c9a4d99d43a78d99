use Rattle.std.proofs.Common.{◌≡◌, ℕ, ap, refl, sym, ◌∙◌, arith}
use Rattle.hypermap.specs.Hypermap.{Hypermap, faces, components}
use Rattle.hypermap.proofs.Laws.ComponentGenus.{is_connected}
use Rattle.table.specs.Limits.{max_capacity}
use Rattle.table.specs.Layout.{hypermap_of}
use Rattle.table.proofs.Holding.{mem_present, table_hypermap}
use Rattle.parts.specs.Counts.{lifts, counts_of}
use Rattle.parts.specs.MarkedSets.{flooded_of}
use Rattle.parts.proofs.FloodEnds.{unmarked_zeros}
use Rattle.parts.proofs.MarkedSets.{component_set, component_is}
use Rattle.parts.proofs.count.component_counts.Goals as goal

-- what is found where a hypermap is one component
one_flooded :
    (m : Hypermap) (l f : ℕ) → components m ≡ 1 → l ≡ lifts m → f ≡ faces m →
    flooded_of m ≡ record { components = 1; lifts = l; faces = f }
unfolding flooded_of
one_flooded m l f is_one is_l is_f = rw (is_one, is_l, is_f) refl

pub flood-requires : goal.flood-requires
flood-requires c =
    let p = c.requires in
    unmarked_zeros _ _ _ p.at (omega arith) max_capacity p.room p.room

pub marked_counts-requires : goal.marked_counts-requires
marked_counts-requires c =
    let p = c.requires in
    let f = c.flood in
    let is = component_is _ p.at.hypermap p.room max_capacity p.room _ f.auto.marks _ p.at.here f.ensures.marks in
    let connected = is_connected (hypermap_of _) (table_hypermap _ p.at.hypermap) _ (mem_present _ _ ∙ p.at.here) in
    record {
      set = component_set _ p.at.hypermap p.room max_capacity p.room _ f.auto.marks _ p.at.here f.ensures.marks;
      floods = sym (ap flooded_of is ∙ one_flooded _ _ _ connected.one c.component_lifts.ensures f.ensures.value);
    }

pub returns : goal.returns
returns c =
    let p = c.requires in
    let f = c.flood in
    c.marked_counts.ensures ∙
    ap counts_of (component_is _ p.at.hypermap p.room max_capacity p.room _ f.auto.marks _ p.at.here f.ensures.marks)
