use Rattle.std.proofs.Common.{◌≡◌, ap, ◌∙◌, ℕ, List, length, w32, to_z-of_z}
use Rattle.hypermap.specs.Hypermap.{edges, vertices}
use Rattle.parts.specs.MarkedSets.{MarkedParts, flooded_of, marked_in, Raised}
use Rattle.parts.specs.declared.Flooded.{Flooded}
use Rattle.parts.proofs.MarkedSets.{marked_hypermap, marked_few, raised_is}
use Rattle.parts.proofs.Reporting.{Named, counts_few, counts_genus, counts_are}
use Rattle.parts.proofs.count.marked_counts.Goals as goal

-- the counts of one set, which has the next mark once its vertices are counted
named :
    (w m n : List ℕ) (found : Flooded) (d e v : ℕ) → MarkedParts w m found → d ≡ length (marked_in w m 1).darts →
    v ≡ vertices (marked_in w m 1) → length n ≡ length m → Raised 1 m n → e ≡ edges (marked_in w n 2) →
    Named (marked_in w m 1) d e v found.faces
unfolding flooded_of
named w m n found d e v p is_d is_v s r is_e = record {
  wf = marked_hypermap _ _ _ p.set;
  few = marked_few _ _ _ p.set;
  is_darts = is_d;
  is_edges = is_e ∙ ap edges (raised_is _ _ _ p.set _ s r);
  is_vertices = is_v;
  is_faces = ap (λ f. f.faces) p.floods;
}

pub characteristic_of-characteristic-requires : goal.characteristic_of-characteristic-requires
characteristic_of-characteristic-requires c =
    let v = c.count_orbits-vertices in
    counts_few _ _ _ _ _
    (named _ _ _ _ _ _ _ c.requires c.count_marked-darts.ensures v.ensures.value v.auto.marks v.ensures.marks
    c.count_edges-edges.ensures)

-- the characteristic is read back as it was returned
pub genus_of-genus-requires : goal.genus_of-genus-requires
unfolding flooded_of
genus_of-genus-requires c =
    let v = c.count_orbits-vertices in
    let z = c.characteristic_of-characteristic in
    counts_genus _ _ _ _ _
    (named _ _ _ _ _ _ _ c.requires c.count_marked-darts.ensures v.ensures.value v.auto.marks v.ensures.marks
    c.count_edges-edges.ensures) _ (ap (λ f. f.components) c.requires.floods) _
    (to_z-of_z {w = w32} (record { sfits = z.type_inv }) ∙ z.ensures)

pub returns : goal.returns
unfolding flooded_of
returns c =
    let p = c.requires in
    let v = c.count_orbits-vertices in
    let z = c.characteristic_of-characteristic in
    counts_are _ _ _ _ _
    (named _ _ _ _ _ _ _ p c.count_marked-darts.ensures v.ensures.value v.auto.marks v.ensures.marks
    c.count_edges-edges.ensures) _ (ap (λ f. f.components) p.floods) _
    (to_z-of_z {w = w32} (record { sfits = z.type_inv }) ∙ z.ensures)
    _ _ c.genus_of-genus.ensures (ap (λ f. f.lifts) p.floods)
