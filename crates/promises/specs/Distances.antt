-- What the questions same edge and same vertex promise of their count. Document 02, Job 6: "The same-tie and same-cell
-- questions now answer the fewest follower steps from the first tab to the second, 0 for a tab and itself, or apart.
-- Joins, cuts and rings rest on it and accept the same calls."
use Rattle.std.specs.Prelude.{◌≡◌, ◌↔◌, true, false, List, ℕ, ◌<◌, ltb}
use Rattle.lists.specs.Lists.{all}
use Rattle.hypermap.specs.Hypermap.{Dimension, edge, vertex, Hypermap}
use Rattle.hypermap.specs.Laws.{iterate, Reaches, SameOrbitLaw}
use Rattle.table.specs.Layout.{Table, capacity, hypermap_of}
use Rattle.table.specs.Commands.{joins, cuts}
use Rattle.parts.specs.declared.Part.{Part}
use Rattle.parts.specs.declared.Part.TheVariants.{Edge, Vertex, Face, Component}
use Rattle.rings.specs.Rings.{links_of}
use Rattle.kernel.specs.Calls.{call_refusal, ring_call_refusal, same_answer}
use Rattle.kernel.specs.declared.Answer.{Answer}

-- the question same edge or same vertex
abbrev pub part_of : Dimension → Part
part_of edge = Edge
part_of vertex = Vertex

abbrev pub asked : Table → Dimension → (a b : ℕ) → Answer
asked w k a b = same_answer w (part_of k) a b

pub record TellsDistance (m : Hypermap) (k : Dimension) (a b : ℕ) (r : Answer) : Type 0 where
  pub leads : r.yes ≡ true → iterate r.count (m.next k) a ≡ b
  pub fewest : (n : ℕ) → n < r.count → iterate n (m.next k) a ≡ b → ⊥
  pub itself : r.yes ≡ true → (r.count ≡ 0) ↔ (a ≡ b)
  pub apart : r.yes ≡ false → (r.count ≡ 0) × (Reaches (m.next k) a b → ⊥)

pub record DistancePromise : Type 0 where
  pub told :
      (w : Table) (k : Dimension) (a b : ℕ) → (asked w k a b).number ≡ 0 →
      TellsDistance (hypermap_of w) k a b (asked w k a b)
  pub short : (w : Table) (k : Dimension) (a b : ℕ) → (asked w k a b).number ≡ 0 → (asked w k a b).count < capacity w
  pub other_parts : (w : Table) (a b : ℕ) → ((same_answer w Face a b).count ≡ 0) ×
      ((same_answer w Component a b).count ≡ 0)
  -- "Joins, cuts and rings rest on it": a join asks that the darts are apart, a cut and each double-link of a ring that
  -- the distance is not 0
  pub joins :
      (w : Table) (k : Dimension) (a b : ℕ) →
      (call_refusal w (joins k a b) ≡ 0) ↔ (((asked w k a b).number ≡ 0) × ((asked w k a b).yes ≡ false))
  pub cuts :
      (w : Table) (k : Dimension) (a b : ℕ) →
      (call_refusal w (cuts k a b) ≡ 0) ↔ (((asked w k a b).number ≡ 0) × (0 < (asked w k a b).count))
  pub rings :
      (w : Table) (ring : List ℕ) → ring_call_refusal w ring ≡ 0 →
      all (λ l. ltb 0 (asked w edge l.first l.second).count) (links_of ring) ≡ true
  -- "and accept the same calls": to be in the same orbit is to be listed in it, as before
  pub accept : SameOrbitLaw
