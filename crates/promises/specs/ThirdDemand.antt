-- The customer's third demand, about the public calls, in the customer's words.
use Rattle.std.specs.Prelude.{◌≡◌, ◌⊎◌, ◌↔◌, true, false, List, ◌∷◌, ℕ, suc, ◌*◌, pos, negsuc, ◌-ℤ◌, ◌≤ℤ◌}
use Rattle.hypermap.specs.Hypermap.{Dimension}
use Rattle.hypermap.specs.Change.{marking}
use Rattle.hypermap.specs.Ring.{DoubleLink}
use Rattle.hypermap.specs.RingLaws.{IsParted}
use Rattle.table.specs.Layout.{Table, hypermap_of}
use Rattle.table.specs.Commands.{joins}
use Rattle.parts.specs.Sharing.{is_same}
use Rattle.parts.specs.declared.Part.TheVariants.{Face, Component}
use Rattle.rings.specs.Rings.{links_of}
use Rattle.kernel.specs.Calls.{call_refusal, call_leaves, report_of, ring_call_refusal, ring_call_leaves}
use Rattle.kernel.specs.Calls.{component_report_of}

-- DEMAND 3
-- "For every sound plan, twice its pieces less its characteristic is even and never negative; half of it is the
-- handles, as an accepted report gives them"; and the characteristic is never below −4,092 nor above 8,192
pub record GenusReported (w : Table) : Type 0 where
  pub half : pos (2 * (report_of w).components) -ℤ (report_of w).characteristic ≡ pos (2 * (report_of w).genus)
  pub lowest : negsuc 4091 ≤ℤ (report_of w).characteristic
  pub highest : (report_of w).characteristic ≤ℤ pos 8192

abbrev pub GenusDemand : Type 0
GenusDemand = (w : Table) → (report_of w).number ≡ 0 → GenusReported w

-- "its two tabs lie in different pieces or its two marking tabs lie in one gap"
abbrev pub JoinsFreely : Table → Dimension → (a b : ℕ) → Type 0
JoinsFreely w k a b =
    (is_same w Component a b ≡ false) ⊎
    (is_same w Face (marking (hypermap_of w) k a) (marking (hypermap_of w) k b) ≡ true)

-- "Every accepted join adds no handle exactly when, before it, .. ; otherwise exactly one": what the reports before and
-- after it give
abbrev pub JoinDemand : Type 0
JoinDemand =
    (w : Table) (k : Dimension) (a b : ℕ) → call_refusal w (joins k a b) ≡ 0 →
    ((report_of (call_leaves w (joins k a b))).number ≡ 0) ×
    ((report_of (call_leaves w (joins k a b))).genus ≡ (report_of w).genus ↔ JoinsFreely w k a b) ×
    ((JoinsFreely w k a b → ⊥) → (report_of (call_leaves w (joins k a b))).genus ≡ suc (report_of w).genus)

-- "The ring guarantee shall need only that the ring's own piece is flat: it parts in two flat pieces and all other
-- pieces keep their tabs and handles": flat by the report of its first tab's piece, before and after. Every other
-- piece keeps its whole report
pub record IsPartedByReports (w v : Table) (l : DoubleLink) (ls : List DoubleLink) : Type 0 where
  pub parted : IsParted (hypermap_of w) (hypermap_of v) l ls
  pub before : (component_report_of w l.first).number ≡ 0
  pub first : ((component_report_of v l.first).number ≡ 0) × ((component_report_of v l.first).genus ≡ 0)
  pub second : ((component_report_of v l.second).number ≡ 0) × ((component_report_of v l.second).genus ≡ 0)
  pub others :
      (x : ℕ) → (component_report_of w x).number ≡ 0 → is_same w Component l.first x ≡ false →
      component_report_of v x ≡ component_report_of w x

abbrev pub ComponentRingDemand : Type 0
ComponentRingDemand =
    (w : Table) (ring : List ℕ) (l : DoubleLink) (ls : List DoubleLink) → ring_call_refusal w ring ≡ 0 →
    links_of ring ≡ l ∷ ls → (component_report_of w l.first).genus ≡ 0 →
    IsPartedByReports w (ring_call_leaves w ring) l ls

-- a ring cut has parted the component of its first double-link, as `IsParted` says
pub record IsRingCut (w v : Table) (ring : List ℕ) : Type 0 where
  pub link : DoubleLink
  pub links : List DoubleLink
  pub listed : links_of ring ≡ link ∷ links
  pub parted : IsParted (hypermap_of w) (hypermap_of v) link links

-- and so: "On every flat plan every accepted ring cut, whatever its number of crossings, parts the ring's piece in
-- exactly two, one with all the first tabs, the other with all the second tabs; every other piece keeps its tabs, and
-- the plan stays flat": flat by the reports before and after it
abbrev pub RingDemand : Type 0
RingDemand =
    (w : Table) (ring : List ℕ) → ring_call_refusal w ring ≡ 0 → (report_of w).genus ≡ 0 →
    IsRingCut w (ring_call_leaves w ring) ring × ((report_of (ring_call_leaves w ring)).number ≡ 0) ×
    ((report_of (ring_call_leaves w ring)).components ≡ suc (report_of w).components) ×
    ((report_of (ring_call_leaves w ring)).genus ≡ 0)

-- DEMAND 3, whole
pub record ThirdDemand : Type 0 where
  pub genus : GenusDemand
  pub joins : JoinDemand
  pub component_rings : ComponentRingDemand
  pub rings : RingDemand
