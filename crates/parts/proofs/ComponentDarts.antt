-- The darts of the component of a dart: they are darts, and with each of them its face lies in the component.
use mathlib.Core.Path.{◌≡◌, refl}
use mathlib.Core.Bool.{true}
use Prim.Native.Nat.{ℕ, ◌≤◌}
use Rattle.lists.proofs.Lists.{Mem}
use Rattle.hypermap.specs.Hypermap.{is_hypermap, face, step, same_component}
use Rattle.hypermap.specs.Laws.{Equivalence, in_orbit, Closed}
use Rattle.hypermap.proofs.Hypermaps.Restricting.{closed_orbit, component_closed}
use Rattle.hypermap.proofs.Laws.Components.{component_law}
use Rattle.hypermap.proofs.Laws.Orbits.{orbit_law}
use Rattle.table.specs.Layout.{Table, is_present, holds_hypermap, hypermap_of}
use Rattle.table.specs.Inner.{HypermapAt}
use Rattle.table.proofs.Holding.{low, mem_present, table_hypermap}

pub component_parts :
    (w : Table) → holds_hypermap w ≡ true → Equivalence (hypermap_of w).darts (same_component (hypermap_of w))
component_parts w s = (component_law (hypermap_of w) (table_hypermap w s)).1

module _ {w : Table} {x : ℕ} (k : HypermapAt w x) where
  abbrev pub Same : ℕ → Type 0
  Same y = same_component (hypermap_of w) x y ≡ true

  pub wf : is_hypermap (hypermap_of w) ≡ true
  wf = table_hypermap w k.hypermap

  pub start : Mem x (hypermap_of w).darts
  start = rw mem_present k.here

  pub same_self : Same x
  same_self = (component_parts w k.hypermap).reflexive x start

  pub same_mem : (y : ℕ) → Same y → Mem y (hypermap_of w).darts
  same_mem y s = (component_parts w k.hypermap).within x y start s

  pub same_dart : (y : ℕ) → Same y → is_present w y ≡ true
  same_dart y s = rw mem_present at (same_mem y s)

  pub same_low : (y : ℕ) → Same y → 1 ≤ y
  same_low y s = low w y (same_dart y s)

  pub closed : Closed (hypermap_of w) (same_component (hypermap_of w) x)
  closed = component_closed (hypermap_of w) wf x start

  pub same_around : (y z : ℕ) → Same y → in_orbit (hypermap_of w) face y z ≡ true → Same z
  same_around y z s i = closed_orbit (hypermap_of w) wf (same_component (hypermap_of w) x) closed face y z
      (same_mem y s) s i

  pub around : (y : ℕ) → Same y → in_orbit (hypermap_of w) face y (step (hypermap_of w) face y) ≡ true
  around y s = (((orbit_law (hypermap_of w) wf face).0 y (same_mem y s)).members _).1 (1, refl)
