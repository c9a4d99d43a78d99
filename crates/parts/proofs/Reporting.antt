-- The numbers of a report: they are small, and the genus is the one that Euler's equation gives.
use mathlib.Core.Path.{◌≡◌, ◌∙◌}
use mathlib.Core.Bool.{true}
use Prim.Native.Nat.{ℕ, ◌+◌, ◌*◌, ◌≤◌}
use native.Mathlib.Omega.{arith}
use lib.IntN.{ℤ, pos, ◌+ℤ◌, ◌-ℤ◌}
use lib.ListN.{length}
use Rattle.std.proofs.lemmas.Int.{ints}
use Rattle.lists.proofs.Lists.{keep_shorter}
use Rattle.hypermap.specs.Hypermap.{edge, vertex, Hypermap, is_hypermap, Kind, of, face, orbit_of, component_of}
use Rattle.hypermap.specs.Hypermap.{is_least_in, orbits, edges, vertices, faces, components, characteristic, genus}
use Rattle.hypermap.proofs.Laws.GenusTheorem.{euler_equation, genus_theorem}
use Rattle.table.specs.Limits.{max_capacity}
use Rattle.parts.specs.Counts.{lifts, counts_of}
use Rattle.parts.specs.Counting.{Few, HasGenus}
use Rattle.parts.specs.declared.Counts.{Counts}

-- the counts of few darts under the names that the code has for them
pub record Named (m : Hypermap) (d e v f : ℕ) : Type 0 where
  pub wf : is_hypermap m ≡ true
  pub few : length m.darts ≤ max_capacity
  pub is_darts : d ≡ length m.darts
  pub is_edges : e ≡ edges m
  pub is_vertices : v ≡ vertices m
  pub is_faces : f ≡ faces m

module _ (m : Hypermap) (d e v f : ℕ) (n : Named m d e v f) where
  orbits_few : (c : Kind) → orbits m c ≤ max_capacity
  orbits_few c = omega (arith, n.few, keep_shorter (is_least_in (orbit_of m c)) m.darts)

  components_few : components m ≤ max_capacity
  components_few = omega (arith, n.few, keep_shorter (is_least_in (component_of m)) m.darts)

  pub counts_few : Few d e v f
  counts_few = record {
    darts = rw n.is_darts n.few;
    edges = rw n.is_edges (orbits_few (of edge));
    vertices = rw n.is_vertices (orbits_few (of vertex));
    faces = rw n.is_faces (orbits_few face);
  }

  module _ (c : ℕ) (is_c : c ≡ components m) (z : ℤ) (is_z : z ≡ pos (v + e + f) -ℤ pos d) where
    characteristic_is : z ≡ characteristic m
    characteristic_is = is_z ∙ rw (n.is_darts, n.is_edges, n.is_vertices, n.is_faces)

    euler : z +ℤ pos (2 * genus m) ≡ pos (2 * c)
    euler = rw (characteristic_is, is_c) (genus_theorem m n.wf).euler

    pub counts_genus : HasGenus c z
    counts_genus = record {
      few = rw is_c components_few;
      genus = genus m;
      small = omega (arith, euler_equation m n.wf, components_few);
      euler = euler;
    }

    abbrev counted : (g l : ℕ) → Counts
    counted g l =
        record {
          darts = d;
          edges = e;
          vertices = v;
          faces = f;
          components = c;
          characteristic = z;
          genus = g;
          lifts = l;
        }

    pub counts_are :
        (g l : ℕ) → z +ℤ pos (2 * g) ≡ pos (2 * c) → l ≡ lifts m → counted g l ≡ counts_of m
    unfolding counts_of
    counts_are g l h is_l =
        let is_g : g ≡ genus m = omega (arith, ints, euler) in
        rw (characteristic_is, is_g, is_c, n.is_darts, n.is_edges, n.is_vertices, n.is_faces, is_l)
