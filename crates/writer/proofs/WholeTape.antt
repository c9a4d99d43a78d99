-- A canonical tape laid over a buffer: how many bytes it has by the counts, where its parts have room, and what is left
-- of the buffer.
use mathlib.Core.Path.{◌≡◌, refl, ap, ◌∙◌}
use mathlib.Core.List.{List}
use Prim.Native.Nat.{ℕ, ◌+◌, ◌*◌, ◌≤◌, ◌<◌}
use native.Mathlib.Omega.{arith}
use lib.ListN.{length, length-append}
use borrow.Author.Tests.{le-leb, lt-leb}
use Rattle.std.specs.Prelude.{Ok, Err}
use Rattle.hypermap.specs.Hypermap.{edge, vertex, of, edges as edges_in, vertices as vertices_in}
use Rattle.table.specs.Limits.{max_capacity}
use Rattle.table.specs.declared.refusals.Refusal.TheVariants as refusal
use Rattle.table.specs.Layout.{Table, hypermap_of}
use Rattle.table.proofs.Holding.{darts_few}
use Rattle.table.specs.Inner.{WithinCapacity}
use Rattle.tape.specs.Tapes.{tape_bytes}
use Rattle.writer.specs.Canonical.{puts_of, joins_of, tape_of}
use Rattle.writer.specs.Inner.{HasRoom, Lays, written_in, written_of, written_leaves}
use Rattle.writer.proofs.Laying.{lays_then, lays_whole}
use Rattle.writer.proofs.Sizes.{size_law, tape_parts, orbits_few}

-- THE COUNTS
module _
    (w : Table)
    (k : WithinCapacity w)
    {d e v : ℕ}
    (darts : d ≡ length (hypermap_of w).darts)
    (edges : e ≡ edges_in (hypermap_of w))
    (vertices : v ≡ vertices_in (hypermap_of w))
  where
    pub counts_few : (d ≤ max_capacity) × (e ≤ d) × (v ≤ d)
    counts_few =
        omega (arith, darts_few w, k.room, orbits_few (hypermap_of w) (of edge), orbits_few (hypermap_of w) (of vertex))

    pub size_by_counts : {size : ℕ} → size + 5 * (e + v) ≡ 13 * d → size ≡ length (tape_of w)
    size_by_counts h = omega (arith, size_law w k.hypermap)

-- THE BUFFER
module _ (w : Table) (o : List ℕ) {size : ℕ} (e : size ≡ length (tape_of w)) where
  abbrev put_bytes : List ℕ
  put_bytes = tape_bytes (puts_of (hypermap_of w))

  abbrev edge_bytes : List ℕ
  edge_bytes = tape_bytes (joins_of (hypermap_of w) edge)

  abbrev vertex_bytes : List ℕ
  vertex_bytes = tape_bytes (joins_of (hypermap_of w) vertex)

  pub short_buffer :
      length o < size →
      (written_in (Err refusal.ShortRoom) ≡ written_of (tape_of w) o) × (o ≡ written_leaves (tape_of w) o)
  unfolding written_of written_leaves
  short_buffer h = let f = lt-leb (length (tape_of w)) (length o) (omega arith) in rw f (refl, refl)

  module _ (h : size ≤ length o) where
    in_three : size ≡ length put_bytes + length edge_bytes + length vertex_bytes
    in_three = e ∙ ap length (tape_parts w) ∙ simp length-append

    pub puts_room : HasRoom 0 put_bytes o
    puts_room = record { room = omega (arith, in_three) }

    module _ {p : List ℕ} {m : ℕ} (f : Lays 0 put_bytes o p m) where
      pub edges_room : length p ≡ length o → HasRoom m edge_bytes p
      edges_room s = record { room = omega (arith, in_three) }

      module _ {q : List ℕ} {n : ℕ} (g : Lays m edge_bytes p q n) where
        pub vertices_room : length q ≡ length o → HasRoom n vertex_bytes q
        vertices_room s = record { room = omega (arith, in_three) }

        pub tape_laid :
            {t : List ℕ} {l : ℕ} → Lays n vertex_bytes q t l →
            (written_in (Ok size) ≡ written_of (tape_of w) o) × (t ≡ written_leaves (tape_of w) o)
        unfolding written_of written_leaves
        tape_laid {t} {l} i =
            let whole : Lays 0 (tape_of w) o t l = rw (tape_parts w) (lays_then (lays_then f g) i) in
            rw (le-leb (length (tape_of w)) (length o) (omega arith))
            (ap (λ n. record { number = 0; count = n }) e, lays_whole whole (omega arith))
