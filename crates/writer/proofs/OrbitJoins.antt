-- Joins written on a walk round an orbit. The walk stands before the dart y, and the joins of y and of the darts after
-- it are left. The dart behind y is a word of the table, so what is left depends on y alone.
use mathlib.Core.Path.{◌≡◌, ap}
use mathlib.Core.List.{List, ◌++◌, map}
use Prim.Native.Nat.{ℕ, ◌<◌}
use lib.ListN.{length, drop}
use Rattle.hypermap.specs.Hypermap.{Dimension, of}
use Rattle.table.specs.Layout.{Table, word_at, next_word, back_word, hypermap_of}
use Rattle.table.specs.Commands.{joins}
use Rattle.table.specs.Inner.{HypermapAt}
use Rattle.table.proofs.Holding.{links}
use Rattle.table.proofs.Walking.{On, way_home, on_first, way_first, hypermap_on, on_next, way_ends, way_goes, nearer}
use Rattle.tape.specs.Tapes.{bytes_of, tape_bytes}
use Rattle.writer.specs.Canonical.{orbit_joins}
use Rattle.writer.specs.Inner.{HasRoom, Lays, OrbitJoinsRoom}
use Rattle.writer.proofs.Laying.{Laying, laying_none, laying_then, laying_all, room_first}

-- the joins of all darts after z
abbrev left_joins : Table → Dimension → (x z : ℕ) → List ℕ
left_joins w k x z = tape_bytes (map (joins k x) (way_home w (of k) x z))

abbrev behind : Table → Dimension → (y : ℕ) → ℕ
behind w k y = word_at w y (back_word k)

abbrev pub to_come : Table → Dimension → (x y : ℕ) → ℕ
to_come w k x y = length (way_home w (of k) x (behind w k y))

pub record Joining (w : Table) (k : Dimension) (x from : ℕ) (o q : List ℕ) (at y : ℕ) : Type 0 where
  pub last : On w (of k) x (behind w k y)
  pub next : y ≡ word_at w (behind w k y) (next_word k)
  pub laying :
      Laying from (tape_bytes (orbit_joins (hypermap_of w) k x)) (left_joins w k x (behind w k y)) o q at

orbit_left : (w : Table) (k : Dimension) (x : ℕ) → tape_bytes (orbit_joins (hypermap_of w) k x) ≡ left_joins w k x x
unfolding orbit_joins
orbit_left w k x = ap (λ l. tape_bytes (map (joins k x) (drop 1 l))) (way_first w (of k) x)

module _ {w : Table} {k : Dimension} {x from : ℕ} {o : List ℕ} (r : OrbitJoinsRoom w k x from o) where
  -- before the dart that follows z
  module _ {z y : ℕ} (on : On w (of k) x z) (e : y ≡ word_at w z (next_word k)) where
    is_behind : behind w k y ≡ z
    is_behind = let s = hypermap_on r.dart on in rw e (links w s.hypermap k z s.here).back_next

    stands :
        {q : List ℕ} {at : ℕ} →
        Laying from (tape_bytes (orbit_joins (hypermap_of w) k x)) (left_joins w k x z) o q at →
        Joining w k x from o q at y
    stands l = record { last = rw is_behind on; next = rw is_behind e; laying = rw is_behind l }

  pub joining_first : {y : ℕ} → y ≡ word_at w x (next_word k) → Joining w k x from o o from y
  joining_first e = stands on_first e (rw (← orbit_left w k x) (laying_none r.room))

  module _ {q : List ℕ} {at y : ℕ} (j : Joining w k x from o q at y) where
    here : On w (of k) x y
    here = on_next r.dart j.last j.next

    pub joining_at : HypermapAt w y
    joining_at = hypermap_on r.dart here

    joining_here :
        (y ≡ x → ⊥) →
        Laying from (tape_bytes (orbit_joins (hypermap_of w) k x)) (bytes_of (joins k x y) ++ left_joins w k x y) o q at
    unfolding tape_bytes
    joining_here n = rw (way_goes r.dart j.last j.next n) at j.laying

    pub joining_room : (y ≡ x → ⊥) → HasRoom at (bytes_of (joins k x y)) q
    joining_room n = room_first (bytes_of (joins k x y)) (left_joins w k x y) (joining_here n).room

    module _ {z : ℕ} (n : y ≡ x → ⊥) (e : z ≡ word_at w y (next_word k)) where
      pub joining_on : {p : List ℕ} {m : ℕ} → Lays at (bytes_of (joins k x y)) q p m → Joining w k x from o p m z
      joining_on l = stands here e (laying_then (joining_here n) l)

      pub joining_less : to_come w k x z < to_come w k x y
      joining_less = rw (is_behind here e) (nearer r.dart j.last j.next n)

    pub joining_all : y ≡ x → Lays from (tape_bytes (orbit_joins (hypermap_of w) k x)) o q at
    unfolding tape_bytes
    joining_all h = laying_all (rw (way_ends r.dart j.last j.next h) at j.laying)
