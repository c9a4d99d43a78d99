-- The bytes of a canonical tape. An orbit has one dart more than it has joins, and the orbits of a dimension part the
-- darts, so its joins and its orbits are together as many as the darts.
use mathlib.Core.Path.{◌≡◌, refl, ap, sym, ◌∙◌}
use mathlib.Core.Bool.{true}
use mathlib.Core.List.{List, [], ◌∷◌, ◌++◌, map, append_assoc}
use Prim.Native.Nat.{ℕ, ◌+◌, ◌*◌, ◌≤◌}
use native.Mathlib.Omega.{arith}
use lib.Dec.{leb}
use lib.ListN.{length, drop, length-append}
use borrow.Author.Tests.{leb-true, leb-false}
use Rattle.lists.specs.Lists.{keep, sum_of}
use Rattle.lists.proofs.Bools.{by_cases}
use Rattle.lists.proofs.Lists.{Mem, mem_head, keep_mem, mem_kept, keep_all, keep_shorter, rising_keep, rising_distinct}
use Rattle.lists.proofs.Lists.{pigeonhole}
use Rattle.lists.proofs.Sums.{sum_ext, kept_one, sum_of_parts}
use Rattle.hypermap.specs.Hypermap.{Dimension, edge, vertex, Hypermap, is_hypermap, Kind, of, orbit_of, is_least_in}
use Rattle.hypermap.specs.Hypermap.{least_darts, orbits, edges, vertices}
use Rattle.hypermap.specs.Laws.{in_orbit}
use Rattle.hypermap.proofs.Hypermaps.Totals.{up}
use Rattle.hypermap.proofs.Laws.Orbits.{orbit_law, in_orbit_equivalence}
use Rattle.hypermap.proofs.Laws.Counts.{count_law}
use Rattle.table.specs.Limits.{max_capacity, longest_canonical}
use Rattle.table.specs.Layout.{Table, capacity, holds_hypermap, hypermap_of}
use Rattle.table.specs.Commands.{Command, puts, joins}
use Rattle.table.proofs.Holding.{table_hypermap, darts_few}
use Rattle.tape.specs.Tapes.{bytes_of, tape_bytes}
use Rattle.writer.specs.Canonical.{orbit_joins, joins_over, joins_of, puts_of, tape_of}
use Rattle.writer.specs.Laws.{SizeLaw}

-- THE ORBITS of one kind part the darts
module _ (m : Hypermap) (wf : is_hypermap m ≡ true) (c : Kind) where
  abbrev leasts : List ℕ
  leasts = least_darts m (orbit_of m c)

  one_least : (y : ℕ) → Mem y m.darts → length (keep (λ r. in_orbit m c r y) leasts) ≡ 1
  one_least y d =
      let l = (count_law m wf y d).0 c in
      let q = in_orbit_equivalence m wf c in
      let low = is_least_in (orbit_of m c) in
      kept_one (λ r. in_orbit m c r y) leasts l.least
      (rising_distinct leasts (rising_keep low m.darts (up m wf)))
      (keep_mem low m.darts l.least (q.within y l.least d l.member) l.counted)
      (q.symmetric y l.least d l.member)
      (λ x i t. let k = mem_kept low m.darts x i in l.unique x (q.symmetric x y k.0 t) k.1)

  orbit_size : (x : ℕ) → Mem x m.darts → length (orbit_of m c x) ≡ length (keep (in_orbit m c x) m.darts)
  orbit_size x d =
      let own = keep (in_orbit m c x) m.darts in
      let there = pigeonhole (orbit_of m c x) own ((orbit_law m wf c).0 x d).once
      (λ z i. keep_mem (in_orbit m c x) m.darts z ((in_orbit_equivalence m wf c).within x z d i) i) in
      let back = pigeonhole own (orbit_of m c x)
      (rising_distinct own (rising_keep (in_orbit m c x) m.darts (up m wf)))
      (λ z i. (mem_kept (in_orbit m c x) m.darts z i).1) in
      omega arith

  sum_sizes : sum_of (λ x. length (orbit_of m c x)) leasts ≡ length m.darts
  sum_sizes =
      sum_ext (λ x. length (orbit_of m c x)) (λ x. length (keep (λ y. true) (keep (in_orbit m c x) m.darts))) leasts
      (λ x i. orbit_size x (mem_kept (is_least_in (orbit_of m c)) m.darts x i).0 ∙
      sym (ap length (keep_all (keep (in_orbit m c x) m.darts)))) ∙
      sum_of_parts (in_orbit m c) (λ y. true) leasts m.darts one_least ∙ ap length (keep_all m.darts)

  orbits_exist : 1 ≤ length m.darts → 1 ≤ orbits m c
  orbits_exist = go m.darts (λ y d. omega (arith, one_least y d, keep_shorter (λ r. in_orbit m c r y) leasts))
    where
      go : (ds : List ℕ) → ((y : ℕ) → Mem y ds → 1 ≤ length leasts) → 1 ≤ length ds → 1 ≤ length leasts
      go [] h some = absurd (omega arith)
      go (y ∷ ys) h some = h y (mem_head y ys)

-- THE BYTES of commands
pub tape_append : (cs ds : List Command) → tape_bytes (cs ++ ds) ≡ tape_bytes cs ++ tape_bytes ds
unfolding tape_bytes
tape_append [] ds = refl
tape_append (c ∷ cs) ds = rw (tape_append cs ds) (sym (append_assoc (bytes_of c) (tape_bytes cs) (tape_bytes ds)))

puts_size : (xs : List ℕ) → length (tape_bytes (map puts xs)) ≡ 3 * length xs
unfolding tape_bytes
puts_size [] = refl
puts_size (x ∷ xs) = omega (arith, puts_size xs)

joins_size : (k : Dimension) (x : ℕ) (ys : List ℕ) → length (tape_bytes (map (joins k x) ys)) ≡ 5 * length ys
unfolding tape_bytes
joins_size k x [] = refl
joins_size k x (y ∷ ys) = omega (arith, joins_size k x ys)

joins_over_size :
    (m : Hypermap) (k : Dimension) (xs : List ℕ) →
    length (tape_bytes (joins_over m k xs)) + 5 * length xs ≡ 5 * sum_of (λ x. length (orbit_of m (of k) x)) xs
unfolding tape_bytes joins_over orbit_joins sum_of
joins_over_size m k [] = refl
joins_over_size m k (x ∷ xs) =
    rw (tape_append, length-append) (omega (
      arith,
      joins_over_size m k xs,
      joins_size k x (drop 1 (orbit_of m (of k) x)),
    ))

module _ (m : Hypermap) (wf : is_hypermap m ≡ true) where
  dimension_size : (k : Dimension) → length (tape_bytes (joins_of m k)) + 5 * orbits m (of k) ≡ 5 * length m.darts
  dimension_size k = joins_over_size m k (leasts m wf (of k)) ∙ ap (λ n. 5 * n) (sum_sizes m wf (of k))

  whole_size :
      length (tape_bytes (puts_of m ++ joins_of m edge ++ joins_of m vertex)) + 5 * (edges m + vertices m) ≡
      13 * length m.darts
  unfolding puts_of
  whole_size =
      rw (tape_append, tape_append, length-append, length-append)
      (omega (arith, puts_size m.darts, dimension_size edge, dimension_size vertex))

pub size_law : SizeLaw
unfolding tape_of
size_law w s = whole_size (hypermap_of w) (table_hypermap w s)

-- the tape in three parts
pub tape_parts :
    (w : Table) →
    tape_of w ≡ tape_bytes (puts_of (hypermap_of w)) ++ tape_bytes (joins_of (hypermap_of w) edge) ++
    tape_bytes (joins_of (hypermap_of w) vertex)
unfolding tape_of
tape_parts w =
    tape_append (puts_of (hypermap_of w) ++ joins_of (hypermap_of w) edge) (joins_of (hypermap_of w) vertex) ∙
    ap (λ t. t ++ tape_bytes (joins_of (hypermap_of w) vertex))
    (tape_append (puts_of (hypermap_of w)) (joins_of (hypermap_of w) edge))

-- FEW ENOUGH
pub orbits_few : (m : Hypermap) (c : Kind) → orbits m c ≤ length m.darts
orbits_few m c = keep_shorter (is_least_in (orbit_of m c)) m.darts

pub tape_fits : (w : Table) → holds_hypermap w ≡ true → capacity w ≤ max_capacity →
    length (tape_of w) ≤ longest_canonical
tape_fits w s room =
    let d = darts_few w in
    let e = orbits_exist (hypermap_of w) (table_hypermap w s) (of edge) in
    let v = orbits_exist (hypermap_of w) (table_hypermap w s) (of vertex) in
    let l = size_law w s in
    by_cases (leb 1 (length (hypermap_of w).darts))
    (λ t. let h = leb-true 1 (length (hypermap_of w).darts) t in omega (arith, e h, v h))
    (λ t. omega (arith, leb-false 1 (length (hypermap_of w).darts) t))
