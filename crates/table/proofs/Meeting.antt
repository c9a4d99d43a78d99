-- A walk forward from one dart and a walk back from another, a step each in turn: their first meeting tells how far the
-- second dart is from the first, and if one comes home before, the darts are in different orbits.
use Rattle.std.proofs.Common.{◌≡◌, ℕ, suc, ◌+◌, ◌<◌, ◌≤◌, true, ltb, ◌↔◌, sym, refl, ap, ◌∙◌, add-one, arith, ltb-false}
use Rattle.std.proofs.Common.{ltb-true, Some, None}
use Rattle.lists.proofs.Bools.{by_cases}
use Rattle.lists.proofs.Lists.{Mem}
use Rattle.hypermap.specs.Hypermap.{is_hypermap, Kind, step, step_back}
use Rattle.hypermap.specs.Laws.{iterate}
use Rattle.hypermap.proofs.Permutations.Reaching.{ride, iterate_last}
use Rattle.hypermap.proofs.Hypermaps.Totals.{step_links}
use Rattle.hypermap.proofs.Laws.Distances.{meeting_law, first_meeting, home_forth, home_back}
use Rattle.table.specs.Limits.{max_capacity}
use Rattle.table.specs.Layout.{Table, hypermap_of}
use Rattle.table.specs.Inner.{HypermapAt, WithinCapacityAtBoth, distance_found}
use Rattle.table.proofs.Holding.{mem_present, table_hypermap}
use Rattle.table.proofs.Walking.{Walks, walks_first, walks_early, walks_on, length_law}

-- x is i steps forward from a, y is j steps back from b, and fewer than i + j steps do not lead from a to b
record Nears (w : Table) (c : Kind) (a b x y i j : ℕ) : Type 0 where
  forth : iterate i (step (hypermap_of w) c) a ≡ x
  back : iterate j (step_back (hypermap_of w) c) b ≡ y
  none : (k : ℕ) → k < i + j → iterate k (step (hypermap_of w) c) a ≡ b → ⊥

module _ {w : Table} {a b : ℕ} (s : WithinCapacityAtBoth w a b) where
  abbrev pub first : HypermapAt w a
  first = record { hypermap = s.both.hypermap; here = s.both.first }

  wf : is_hypermap (hypermap_of w) ≡ true
  wf = table_hypermap w s.both.hypermap

  first_in : Mem a (hypermap_of w).darts
  first_in = rw mem_present s.both.first

  second_in : Mem b (hypermap_of w).darts
  second_in = rw mem_present s.both.second

  module _ {c : Kind} {x y i j : ℕ} (g : Nears w c a b x y i j) where
    meets : (x ≡ y) ↔ (iterate (i + j) (step (hypermap_of w) c) a ≡ b)
    meets = rw (← g.forth, ← g.back) (meeting_law (hypermap_of w) wf c i j a b first_in second_in)

    nears_met : x ≡ y → Some (i + j) ≡ distance_found w c a b
    nears_met q =
        let r = first_meeting (hypermap_of w) wf c a b first_in second_in (i + j) g.none (meets.0 q) in
        rw (r.0, r.1)

    -- either walk goes on: one step more than before does not lead there either
    module _ (n : x ≡ y → ⊥) where
      none_yet : (l k : ℕ) → l ≡ suc (i + j) → k < l → iterate k (step (hypermap_of w) c) a ≡ b → ⊥
      none_yet l k e h q =
          by_cases (ltb k (i + j))
          (λ t. g.none k (ltb-true k (i + j) t) q)
          (λ t. let z : k ≡ i + j = omega (arith, ltb-false k (i + j) t) in
          n (meets.1 (ap (λ k. iterate k (step (hypermap_of w) c) a) (sym z) ∙ q)))

      nears_forth : {z : ℕ} → z ≡ step (hypermap_of w) c x → Nears w c a b z y (suc i) j
      nears_forth e = record {
        forth = iterate_last (step (hypermap_of w) c) i a ∙ ap (step (hypermap_of w) c) g.forth ∙ sym e;
        back = g.back;
        none = λ k. none_yet (suc i + j) k (omega arith);
      }

      nears_back : {z : ℕ} → z ≡ step_back (hypermap_of w) c y → Nears w c a b x z i (suc j)
      nears_back e = record {
        forth = g.forth;
        back = iterate_last (step_back (hypermap_of w) c) j b ∙ ap (step_back (hypermap_of w) c) g.back ∙ sym e;
        none = λ k. none_yet (i + suc j) k (omega arith);
      }

    forth_home : 1 ≤ i → x ≡ a → None ≡ distance_found w c a b
    forth_home l h =
        rw (home_forth (hypermap_of w) wf c a b first_in second_in (i + j) i l (omega arith) g.none (g.forth ∙ h))

    back_home : 1 ≤ j → y ≡ b → None ≡ distance_found w c a b
    back_home l h =
        rw (home_back (hypermap_of w) wf c a b first_in second_in (i + j) j l (omega arith) g.none (g.back ∙ h))

-- A TURN OF THE LOOP is a step of each walk, and n counts both
pub record Turns (w : Table) (c : Kind) (a b x y n : ℕ) : Type 0 where
  turns : ℕ
  counted : n ≡ turns + turns
  pub walk : Walks w c a x turns
  nears : Nears w c a b x y turns turns

pub turns_first : {w : Table} {c : Kind} {a b : ℕ} → Turns w c a b a b 0
turns_first = record {
  turns = 0;
  counted = refl;
  walk = walks_first;
  nears = record { forth = refl; back = refl; none = λ k l e. absurd (omega arith) };
}

module _ {w : Table} {c : Kind} {a b x y n : ℕ} (s : WithinCapacityAtBoth w a b) (g : Turns w c a b x y n) where
  pub turns_met : x ≡ y → Some n ≡ distance_found w c a b
  turns_met q = ap Some g.counted ∙ nears_met s g.nears q

  -- the count stays below twice the capacity
  pub turns_few : n + 2 ≤ max_capacity + max_capacity
  turns_few =
      let l = (length_law w s.both.hypermap c a s.both.first).in_capacity in
      omega (arith, walks_early g.walk, s.room, g.counted)

  pub back_here : HypermapAt w y
  back_here = record {
    hypermap = s.both.hypermap;
    here = rw mem_present at (ride (step_back (hypermap_of w) c) (λ z. Mem z (hypermap_of w).darts)
        (step_links (hypermap_of w) (wf s) c).keeps_back b y (g.turns, g.nears.back) (second_in s));
  }

  -- v is the step back from y
  module _ {v : ℕ} (m : x ≡ y → ⊥) (e : v ≡ step_back (hypermap_of w) c y) where
    half : Nears w c a b x v g.turns (suc g.turns)
    half = nears_back s g.nears m e

    pub half_home : v ≡ b → None ≡ distance_found w c a b
    half_home h = back_home s half (omega arith) h

    pub half_met : x ≡ v → Some (n + 1) ≡ distance_found w c a b
    half_met q = ap Some (omega (arith, g.counted)) ∙ nears_met s half q

    -- and u is the step forward from x
    module _ {u : ℕ} (k : x ≡ v → ⊥) (f : u ≡ step (hypermap_of w) c x) where
      whole : Nears w c a b u v (suc g.turns) (suc g.turns)
      whole = nears_forth s half k f

      pub turn_home : u ≡ a → None ≡ distance_found w c a b
      turn_home h = forth_home s whole (omega arith) h

      pub turns_on : (u ≡ a → ⊥) → Turns w c a b u v (n + 2)
      turns_on h = record {
        turns = suc g.turns;
        counted = omega (arith, g.counted);
        walk = rw (add-one) at (walks_on g.walk (first s) f h);
        nears = whole;
      }
