-- Job 6: a question that is not refused has a sound table and darts of it, to which the law of distances applies; joins
-- and cuts are accepted by the same test.
use mathlib.Core.Path.{◌≡◌, refl, sym, ◌∙◌}
use mathlib.Core.Logic.{◌↔◌}
use mathlib.Core.Bool.{Bool, true, false, not}
use mathlib.Core.List.{List, [], ◌∷◌}
use Prim.Native.Nat.{ℕ, ◌<◌}
use native.Mathlib.Omega.{arith}
use lib.Dec.{ltb, eqb}
use borrow.Author.Tests.{eqb-true, eqb-false, ltb-true, lt-ltb, not-true}
use Rattle.std.specs.Prelude.{unwrap_or}
use Rattle.lists.specs.Lists.{all}
use Rattle.lists.proofs.Bools.{by_cases, clash, and_left, and_right, and_true}
use Rattle.hypermap.specs.Hypermap.{Dimension, edge, vertex, is_dart, of, distance, same_orbit}
use Rattle.hypermap.specs.Laws.{IsDistance}
use Rattle.hypermap.specs.Ring.{DoubleLink, is_double_link, pairs_differ}
use Rattle.hypermap.proofs.Laws.Orbits.{same_orbit_law}
use Rattle.hypermap.proofs.Laws.Distances.{distance_law}
use Rattle.table.specs.Layout.{Table, capacity, hypermap_of}
use Rattle.table.specs.Commands.{joins, cuts}
use Rattle.table.specs.Inner.{WithinCapacityAtBoth, distance_found}
use Rattle.table.proofs.Holding.{mem_present, table_hypermap}
use Rattle.table.proofs.Walking.{length_law}
use Rattle.parts.specs.declared.Part.TheVariants.{Edge, Vertex, Face, Component}
use Rattle.soundness.specs.Soundness.{table_refusal}
use Rattle.rings.specs.Rings.{links_of}
use Rattle.rings.proofs.Conditions.{ring_to}
use Rattle.kernel.specs.Calls.{call_refusal, ring_call_refusal, question_refusal, answer, same_answer}
use Rattle.kernel.proofs.Judging.{darts_ready}
use Rattle.kernel.specs.declared.Answer.{Answer}
use Rattle.promises.specs.Distances.{part_of, asked, TellsDistance, DistancePromise}
use Rattle.promises.proofs.Accepted.{question_table, question_fits_both}
use Rattle.promises.proofs.Changes.{join_accepted, cut_accepted, ring_accepted}
use Rattle.promises.proofs.Questions.{same_given, same_passed}

-- WHAT IS ANSWERED, where the question is not refused
abbrev found : (w : Table) (k : Dimension) (a b : ℕ) → Answer
found w k a b = record {
  number = 0;
  yes = same_orbit (hypermap_of w) (of k) a b;
  count = unwrap_or (distance_found w (of k) a b) 0;
}

asked_given :
    (w : Table) (k : Dimension) (a b : ℕ) → question_refusal w (a ∷ b ∷ []) ≡ 0 → asked w k a b ≡ found w k a b
asked_given w edge a b z = same_given w Edge a b z
asked_given w vertex a b z = same_given w Vertex a b z

module _ (w : Table) (k : Dimension) (a b : ℕ) where
  abbrev same : Bool
  same = same_orbit (hypermap_of w) (of k) a b

  module _ (z : question_refusal w (a ∷ b ∷ []) ≡ 0) where
    ready : WithinCapacityAtBoth w a b
    ready = darts_ready w a b z

    law : IsDistance (hypermap_of w) (of k) a b
    law =
        distance_law (hypermap_of w) (table_hypermap w ready.both.hypermap) (of k) a b
        (mem_present w a ∙ ready.both.first)

    tells : TellsDistance (hypermap_of w) k a b (found w k a b)
    tells = record {
      leads = λ t. rw t (law.leads t);
      fewest = λ n l. by_cases same
          (λ t. let z : n < distance (hypermap_of w) (of k) a b = rw t at l in law.fewest n z)
          (λ t. let z : n < 0 = rw t at l in absurd (omega arith));
      itself = λ t. rw t law.itself;
      apart = λ t. (rw t, λ r. clash (law.reached.1 r) t);
    }

    few : (found w k a b).count < capacity w
    few =
        let l = (length_law w ready.both.hypermap (of k) a ready.both.first).in_capacity in
        by_cases same
        (λ t. let z = ltb-true (distance (hypermap_of w) (of k) a b) _ t in rw t (omega (arith, z, l)))
        (λ t. rw t (omega (arith, l)))

-- WHAT RESTS ON IT: a join and a cut ask the same of the table and of the darts as the question
module _ (w : Table) (a b : ℕ) where
  fits :
      table_refusal w ≡ 0 → is_dart (hypermap_of w) a ≡ true → is_dart (hypermap_of w) b ≡ true →
      question_refusal w (a ∷ b ∷ []) ≡ 0
  fits e d f = question_fits_both w a b e (sym (mem_present w a) ∙ d) (sym (mem_present w b) ∙ f)

  darts :
      question_refusal w (a ∷ b ∷ []) ≡ 0 →
      (table_refusal w ≡ 0) × (is_dart (hypermap_of w) a ≡ true) × (is_dart (hypermap_of w) b ≡ true)
  darts z =
      let r = (darts_ready w a b z).both in
      (question_table w (a ∷ b ∷ []) z, mem_present w a ∙ r.first, mem_present w b ∙ r.second)

module _ (w : Table) (k : Dimension) (a b : ℕ) where
  -- the distance is not 0 where the darts are in the same orbit and differ
  apart_some :
      question_refusal w (a ∷ b ∷ []) ≡ 0 →
      (0 < (found w k a b).count) ↔ ((same w k a b ≡ true) × (a ≡ b → ⊥))
  apart_some z =
      let t = tells w k a b z in (
        λ l. by_cases (same w k a b)
            (λ u. (u, λ e. omega (arith, (t.itself u).1 e)))
            (λ u. absurd (omega (arith, (t.apart u).0))),
        λ p. by_cases (eqb (found w k a b).count 0)
            (λ u. absurd (p.1 ((t.itself p.0).0 (eqb-true _ 0 u))))
            (λ u. let n = eqb-false (found w k a b).count 0 u in omega arith),
      )

  joins_by : (call_refusal w (joins k a b) ≡ 0) ↔ (((asked w k a b).number ≡ 0) × ((asked w k a b).yes ≡ false))
  joins_by = (
    λ e.
        let j = (join_accepted w k a b).0 e in
        rw (asked_given w k a b (fits w a b j.0 j.1 j.2)) (refl, j.3),
    λ p.
        let z = same_passed w (part_of k) a b p.0 in
        let d = darts w a b z in
        (join_accepted w k a b).1 (d.0, d.1, d.2, rw (asked_given w k a b z) at p.1),
  )

  cuts_by : (call_refusal w (cuts k a b) ≡ 0) ↔ (((asked w k a b).number ≡ 0) × (0 < (asked w k a b).count))
  cuts_by = (
    λ e.
        let j = (cut_accepted w k a b).0 e in
        let z = fits w a b j.0 j.1 j.2 in
        rw (asked_given w k a b z) (refl, (apart_some z).1 (j.3, j.4)),
    λ p.
        let z = same_passed w (part_of k) a b p.0 in
        let d = darts w a b z in
        let l = (apart_some z).0 (rw (asked_given w k a b z) at p.1) in
        (cut_accepted w k a b).1 (d.0, d.1, d.2, l.0, l.1),
  )

-- each double-link of a ring joins two darts of one edge, which differ
module _ (w : Table) where
  abbrev is_some : DoubleLink → Bool
  is_some l = ltb 0 (asked w edge l.first l.second).count

  links_some :
      table_refusal w ≡ 0 → (ls : List DoubleLink) → all (is_double_link (hypermap_of w)) ls ≡ true →
      pairs_differ ls ≡ true → all is_some ls ≡ true
  unfolding all
  links_some t [] d p = refl
  links_some t (l ∷ ls) d p =
      let a = l.first in
      let b = l.second in
      let z = fits w a b t (search (and_left, and_right)) (search (and_left, and_right)) in
      let n = eqb-false a b (not-true (eqb a b) (and_left (not (eqb a b)) (pairs_differ ls) p)) in
      and_true (is_some l) (all is_some ls)
      (rw (asked_given w edge a b z) (lt-ltb 0 _ ((apart_some w edge a b z).1 (search (and_left, and_right), n))))
      (links_some t ls (and_right (is_double_link (hypermap_of w) l) (all (is_double_link (hypermap_of w)) ls) d)
      (and_right (not (eqb a b)) (pairs_differ ls) p))

  rings_by : (ring : List ℕ) → ring_call_refusal w ring ≡ 0 → all is_some (links_of ring) ≡ true
  rings_by ring e =
      let r = (ring_accepted w ring).0 e in
      let f = ring_to (hypermap_of w) (links_of ring) r.2 in
      links_some r.0 (links_of ring) f.0 f.1.differ

-- the question about a face or a component has no count, refused or not
other_parts : (w : Table) (a b : ℕ) → ((same_answer w Face a b).count ≡ 0) × ((same_answer w Component a b).count ≡ 0)
unfolding same_answer answer
other_parts w a b = by_cases (eqb (question_refusal w (a ∷ b ∷ [])) 0) (λ t. rw t (refl, refl)) (λ t. rw t (refl, refl))

pub distance_promise : DistancePromise
distance_promise = record {
  told = λ w k a b e. let z = same_passed w (part_of k) a b e in rw (asked_given w k a b z) (tells w k a b z);
  short = λ w k a b e. let z = same_passed w (part_of k) a b e in rw (asked_given w k a b z) (few w k a b z);
  other_parts = other_parts;
  joins = joins_by;
  cuts = cuts_by;
  rings = rings_by;
  accept = same_orbit_law;
}
