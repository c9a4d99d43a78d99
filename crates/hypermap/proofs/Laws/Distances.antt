-- Law 1, the distance. It is a place in the orbit, whose entries are the iterates in order. A walk forward and one back
-- meet where their steps together lead from one dart to the other.
use mathlib.Core.Path.{◌≡◌, refl, ap, sym, ◌∙◌}
use mathlib.Core.Bool.{true, false}
use mathlib.Core.List.{List}
use mathlib.Core.Logic.{◌↔◌}
use Prim.Native.Nat.{ℕ, zero, suc, ◌+◌, ◌-◌, ◌≤◌, ◌<◌}
use native.Mathlib.Omega.{arith}
use lib.Dec.{eqb, ltb}
use borrow.Author.Tests.{eqb-true, eqb-false, ltb-true, ltb-false}
use Rattle.lists.specs.Lists.{index_of}
use Rattle.lists.proofs.Bools.{by_cases, refuted}
use Rattle.lists.proofs.Lists.{Mem}
use Rattle.lists.proofs.Indices.{index_member, index_within, index_first}
use Rattle.hypermap.specs.Hypermap.{Hypermap, is_hypermap, Kind, step, step_back, orbit_of, distance, same_orbit}
use Rattle.hypermap.specs.Laws.{iterate, IsDistance, DistanceLaw, MeetingLaw}
use Rattle.hypermap.proofs.Permutations.Reaching.{ride, iterate_last, iterate_add}
use Rattle.hypermap.proofs.Hypermaps.Totals.{Inverse, step_links}
use Rattle.hypermap.proofs.Laws.Orbits.{orbit_law, same_orbit_law}

itself : (m : Hypermap) (c : Kind) (x y : ℕ) → (distance m c x y ≡ 0) ↔ (x ≡ y)
unfolding index_of
itself m c x y =
    by_cases (eqb y x)
    (λ t. rw t (λ e. sym (eqb-true y x t), λ e. refl))
    (λ t. rw t (λ e. absurd (omega arith), λ e. absurd (eqb-false y x t (sym e))))

pub distance_law : DistanceLaw
distance_law m wf c x y d =
    let o = (orbit_law m wf c).0 x d in
    let xs = orbit_of m c x in
    record {
      reached = rw (same_orbit_law m c x y) (o.members y);
      leads = λ t.
          let i = index_member y xs (sym (same_orbit_law m c x y) ∙ t) in
          sym (o.entry (distance m c x y) i.0) ∙ i.1;
      fewest = λ k l e. index_first y xs k l (o.entry k (omega (arith, index_within y xs)) ∙ e);
      itself = itself m c x y;
    }

-- TWO WALKS
module _ (ds : List ℕ) (f g : ℕ → ℕ) (inverse : Inverse ds f g) where
  meet :
      (i j x y : ℕ) → Mem x ds → Mem y ds → (iterate i f x ≡ iterate j g y) ↔ (iterate (i + j) f x ≡ y)
  meet i zero x y d e = let n : i + 0 ≡ i = omega arith in rw n (λ p. p, λ p. p)
  meet i (suc j) x y d e =
      let n : i + suc j ≡ suc (i + j) = omega arith in
      let r = meet i j x (g y) d (inverse.keeps_back y e) in
      let z = iterate (i + j) f x in
      let h = ride f (λ z. Mem z ds) inverse.keeps x z (i + j, refl) d in (
        λ p. rw n (iterate_last f (i + j) x ∙ ap f (r.0 p) ∙ inverse.undoes y e),
        λ p. r.1 (sym (inverse.undone z h) ∙ ap g (sym (iterate_last f (i + j) x) ∙ rw n at p)),
      )

pub meeting_law : MeetingLaw
meeting_law m wf c = meet m.darts (step m c) (step_back m c) (step_links m wf c)

module _
    (m : Hypermap) (wf : is_hypermap m ≡ true) (c : Kind) (x y : ℕ) (d : Mem x m.darts) (e : Mem y m.darts) where
  abbrev Leads : ℕ → Type 0
  Leads k = iterate k (step m c) x ≡ y

  found : IsDistance m c x y
  found = distance_law m wf c x y d

  not_less : (n : ℕ) → ((k : ℕ) → k < n → Leads k → ⊥) → same_orbit m c x y ≡ true → n ≤ distance m c x y
  not_less n none t =
      by_cases (ltb (distance m c x y) n)
      (λ l. absurd (none (distance m c x y) (ltb-true _ _ l) (found.leads t)))
      (λ l. ltb-false _ _ l)

  -- the first number of steps that leads there is the distance
  pub first_meeting :
      (n : ℕ) → ((k : ℕ) → k < n → Leads k → ⊥) → Leads n → (same_orbit m c x y ≡ true) × (distance m c x y ≡ n)
  first_meeting n none l =
      let t = found.reached.1 (n, l) in
      by_cases (ltb n (distance m c x y))
      (λ u. absurd (found.fewest n (ltb-true _ _ u) l))
      (λ u. (t, omega (arith, ltb-false n (distance m c x y) u, not_less n none t)))

  -- steps after which either walk is home may be left out, so the distance would be less than they are
  module _ (n k : ℕ) (some : 1 ≤ k) (few : k ≤ n) (none : (i : ℕ) → i < n → Leads i → ⊥) where
    left_out : ((i : ℕ) → Leads (i + k) → Leads i) → same_orbit m c x y ≡ false
    left_out less = refuted (same_orbit m c x y) (λ t.
        let l = not_less n none t in
        let q : distance m c x y ≡ distance m c x y - k + k = omega arith in
        found.fewest (distance m c x y - k) (omega arith)
        (less (distance m c x y - k) (ap (λ j. iterate j (step m c) x) (sym q) ∙ found.leads t)))

    pub home_forth : iterate k (step m c) x ≡ x → same_orbit m c x y ≡ false
    home_forth h = left_out (λ i l.
        ap (iterate i (step m c)) (sym h) ∙ sym (iterate_add (step m c) k i (i + k) x (omega arith)) ∙ l)

    pub home_back : iterate k (step_back m c) y ≡ y → same_orbit m c x y ≡ false
    home_back h = left_out (λ i l. (meeting_law m wf c i k x y d e).1 l ∙ h)
