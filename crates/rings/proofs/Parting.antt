-- Theorem 2.9 for the tables that an accepted ring leaves: they hold the break of the hypermap, and a parting is the
-- same for hypermaps that agree.
use mathlib.Core.Path.{◌≡◌, refl, ap, ◌∙◌}
use mathlib.Core.Bool.{true, ◌&&◌}
use mathlib.Core.List.{List, [], ◌∷◌}
use Prim.Native.Nat.{ℕ}
use lib.Dec.{eqb}
use Rattle.lists.specs.Lists.{all}
use Rattle.lists.proofs.Bools.{and_left, and_right, and_true}
use Rattle.hypermap.specs.Hypermap.{Hypermap, is_dart, is_hypermap, same_edge, is_planar}
use Rattle.hypermap.specs.Ring.{DoubleLink, is_double_link, is_ring, pairs_differ, break_along}
use Rattle.hypermap.specs.RingLaws.{IsParted}
use Rattle.hypermap.proofs.Hypermaps.RingTests.{ring_darts}
use Rattle.hypermap.proofs.Hypermaps.Alike.{Agrees, answers_agree, parted_agrees}
use Rattle.hypermap.proofs.Laws.Breaks.{stands_after}
use Rattle.hypermap.proofs.Laws.Jordan.{break_darts, jordan_theorem, planar_jordan_theorem}
use Rattle.table.specs.Layout.{Table, holds_hypermap, hypermap_of}
use Rattle.table.proofs.Holding.{table_hypermap, holds_agrees}
use Rattle.rings.specs.Rings.{links_of, ring_refusal, cut_along}
use Rattle.rings.specs.Laws.{is_ring_of, IsCut, are_darts, PartingLaw, PlanarPartingLaw}
use Rattle.rings.proofs.Cuts.{cut_law}
use Rattle.rings.proofs.Conditions.{ring_to, conditions_law}

double_darts : (m : Hypermap) (ls : List DoubleLink) → all (is_double_link m) ls ≡ true → are_darts m ls ≡ true
unfolding all
double_darts m [] t = refl
double_darts m (l ∷ ls) t =
    and_true (is_dart m l.first && is_dart m l.second) (are_darts m ls)
    (and_left (is_dart m l.first && is_dart m l.second) (same_edge m l.first l.second)
    (and_left (is_double_link m l) (all (is_double_link m) ls) t))
    (double_darts m ls (and_right (is_double_link m l) (all (is_double_link m) ls) t))

links_are_darts : (m : Hypermap) (ls : List DoubleLink) → is_ring_of m ls ≡ true → are_darts m ls ≡ true
links_are_darts m ls r = double_darts m ls (ring_to m ls r).0

pub accepted_darts : (w : Table) (ws : List ℕ) → ring_refusal w ws ≡ 0 → are_darts (hypermap_of w) (links_of ws) ≡ true
accepted_darts w ws e = links_are_darts (hypermap_of w) (links_of ws) ((conditions_law w ws).0 e).1

-- a ring leaves a table that holds the break
pub accepted_cut : (w : Table) (ws : List ℕ) → holds_hypermap w ≡ true → ring_refusal w ws ≡ 0 → IsCut w (links_of ws)
accepted_cut w ws s e = cut_law w (links_of ws) s (accepted_darts w ws e)

module _
    (w : Table) (l : DoubleLink) (ls : List DoubleLink) (s : holds_hypermap w ≡ true)
    (ring : is_ring_of (hypermap_of w) (l ∷ ls) ≡ true) where
  abbrev m : Hypermap
  m = hypermap_of w

  abbrev v : Table
  v = cut_along (l ∷ ls) w

  abbrev broken : Hypermap
  broken = break_along (l ∷ ls) m

  is_cut : IsCut w (l ∷ ls)
  is_cut = cut_law w (l ∷ ls) s (links_are_darts (hypermap_of w) (l ∷ ls) ring)

  pairs : (is_ring m l ls ≡ true) × (pairs_differ (l ∷ ls) ≡ true)
  unfolding is_ring_of
  pairs = (
    and_left (is_ring m l ls) (pairs_differ (l ∷ ls)) ring,
    and_right (is_ring m l ls) (pairs_differ (l ∷ ls)) ring,
  )

  wf : is_hypermap m ≡ true
  wf = table_hypermap w s

  wf_broken : is_hypermap broken ≡ true
  wf_broken = (stands_after m wf l ls pairs.0 pairs.1).hypermap

  agrees : Agrees broken (hypermap_of v)
  agrees = holds_agrees v broken is_cut.holds

  parted : IsParted m broken l ls → IsParted m (hypermap_of v) l ls
  parted p =
      let e = break_darts (l ∷ ls) m in
      let d = (ring_darts m wf l ls pairs.0).0 in
      parted_agrees broken (hypermap_of v) wf_broken (table_hypermap v is_cut.hypermap) agrees m l ls e
      (rw e d.in_first) (rw e d.in_second) p

  planar : is_planar broken ≡ true → is_planar (hypermap_of v) ≡ true
  planar t =
      let a = answers_agree broken (hypermap_of v) wf_broken (table_hypermap v is_cut.hypermap) agrees in
      ap (λ g. eqb g 0) a.same_genus ∙ t

pub parting_law : PartingLaw
parting_law w ws l ls s e q p =
    let r = rw q at ((conditions_law w ws).0 e).1 in
    let i = pairs w l ls s r in
    rw q (parted w l ls s r (jordan_theorem (hypermap_of w) (table_hypermap w s) l ls i.0 i.1 p))

pub planar_parting_law : PlanarPartingLaw
planar_parting_law w ws l ls s e q p =
    let r = rw q at ((conditions_law w ws).0 e).1 in
    let i = pairs w l ls s r in
    let j = planar_jordan_theorem (hypermap_of w) (table_hypermap w s) l ls i.0 i.1 p in
    rw q (parted w l ls s r j.0, planar w l ls s r j.1)
