-- An accepted ring is its edge cuts, each accepted in turn: after its first cut the rest of a ring is a ring, so each
-- double-link still lies in one edge when it is cut.
use mathlib.Core.Path.{◌≡◌, refl, ap, sym, ◌∙◌, subst}
use mathlib.Core.Bool.{true, ◌&&◌}
use mathlib.Core.List.{List, [], ◌∷◌}
use Rattle.lists.specs.Lists.{among, all}
use Rattle.lists.proofs.Bools.{clash, and_left, and_right, and_true}
use Rattle.lists.proofs.Lists.{Mem}
use Rattle.hypermap.specs.Hypermap.{edge, Hypermap, is_hypermap, of, same_edge}
use Rattle.hypermap.specs.Change.{change}
use Rattle.hypermap.specs.Ring.{DoubleLink, is_ring, pairs_differ, break_along}
use Rattle.hypermap.proofs.Permutations.Rings.{Ring, rest_ring}
use Rattle.hypermap.proofs.Hypermaps.Totals.{backs}
use Rattle.hypermap.proofs.Hypermaps.TotalCounts.{same_orbit_is, falling, falling_permutations, backs_changed}
use Rattle.hypermap.proofs.Hypermaps.RingTests.{ring_of}
use Rattle.hypermap.proofs.Hypermaps.Alike.{Agrees, agrees_on, break_agrees, answers_agree}
use Rattle.hypermap.proofs.Laws.Orbits.{equal_orbits}
use Rattle.hypermap.proofs.Laws.Changes.{change_hypermap}
use Rattle.hypermap.proofs.Laws.Counts.{mem_reverse}
use Rattle.table.specs.Layout.{Table, is_present, holds_hypermap, hypermap_of}
use Rattle.table.specs.Commands.{swapped, is_together}
use Rattle.table.specs.Runs.{command_rule, after_all, AllAccepted}
use Rattle.table.proofs.Holding.{mem_present, table_hypermap, holds_agrees}
use Rattle.table.proofs.Accepting.{cut_fits}
use Rattle.table.proofs.Swaps.{swap_law}
use Rattle.rings.specs.Rings.{links_of, cut_along, cuts_of}
use Rattle.rings.specs.Laws.{is_ring_of, RingCutsLaw}
use Rattle.rings.proofs.Conditions.{conditions_law}

-- IN THE HYPERMAP: each double-link can be cut when its turn comes
record Severable (m : Hypermap) (l : DoubleLink) : Type 0 where
  in_first : Mem l.first m.darts
  in_second : Mem l.second m.darts
  one_edge : same_edge m l.first l.second ≡ true
  differ : l.first ≡ l.second → ⊥

abbrev InTurn : Hypermap → List DoubleLink → Type 0
InTurn m [] = Unit {0}
InTurn m (l ∷ ls) = Severable m l × InTurn (change edge l.first l.second m) ls

module _ (m : Hypermap) (wf : is_hypermap m ≡ true) (l : DoubleLink) (ls : List DoubleLink) where
  severable : Ring (falling m wf) (backs m wf) l ls → Severable m l
  severable ring =
      let u = ring.links.0 in
      let first : Mem l.first m.darts = sym (mem_reverse l.first m.darts) ∙ u.in_first in
      record {
        in_first = first;
        in_second = sym (mem_reverse l.second m.darts) ∙ u.in_second;
        one_edge = (same_orbit_is m wf (of edge) l.first l.second first).1 u.one_edge;
        differ = u.differ;
      }

in_turn :
    (ls : List DoubleLink) (l : DoubleLink) (m : Hypermap) (wf : is_hypermap m ≡ true) →
    Ring (falling m wf) (backs m wf) l ls → InTurn m (l ∷ ls)
in_turn [] l m wf ring = (severable m wf l [] ring, tt)
in_turn (k ∷ ls) l m wf ring =
    let t = severable m wf l (k ∷ ls) ring in
    let wf' = change_hypermap m edge l.first l.second wf t.in_first t.in_second in
    let e = backs_changed m wf edge l.first l.second t.in_first t.in_second wf' in (
      t,
      in_turn ls k (change edge l.first l.second m) wf'
          (subst (λ s. Ring (falling m wf) s k ls) (sym e)
          (rest_ring (falling m wf) (backs m wf) (falling_permutations m wf) l k ls ring)),
    )

-- IN A TABLE whose hypermap agrees with it
cuts_pass :
    (ls : List DoubleLink) (m : Hypermap) (w : Table) → is_hypermap m ≡ true → Agrees m (hypermap_of w) →
    holds_hypermap w ≡ true → InTurn m ls →
    AllAccepted command_rule w (cuts_of ls) × (after_all command_rule w (cuts_of ls) ≡ cut_along ls w)
unfolding cuts_of cut_along is_together break_along all
cuts_pass [] m w wf g s t = (tt, refl)
cuts_pass (l ∷ ls) m w wf g s t =
    let a = l.first in
    let b = l.second in
    let v = t.0 in
    let pa : is_present w a ≡ true = sym (mem_present w a) ∙ ap (among a) g.darts ∙ v.in_first in
    let pb : is_present w b ≡ true = sym (mem_present w b) ∙ ap (among b) g.darts ∙ v.in_second in
    let z = swap_law w s edge a b pa pb in
    let both = and_true (among a m.darts && among b m.darts) true
    (and_true (among a m.darts) (among b m.darts) v.in_first v.in_second) refl in
    let h = agrees_on (change edge a b m) (change edge a b (hypermap_of w)) (hypermap_of (swapped edge a b w))
    (break_agrees (l ∷ []) m (hypermap_of w) g both)
    (holds_agrees (swapped edge a b w) (change edge a b (hypermap_of w)) z.holds) in
    let r = cuts_pass ls (change edge a b m) (swapped edge a b w)
    (change_hypermap m edge a b wf v.in_first v.in_second) h z.hypermap t.1 in
    let same = (answers_agree m (hypermap_of w) wf (table_hypermap w s) g).same_orbits (of edge) a v.in_first in
    let f = cut_fits w edge a b (record {
      first = pa;
      second = pb;
      together = equal_orbits m (hypermap_of w) (of edge) a b same ∙ v.one_edge;
      differ = v.differ;
    }) in
    ((f, r.0), r.1)

ring_passes :
    (w : Table) → holds_hypermap w ≡ true → (ls : List DoubleLink) → is_ring_of (hypermap_of w) ls ≡ true →
    AllAccepted command_rule w (cuts_of ls) × (after_all command_rule w (cuts_of ls) ≡ cut_along ls w)
unfolding is_ring_of
ring_passes w s [] r = clash r refl
ring_passes w s (l ∷ ls) r =
    let m = hypermap_of w in
    let wf = table_hypermap w s in
    let i = and_left (is_ring m l ls) (pairs_differ (l ∷ ls)) r in
    let j = and_right (is_ring m l ls) (pairs_differ (l ∷ ls)) r in
    cuts_pass (l ∷ ls) m w wf (record { darts = refl; next = λ k x d. refl; back = λ k x d. refl }) s
    (in_turn ls l m wf (ring_of m wf l ls i j))

pub ring_cuts_law : RingCutsLaw
ring_cuts_law w ws s e = ring_passes w s (links_of ws) ((conditions_law w ws).0 e).1
