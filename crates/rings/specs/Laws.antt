-- What holds of rings in tables: each law is a type, and its proof a term of that type in proofs/.
use Rattle.std.specs.Prelude.{◌≡◌, ◌↔◌, Bool, true, false, ◌&&◌, List, [], ◌∷◌, ℕ, length}
use Rattle.lists.specs.Lists.{all}
use Rattle.hypermap.specs.Hypermap.{Hypermap, is_dart, is_planar, component_at}
use Rattle.hypermap.specs.Ring.{DoubleLink, is_ring, pairs_differ, break_along}
use Rattle.hypermap.specs.RingLaws.{IsParted}
use Rattle.table.specs.Layout.{Table, holds_hypermap, hypermap_of}
use Rattle.table.specs.Runs.{command_rule, after_all, AllAccepted}
use Rattle.table.specs.Laws.{Holds}
use Rattle.rings.specs.Rings.{links_of, is_list, ring_refusal, cut_along, cuts_of}

-- a ring by 2.7 whose pairs differ; no list of no double-links is one
unfoldable pub is_ring_of : Hypermap → List DoubleLink → Bool
is_ring_of m [] = false
is_ring_of m (l ∷ ls) = is_ring m l ls && pairs_differ (l ∷ ls)

-- the conditions that accept a list are those of 2.6 and 2.7, and that the darts of each pair differ
abbrev pub ConditionsLaw : Type 0
ConditionsLaw =
    (w : Table) (ws : List ℕ) →
    (ring_refusal w ws ≡ 0) ↔ ((is_list ws ≡ true) × (is_ring_of (hypermap_of w) (links_of ws) ≡ true))

-- the changes of words make the break of 2.8
pub record IsCut (w : Table) (ls : List DoubleLink) : Type 0 where
  pub size : length (cut_along ls w) ≡ length w
  pub hypermap : holds_hypermap (cut_along ls w) ≡ true
  pub holds : Holds (cut_along ls w) (break_along ls (hypermap_of w))

abbrev pub are_darts : Hypermap → List DoubleLink → Bool
are_darts m ls = all (λ l. is_dart m l.first && is_dart m l.second) ls

abbrev pub CutLaw : Type 0
CutLaw =
    (w : Table) (ls : List DoubleLink) → holds_hypermap w ≡ true → are_darts (hypermap_of w) ls ≡ true → IsCut w ls

-- an accepted ring is its edge cuts, each accepted in turn
abbrev pub RingCutsLaw : Type 0
RingCutsLaw =
    (w : Table) (ws : List ℕ) → holds_hypermap w ≡ true → ring_refusal w ws ≡ 0 →
    AllAccepted command_rule w (cuts_of (links_of ws)) ×
    (after_all command_rule w (cuts_of (links_of ws)) ≡ cut_along (links_of ws) w)

-- Theorem 2.9 for an accepted list: only the ring's own component need be planar
abbrev pub PartingLaw : Type 0
PartingLaw =
    (w : Table) (ws : List ℕ) (l : DoubleLink) (ls : List DoubleLink) → holds_hypermap w ≡ true →
    ring_refusal w ws ≡ 0 →
    links_of ws ≡ l ∷ ls → is_planar (component_at (hypermap_of w) l.first) ≡ true →
    IsParted (hypermap_of w) (hypermap_of (cut_along (links_of ws) w)) l ls

-- on a planar hypermap, which stays planar
abbrev pub PlanarPartingLaw : Type 0
PlanarPartingLaw =
    (w : Table) (ws : List ℕ) (l : DoubleLink) (ls : List DoubleLink) → holds_hypermap w ≡ true →
    ring_refusal w ws ≡ 0 →
    links_of ws ≡ l ∷ ls → is_planar (hypermap_of w) ≡ true →
    IsParted (hypermap_of w) (hypermap_of (cut_along (links_of ws) w)) l ls ×
    (is_planar (hypermap_of (cut_along (links_of ws) w)) ≡ true)
