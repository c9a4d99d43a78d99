-- LAW 4, of orbits: a change joins two orbits or cuts one, by the splicing of total steps.
use mathlib.Core.Path.{◌≡◌, subst}
use mathlib.Core.Bool.{true, false}
use mathlib.Core.List.{List}
use mathlib.Core.Logic.{◌↔◌}
use Prim.Native.Nat.{ℕ}
use Rattle.lists.proofs.Bools.{by_cases, clash, refuted}
use Rattle.lists.proofs.Lists.{Mem}
use Rattle.hypermap.specs.Hypermap.{Dimension, Hypermap, is_hypermap, of, same_orbit}
use Rattle.hypermap.specs.Change.{change}
use Rattle.hypermap.specs.Laws.{Reaches, JoinOrCutLaw}
use Rattle.hypermap.proofs.Permutations.Reaching.{Permutation, reach_back}
use Rattle.hypermap.proofs.Permutations.Splicing.{after, after_permutation, joined, parted}
use Rattle.hypermap.proofs.Permutations.Joining.{changed_at}
use Rattle.hypermap.proofs.Hypermaps.Totals.{backs}
use Rattle.hypermap.proofs.Hypermaps.TotalCounts.{same_orbit_is, falling, falling_in, falling_permutations}
use Rattle.hypermap.proofs.Hypermaps.TotalCounts.{backs_changed}
use Rattle.hypermap.proofs.Laws.Changes.{change_hypermap}

module _
    (m : Hypermap) (wf : is_hypermap m ≡ true) (k : Dimension) (a b : ℕ) (ha : Mem a m.darts)
    (hb : Mem b m.darts) where
  abbrev ds : List ℕ
  ds = falling m wf

  abbrev f : ℕ → ℕ
  f = backs m wf k

  p : Permutation ds f
  p = falling_permutations m wf k

  together : (same_orbit m (of k) a b ≡ true) ↔ Reaches f a b
  together = same_orbit_is m wf (of k) a b ha

  together_after : (same_orbit (change k a b m) (of k) a b ≡ true) ↔ Reaches (after f a b) a b
  together_after =
      let wf' = change_hypermap m k a b wf ha hb in
      subst (λ g. (same_orbit (change k a b m) (of k) a b ≡ true) ↔ Reaches g a b) (changed_at k a b (backs m wf))
      (subst (λ s. (same_orbit (change k a b m) (of k) a b ≡ true) ↔ Reaches (s k) a b)
      (backs_changed m wf k a b ha hb wf') (same_orbit_is (change k a b m) wf' (of k) a b ha))

  joins : same_orbit m (of k) a b ≡ false → same_orbit (change k a b m) (of k) a b ≡ true
  joins n =
      together_after.1
      (joined ds f p a b (after_permutation ds f p a b (falling_in m wf a ha) (falling_in m wf b hb))
      (λ r. clash (together.1 r) n)).link

  cuts : (a ≡ b → ⊥) → same_orbit m (of k) a b ≡ true → same_orbit (change k a b m) (of k) a b ≡ false
  cuts d t =
      refuted _ (λ u. parted f a b d (reach_back ds f p a b (together.0 t)) (together_after.0 u))

pub join_or_cut_law : JoinOrCutLaw
join_or_cut_law m wf k a b ha hb d =
    by_cases (same_orbit m (of k) a b) (λ t. rw t (cuts m wf k a b ha hb d t)) (λ t. rw t (joins m wf k a b ha hb t))
