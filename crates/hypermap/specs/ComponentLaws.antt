-- What holds of the components of every hypermap, each by itself and together.
use Rattle.std.specs.Prelude.{◌≡◌, true, List, ℕ, ◌+◌, ◌*◌}
use Rattle.std.specs.Prelude.{length}
use Rattle.lists.specs.Lists.{sum_of, sum_of_integers}
use Rattle.hypermap.specs.Hypermap.{Hypermap, is_dart, is_hypermap, Kind}
use Rattle.hypermap.specs.Hypermap.{component_of, least_darts}
use Rattle.hypermap.specs.Hypermap.{orbits, components, all_orbits, characteristic, genus, component_at}

-- LAW 9. Each component is a connected hypermap of its own, with Euler's formula (Corollary 2.5) for any genus, and
-- their numbers add up: each component is represented by its smallest dart
abbrev pub representatives : Hypermap → List ℕ
representatives m = least_darts m (component_of m)

abbrev pub sum_over_components : Hypermap → (Hypermap → ℕ) → ℕ
sum_over_components m f = sum_of (λ x. f (component_at m x)) (representatives m)

pub record IsConnected (m : Hypermap) : Type 0 where
  pub hypermap : is_hypermap m ≡ true
  pub one : components m ≡ 1
  pub euler : all_orbits m + 2 * genus m ≡ 2 + length m.darts

pub record AddsUp (m : Hypermap) : Type 0 where
  pub darts : sum_over_components m (λ c. length c.darts) ≡ length m.darts
  pub orbits : (o : Kind) → sum_over_components m (λ c. orbits c o) ≡ orbits m o
  pub components : sum_over_components m components ≡ components m
  pub characteristic : sum_of_integers (λ x. characteristic (component_at m x)) (representatives m) ≡ characteristic m
  pub genus : sum_over_components m genus ≡ genus m

abbrev pub ComponentGenusLaw : Type 0
ComponentGenusLaw =
    (m : Hypermap) → is_hypermap m ≡ true →
    ((x : ℕ) → is_dart m x ≡ true → IsConnected (component_at m x)) × AddsUp m
