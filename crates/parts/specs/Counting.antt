-- Counts whose sums an i32 holds, and the genus as the solution of Euler's equation.
use Rattle.std.specs.Prelude.{◌≡◌, ℕ, ◌*◌, ◌≤◌}
use Rattle.std.specs.Prelude.{ℤ, pos, ◌+ℤ◌}
use Rattle.table.specs.Limits.{max_capacity}

-- COUNTS that an i32 has room for
pub record Few (d e v f : ℕ) : Type 0 where
  pub darts : d ≤ max_capacity
  pub edges : e ≤ max_capacity
  pub vertices : v ≤ max_capacity
  pub faces : f ≤ max_capacity

-- Euler's equation has a solution, which is the genus
pub record HasGenus (components : ℕ) (characteristic : ℤ) : Type 0 where
  pub few : components ≤ max_capacity
  pub genus : ℕ
  pub small : genus ≤ 2 * max_capacity
  pub euler : characteristic +ℤ pos (2 * genus) ≡ pos (2 * components)
