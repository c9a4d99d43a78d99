-- How many double-links a ring on a tape has.
use mathlib.Core.Path.{◌≡◌, refl, ap}
use mathlib.Core.List.{List}
use Prim.Native.Nat.{ℕ, zero, suc, ◌+◌, ◌*◌}
use native.Mathlib.Omega.{arith}
use lib.ListN.{length}
use Rattle.rings.specs.Rings.{links_of}
use Rattle.tape.specs.Tapes.{numbers_from}

-- a ring of n double-links has 2 n words on the tape
pub links_numbered : (n i : ℕ) (bs : List ℕ) → length (links_of (numbers_from (2 * n) i bs)) ≡ n
unfolding links_of numbers_from
links_numbered zero i bs = refl
links_numbered (suc n) i bs =
    let e : 2 * suc n ≡ suc (suc (2 * n)) = omega arith in
    rw e (ap suc (links_numbered n (i + 2 + 2) bs))
