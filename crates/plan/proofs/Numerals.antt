-- A number in decimal is what std's formatting writes of it.
use mathlib.Core.Path.{◌≡◌, ap}
use mathlib.Core.List.{◌∷◌}
use Prim.Native.Nat.{ℕ, suc, ◌^◌, ◌<◌}
use native.Mathlib.Omega.{arith}
use lib.IntN.{ℤ, pos, negsuc}
use lib.Signed.{mag}
use mir.Syntax.{w32}
use mir.Val.{SFits, to_z, of_z}
use mir.Facts.{to_z-of_z}
use borrow.Author.Tests.{lt-ltb, le-ltb}
use Rattle.std.specs.Fmt as fmt
use Rattle.std.proofs.lemmas.Fmt.{AppendsLastDigit, decimal_from_appends, length-decimal-le}
use Rattle.plan.specs.Lines.{decimal_by, most_digits, decimal, signed}

last_digit : AppendsLastDigit decimal_by
unfolding decimal_by
last_digit = record {
  one = λ k n l. rw (lt-ltb n 10 l);
  more = λ k n l. rw (le-ltb n 10 l);
}

-- 20 digits hold a number of 64 bits
pub decimal_formatted : (n : ℕ) → n < 2 ^ 64 → decimal n ≡ fmt.decimal n
decimal_formatted n h =
    decimal_from_appends decimal_by last_digit most_digits n h (length-decimal-le 20 n (omega arith) (omega arith) h)

signed_same : (x : ℤ) → mag x < 2 ^ 63 → signed x ≡ fmt.signed_decimal x
signed_same (pos n) h = decimal_formatted n (omega arith)
signed_same (negsuc n) h = ap (λ l. 45 ∷ l) (decimal_formatted (suc n) (omega arith))

-- a signed number is read back from the bits of an i32
pub signed_formatted : (x : ℤ) → SFits w32 x → signed x ≡ fmt.signed_decimal (to_z w32 (of_z w32 x))
signed_formatted x f = rw (to_z-of_z f) (signed_same x (omega (arith, f)))
