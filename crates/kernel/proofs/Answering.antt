-- How a call's answer and what it leaves come of its stages: the table is judged first, and then the rest answers.
use mathlib.Core.Path.{◌≡◌, ap, sym, ◌∙◌}
use mathlib.Core.Bool.{Bool}
use Prim.Native.Nat.{ℕ}
use borrow.Author.Tests.{eq-eqb}
use Rattle.hypermap.specs.Hypermap.{Hypermap}
use Rattle.parts.specs.Counts.{counts_of}
use Rattle.parts.specs.declared.Counts.{Counts}
use Rattle.kernel.specs.Calls.{totals_of, report_on, answer}

-- an answer that is not refused
pub given_answer :
    (f n : ℕ) (t : Bool) (k : ℕ) → f ≡ n → f ≡ 0 → record { number = 0; yes = t; count = k } ≡ answer n t k
unfolding answer
given_answer f n t k e z = rw (eq-eqb n 0 (sym e ∙ z))

-- and a report that is not
pub given_report :
    (n : ℕ) (m : Hypermap) (f : ℕ) (c : Counts) → f ≡ n → f ≡ 0 → c ≡ counts_of m → totals_of c ≡ report_on n m
unfolding report_on
given_report n m f c e z q = rw (eq-eqb n 0 (sym e ∙ z)) (ap totals_of q)
