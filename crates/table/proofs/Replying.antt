-- How a reply follows from the stages of code: one that stops with a refusal, and one that goes on.
use Rattle.std.proofs.Common.{◌≡◌, ℕ, Bool, true, false, Result, Ok, Err, sym, ◌∙◌, refl, arith}
use Rattle.std.specs.Result.{IsErrAnd, result_and}
use Rattle.std.proofs.lemmas.Result.{err_from_is_err_and}
use borrow.Author.Tests.{ne_eqb}
use Rattle.table.specs.Refusals.{or_else, unless}
use Rattle.table.specs.Replies.{number, reply}
use Rattle.table.specs.declared.refusals.Refusal.{Refusal}
use Rattle.table.proofs.Stages.{refused_first, refused_second}

-- no refusal has the number 0
pub number_positive : (r : Refusal) → number r ≡ 0 → ⊥
number_positive r e = grind arith

-- a stage by a test: the refusal where the test fails, and 0 where it holds
pub fails : (r t : Bool) (n : ℕ) → r ≡ t → r ≡ false → n ≡ unless t n
unfolding unless
fails r t n e f = rw (sym e ∙ f)

pub holds : (r t : Bool) (n : ℕ) → r ≡ t → r ≡ true → 0 ≡ unless t n
unfolding unless
holds r t n e f = rw (sym e ∙ f)

-- the exit of a `?`: what stopped the first stage is the reply
pub stops :
    {A : Type 0} (r : Result A Refusal) (d : Refusal) (n m : ℕ) → IsErrAnd r (λ y. y ≡ d) → number d ≡ n →
    reply r ≡ or_else n m
stops r d n m q e =
    let p = err_from_is_err_and r q in rw (p.1, p.2) (refused_first n m (number d) e (number_positive d))

-- or it replies as it stopped
pub exits : {A : Type 0} (r : Result A Refusal) (d : Refusal) → IsErrAnd r (λ y. y ≡ d) → reply r ≡ number d
exits r d q = let p = err_from_is_err_and r q in rw (p.1, p.2)

-- past the `?` the second stage replies
pub goes_on : (n m k : ℕ) → 0 ≡ n → k ≡ m → k ≡ or_else n m
goes_on n m k e q = refused_second n m 0 k e refl q

-- two answers, of which the first that refuses is the reply
pub in_turn :
    {A B : Type 0} (r : Result A Refusal) (s : Result B Refusal) → reply (result_and r s) ≡ or_else (reply r) (reply s)
unfolding or_else
in_turn (Ok x) s = refl
in_turn (Err d) s = rw (ne_eqb (number d) 0 (number_positive d))

module _
    {A B : Type 0} (r : Result A Refusal) (n : ℕ) (e : reply r ≡ n) (s t : Result B Refusal)
    (q : t ≡ result_and r s) where
  last_reply : reply t ≡ or_else n (reply s)
  last_reply = rw (q, in_turn r s, e)

  pub last_refuses : (d : Refusal) → t ≡ Err d → number d ≡ or_else n (reply s)
  last_refuses d p = rw p at last_reply

  pub last_accepts : (x : B) → t ≡ Ok x → 0 ≡ or_else n (reply s)
  last_accepts x p = rw p at last_reply
