-- A run is a fold of its commands, and how a loop makes it: k commands are accepted, and the outcome of the whole is
-- that of the rest with k more.
use Rattle.std.proofs.Common.{◌≡◌, ℕ, suc, ◌+◌, eqb, List, [], ◌∷◌, ◌++◌, length, refl, ap, arith, eq-eqb, ne_eqb}
use Rattle.std.proofs.Common.{eqb-true}
use borrow.Author.Tests.{eqb-false}
use Rattle.lists.proofs.Bools.{by_cases}
use Rattle.table.specs.Runs.{Rule, Outcome, stopped, one_more, run_by, after_all, AllAccepted, IsRun, RunLaw}

module _ {S C : Type 0} (r : Rule S C) where
  run : (cs : List C) (s : S) (n : ℕ) → IsRun r s cs n (run_by r s cs n)
  unfolding run_by
  run [] s n = record {
    few = omega arith;
    accepted = tt;
    state = refl;
    stopped = λ c rest e. absurd (let z : 0 ≡ suc (length rest) = cc in omega arith);
    ended = λ e. refl;
  }
  run (c ∷ cs) s n =
      by_cases (eqb (r.refusal s c) 0)
      (λ t. let i = run cs (r.on s c) n in rw t (record {
        few = omega arith;
        accepted = (eqb-true (r.refusal s c) 0 t, i.accepted);
        state = i.state;
        stopped = i.stopped;
        ended = i.ended;
      }))
      (λ f. rw f (record {
        few = omega arith;
        accepted = tt;
        state = refl;
        stopped = λ d rest e. let q : c ≡ d = cc in (rw q, eqb-false (r.refusal s c) 0 f);
        ended = λ e. absurd (let z : 0 ≡ suc (length cs) = cc in omega arith);
      }))

  -- a run that nothing stops has accepted every command and ends by 0
  pub unstopped :
      (cs : List C) (s : S) (n : ℕ) → (run_by r s cs n).number ≡ 0 →
      AllAccepted r s cs × (n ≡ 0) × ((run_by r s cs n).accepted ≡ length cs)
  unfolding run_by
  unstopped [] s n e = (tt, e, refl)
  unstopped (c ∷ cs) s n e =
      by_cases (eqb (r.refusal s c) 0)
      (λ t.
      let i = unstopped cs (r.on s c) n (rw t at e) in
      rw t ((eqb-true (r.refusal s c) 0 t, i.0), i.1, ap suc i.2))
      (λ f. absurd (eqb-false (r.refusal s c) 0 f (rw f at e)))

  -- and the other way
  pub run_whole :
      (cs : List C) (s : S) (n : ℕ) → AllAccepted r s cs →
      run_by r s cs n ≡ record { number = n; accepted = length cs; state = after_all r s cs }
  unfolding run_by
  run_whole [] s n a = refl
  run_whole (c ∷ cs) s n a = rw (eq-eqb (r.refusal s c) 0 a.0) (ap one_more (run_whole cs (r.on s c) n a.1))

  -- TWO LISTS of commands, one after the other
  pub after_both : (s : S) (cs ds : List C) → after_all r s (cs ++ ds) ≡ after_all r (after_all r s cs) ds
  after_both s [] ds = refl
  after_both s (c ∷ cs) ds = after_both (r.on s c) cs ds

  pub accepted_both :
      (s : S) (cs ds : List C) → AllAccepted r s cs → AllAccepted r (after_all r s cs) ds → AllAccepted r s (cs ++ ds)
  accepted_both s [] ds a b = b
  accepted_both s (c ∷ cs) ds a b = (a.0, accepted_both (r.on s c) cs ds a.1 b)

  -- what every accepted command keeps, a run keeps
  pub run_keeps :
      (P : S → Type 0) → ((s : S) (c : C) → P s → r.refusal s c ≡ 0 → P (r.on s c)) →
      (cs : List C) (s : S) (n : ℕ) → P s → P (run_by r s cs n).state
  unfolding run_by
  run_keeps P step [] s n p = p
  run_keeps P step (c ∷ cs) s n p =
      by_cases (eqb (r.refusal s c) 0)
      (λ t. rw t (run_keeps P step cs (r.on s c) n (step s c p (eqb-true (r.refusal s c) 0 t)))) (λ f. rw f p)

  -- BY ITS FIRST COMMAND
  module _ (c : C) (cs : List C) (s : S) (n : ℕ) where
    pub run_stops : (r.refusal s c ≡ 0 → ⊥) → run_by r s (c ∷ cs) n ≡ stopped (r.refusal s c) s
    unfolding run_by
    run_stops d = rw (ne_eqb (r.refusal s c) 0 d)

    pub run_goes_on : r.refusal s c ≡ 0 → run_by r s (c ∷ cs) n ≡ one_more (run_by r (r.on s c) cs n)
    unfolding run_by
    run_goes_on z = rw (eq-eqb (r.refusal s c) 0 z)

pub run_law : RunLaw
run_law S C r s cs n = run r cs s n

-- THE LOOP: k commands were accepted before
module _ {S : Type 0} where
  abbrev pub later : (k : ℕ) → Outcome S → Outcome S
  later k o = record { number = o.number; accepted = k + o.accepted; state = o.state }

  pub later_one : (k : ℕ) (o : Outcome S) → later k (one_more o) ≡ later (k + 1) o
  later_one k o = let z : k + suc o.accepted ≡ k + 1 + o.accepted = omega arith in rw z

  pub later_stopped : (k n : ℕ) (s : S) → later k (stopped n s) ≡ record { number = n; accepted = k; state = s }
  later_stopped k n s = let z : k + 0 ≡ k = omega arith in rw z
