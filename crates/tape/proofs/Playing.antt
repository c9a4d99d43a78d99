-- A tape played a command at a time, for any rule: the run so far, and how each command carries it on or ends it.
use Rattle.std.specs.Bool.{⊤}
use mathlib.Core.Path.{◌≡◌, refl, sym, ap, ◌∙◌}
use mathlib.Core.List.{List}
use Prim.Native.Nat.{ℕ, ◌+◌, ◌-◌, ◌≤◌, ◌<◌}
use native.Mathlib.Omega.{arith}
use lib.ListN.{length, take, drop}
use mathlib.Core.Bool.{Bool, true, false}
use borrow.Author.Tests.{eq-eqb, ne_eqb, eqb-true, eqb-false}
use lib.Dec.{eqb}
use borrow.Author.Rules.{part_to_end}
use Rattle.std.specs.Prelude.{Result, Ok, Err, MatchResult, IfOk, IsErrAnd, is_ok}
use Rattle.std.proofs.lemmas.Bool.{false≢true}
use Rattle.std.proofs.lemmas.Result.{err_from_is_err_and}
use Rattle.lists.proofs.Bools.{by_cases}
use Rattle.table.specs.Refusals.{or_else}
use Rattle.table.specs.declared.refusals.Refusal.{Refusal}
use Rattle.table.specs.Replies.{number, reply}
use Rattle.table.proofs.Replying.{number_positive}
use Rattle.tape.specs.Replies.{run_reply}
use Rattle.tape.specs.declared.Stopped.{Stopped}
use Rattle.table.specs.Commands.{leaves}
use Rattle.table.proofs.Stages.{passed}
use Rattle.table.specs.Runs.{Rule, rule_leaves, Outcome, stopped, one_more, run_by}
use Rattle.table.proofs.Runs.{run_stops, run_goes_on, later, later_one, later_stopped}
use Rattle.tape.specs.Steps.{TapeCommand, reports}
use Rattle.tape.specs.Tapes.{Contents, command_of, read_refusal, rest_of, size_of}
use Rattle.tape.specs.Runs.{tape_run, first_refusal, first_leaves}
use Rattle.tape.proofs.Contents.{size_fits, rest_shorter, reading_law}

-- whether something is left of a tape, as code asks
pub nothing_left : (bs : List ℕ) (t : Bool) → t ≡ eqb (length bs) 0 → t ≡ true → length bs ≡ 0
nothing_left bs t e f = eqb-true (length bs) 0 (sym e ∙ f)

pub something_left : (bs : List ℕ) (t : Bool) → t ≡ eqb (length bs) 0 → t ≡ false → 0 < length bs
something_left bs t e f = let d = eqb-false (length bs) 0 (sym e ∙ f) in omega arith

-- A RUN by its first command
module _ {S : Type 0} (r : Rule S TapeCommand) (s : S) (bs : List ℕ) where
  abbrev run_through : Contents → Outcome S
  run_through t = run_by r s t.commands t.refusal

  pub run_none : length bs ≡ 0 → tape_run r s bs ≡ stopped 0 s
  unfolding run_by
  run_none e = ap run_through ((reading_law bs).none e)

  module _ (some : 0 < length bs) where
    pub run_refused : (read_refusal bs ≡ 0 → ⊥) → tape_run r s bs ≡ stopped (read_refusal bs) s
    unfolding run_by
    run_refused d = ap run_through ((reading_law bs).refused some d)

    module _ (e : read_refusal bs ≡ 0) where
      pub run_stopped :
          (r.refusal s (command_of bs) ≡ 0 → ⊥) → tape_run r s bs ≡ stopped (r.refusal s (command_of bs)) s
      run_stopped d = ap run_through ((reading_law bs).read some e) ∙ run_stops r _ _ s _ d

      pub run_on :
          r.refusal s (command_of bs) ≡ 0 →
          tape_run r s bs ≡ one_more (tape_run r (r.on s (command_of bs)) (rest_of bs))
      run_on z = ap run_through ((reading_law bs).read some e) ∙ run_goes_on r _ _ s _ z

-- A FIRST COMMAND that is accepted lies on the tape, and has a byte
module _ {S : Type 0} (r : Rule S TapeCommand) (s : S) (bs : List ℕ) (e : first_refusal r s bs ≡ 0) where
  pub first_read : read_refusal bs ≡ 0
  unfolding first_refusal
  first_read = (passed (read_refusal bs) (r.refusal s (command_of bs)) e).0

  pub first_accepted : r.refusal s (command_of bs) ≡ 0
  unfolding first_refusal
  first_accepted = (passed (read_refusal bs) (r.refusal s (command_of bs)) e).1

  module _ (n : ℕ) (z : n ≡ size_of bs) where
    pub first_fits : n ≤ length bs
    first_fits = rw z (size_fits bs first_read)

    pub first_rest : 0 < length bs → length (take (length bs - n) (drop n bs)) < length bs
    first_rest some = rw (part_to_end, z) (rest_shorter bs some)

-- the definitions that the check opens by itself on a first command, by one name
unfoldable pub definitions : ⊤
unfolding first_refusal first_leaves leaves or_else
definitions = tt

-- a report that is accepted and changes nothing leaves the state
pub report_leaves :
    {S : Type 0} (r : Rule S TapeCommand) (s : S) → r.refusal s reports ≡ 0 → r.on s reports ≡ s →
    s ≡ rule_leaves r s reports
unfolding leaves
report_leaves r s e k = rw (e, k)

-- THE STATE of a run: from s₀ and the whole tape, k commands on
pub record Playing {S : Type 0} (r : Rule S TapeCommand) (s₀ : S) (tape : List ℕ) (s : S)
    (rest : List ℕ) (k : ℕ) : Type 0 where
  pub few : k + length rest ≤ length tape
  pub same : tape_run r s₀ tape ≡ later k (tape_run r s rest)

-- it ends by n after k commands, with s
abbrev pub Ends : {S : Type 0} → Outcome S → (n k : ℕ) → S → Type 0
Ends o n k s = o ≡ record { number = n; accepted = k; state = s }

module _
    {S : Type 0} (r : Rule S TapeCommand) (s₀ : S) (tape : List ℕ) (s : S) (rest : List ℕ) (k : ℕ)
    (h : Playing r s₀ tape s rest k) where
  ends : (n : ℕ) → tape_run r s rest ≡ stopped n s → Ends (tape_run r s₀ tape) n k s
  ends n e = h.same ∙ ap (later k) e ∙ later_stopped k n s

  pub playing_end : length rest ≡ 0 → Ends (tape_run r s₀ tape) 0 k s
  playing_end e = ends 0 (run_none r s rest e)

  -- its first command has the refusal f and leaves t
  module _ (some : 0 < length rest) (f : ℕ) (e : f ≡ first_refusal r s rest) (t : S)
      (l : t ≡ first_leaves r s rest) where
    pub playing_stopped : (f ≡ 0 → ⊥) → Ends (tape_run r s₀ tape) f k t
    unfolding first_refusal first_leaves leaves or_else
    playing_stopped x =
        let u : t ≡ s = l ∙ rw (ne_eqb _ 0 (λ z. x (e ∙ z))) in
        by_cases (eqb (read_refusal rest) 0)
        (λ q.
        let z = eqb-true (read_refusal rest) 0 q in
        let g : f ≡ r.refusal s (command_of rest) = e ∙ rw q in
        rw (u, g) (ends _ (run_stopped r s rest some z (λ y. x (g ∙ y)))))
        (λ q.
        let g : f ≡ read_refusal rest = e ∙ rw q in
        rw (u, g) (ends _ (run_refused r s rest some (λ y. x (g ∙ y)))))

    pub playing_on :
        f ≡ 0 → (n : ℕ) → n ≡ size_of rest → Playing r s₀ tape t (take (length rest - n) (drop n rest)) (k + 1)
    unfolding first_leaves leaves
    playing_on z n q =
        let v = sym e ∙ z in
        let g = first_accepted r s rest v in
        let u : t ≡ r.on s (command_of rest) = l ∙ rw (eq-eqb _ 0 v) in
        let x = rest_shorter rest some in
        rw (part_to_end, u, q)
        (record {
          few = omega (arith, h.few);
          same = h.same ∙ ap (later k) (run_on r s rest some (first_read r s rest v) g) ∙ later_one k _;
        })

-- A RUN REFUSED before its first command: what a `?` leaves of a refusal
abbrev pub StoppedAtOnce : Result ℕ Stopped → Refusal → Type 0
StoppedAtOnce r d = IsErrAnd r (λ y. (y.refusal ≡ d) × (y.accepted ≡ 0))

pub stopped_reply :
    (r : Result ℕ Stopped) (d : Refusal) → StoppedAtOnce r d →
    run_reply r ≡ record { number = number d; accepted = 0 }
stopped_reply r d q = let p = err_from_is_err_and r q in rw (p.1, p.2.0, p.2.1)

-- AN ANSWER whose refusal is made what stops the run, after k commands
pub kept_on : {A : Type 0} (r : Result A Refusal) → true ≡ is_ok r → reply r ≡ 0
kept_on (Ok x) e = refl
kept_on (Err d) e = absurd (false≢true (sym e))

module _ {A : Type 0} (Goes : A → Type 0) (Stops : Refusal → Type 0) where
  pub kept_value :
      (r : Result A Refusal) (a : A) (P : A → Type 0) → MatchResult r Goes Stops → ((x : A) → Goes x → a ≡ x) →
      IfOk r P → true ≡ is_ok r → P a
  kept_value (Ok x) a P m f i e = rw (f x m) i
  kept_value (Err d) a P m f i e = absurd (false≢true (sym e))

  pub stopped_after :
      (r : Result A Refusal) (k : ℕ) (s : Stopped) (x : Result ℕ Stopped) → MatchResult r Goes Stops →
      ((d : Refusal) → Stops d → s ≡ record { refusal = d; accepted = k }) → IsErrAnd x (λ t. t ≡ s) →
      false ≡ is_ok r → (reply r ≡ 0 → ⊥) × (run_reply x ≡ record { number = reply r; accepted = k })
  stopped_after (Ok u) k s x m f i e = absurd (false≢true e)
  stopped_after (Err d) k s (Ok n) m f i e = absurd i
  stopped_after (Err d) k s (Err t) m f i e = (number_positive d, rw (i, f d m) refl)
