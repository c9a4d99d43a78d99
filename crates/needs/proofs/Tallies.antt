-- A tape counted command by command: each command is added to the counts of those before it.
use mathlib.Core.Path.{◌≡◌, refl, sym, ap, ◌∙◌}
use mathlib.Core.Logic.{◌⊎◌, inl, inr, ⊎_elim}
use mathlib.Core.List.{List, [], ◌∷◌, ◌++◌}
use Prim.Native.Nat.{ℕ, suc, ◌+◌, ◌*◌, ◌-◌, ◌≤◌, ◌<◌}
use native.Mathlib.Omega.{arith}
use lib.ListN.{length, take, drop}
use borrow.Author.Tests.{eq-eqb, ne_eqb}
use borrow.Author.Rules.{part_to_end}
use Rattle.std.specs.Prelude.{Result, Ok}
use Rattle.std.specs.Result.{IsErrAnd}
use Rattle.std.proofs.lemmas.Result.{err_from_is_err_and}
use Rattle.hypermap.specs.Hypermap.{Dimension}
use Rattle.table.specs.Limits.{words_per_change}
use Rattle.table.specs.Replies.{number}
use Rattle.table.specs.declared.refusals.Refusal.{Refusal}
use Rattle.table.proofs.Replying.{number_positive}
use Rattle.table.specs.Commands.{puts, takes_out, joins, cuts}
use Rattle.tape.specs.Steps.{TapeCommand, changes, reports, cuts_ring}
use Rattle.tape.specs.Tapes.{command_of, read_refusal, size_of, rest_of, contents_of}
use Rattle.tape.specs.Inner.{meaning}
use Rattle.tape.specs.declared.Instruction.{Instruction}
use Rattle.tape.proofs.Contents.{rest_shorter, reading_law, size_fits}
use Rattle.tape.proofs.Playing.{nothing_left, something_left}
use Rattle.needs.specs.Amounts.{named_by, named_in, larger, greatest, puts_by, take_outs_by, peak_of, changes_by, total}
use Rattle.needs.specs.Amounts.{needs_of, needed_by}
use Rattle.needs.specs.Replies.{needs_in}
use Rattle.needs.specs.declared.Amounts.{Amounts}
use Rattle.needs.specs.Inner.{peak_after, below_after, added, one_more}
use Rattle.needs.specs.declared.Needs.{Needs}
use Rattle.needs.specs.declared.Tally.{Tally}
use Rattle.needs.proofs.Greatest.{max_larger, larger_zero, zero_larger, larger_assoc, greatest_append}

-- ONE COMMAND, by the parts that are counted of it
pub added_by :
    (t : Tally) (c : TapeCommand) (g p b n : ℕ) → g ≡ greatest (named_by c) → p ≡ peak_after t.peak t.below c →
    b ≡ below_after t.below c → n ≡ changes_by c → record (one_more t g n) { peak = p; below = b } ≡ added t c
added_by t c g p b n eg ep eb en = rw (eg, ep, eb, en)

-- a join or a cut of a and b
pub added_swap :
    (t : Tally) (k : Dimension) (a b : ℕ) →
    (one_more t (larger a b) 1 ≡ added t (changes (joins k a b))) ×
    (one_more t (larger a b) 1 ≡ added t (changes (cuts k a b)))
unfolding greatest
added_swap t k a b =
    let e = sym (ap (larger a) (larger_zero b)) in (
      added_by t (changes (joins k a b)) _ _ _ 1 e (omega arith) (omega arith) refl,
      added_by t (changes (cuts k a b)) _ _ _ 1 e (omega arith) (omega arith) refl,
    )

-- ALL COMMANDS: what is counted of cs behind t, in closed form
abbrev counted : Tally → List TapeCommand → Needs
counted t cs = record {
  number = 0;
  capacity = larger t.capacity (greatest (named_in cs));
  commands = t.commands + length cs;
  peak = t.peak + (peak_of cs - t.below);
  words = words_per_change * (t.changes + total changes_by cs);
}

-- no command is both, and none puts more than one dart
at_most_one :
    (c : TapeCommand) → (puts_by c ≤ 1) × (take_outs_by c ≤ 1) × ((puts_by c ≡ 0) ⊎ (take_outs_by c ≡ 0))
at_most_one (changes (puts x)) = (omega arith, omega arith, inr refl)
at_most_one (changes (takes_out x)) = (omega arith, omega arith, inl refl)
at_most_one (changes (joins k a b)) = (omega arith, omega arith, inl refl)
at_most_one (changes (cuts k a b)) = (omega arith, omega arith, inl refl)
at_most_one reports = (omega arith, omega arith, inl refl)
at_most_one (cuts_ring ws) = (omega arith, omega arith, inl refl)

-- what is left of the rest's peak above the peak so far
peak_on :
    (p b q : ℕ) (c : TapeCommand) →
    p + (puts_by c + q - take_outs_by c - b) ≡ peak_after p b c + (q - below_after b c)
peak_on p b q c = let h = at_most_one c in ⊎_elim (λ e. omega (arith, h.1)) (λ e. omega (arith, h.0)) h.2

counted_on : (t : Tally) (c : TapeCommand) (cs : List TapeCommand) → counted t (c ∷ cs) ≡ counted (added t c) cs
unfolding named_in peak_of total
counted_on t c cs =
    let g : larger t.capacity (greatest (named_by c ++ named_in cs)) ≡
    larger (larger t.capacity (greatest (named_by c))) (greatest (named_in cs)) =
    ap (larger t.capacity) (greatest_append (named_by c) (named_in cs)) ∙
    larger_assoc t.capacity (greatest (named_by c)) (greatest (named_in cs)) in
    let n : t.commands + suc (length cs) ≡ t.commands + 1 + length cs = omega arith in
    let p = peak_on t.peak t.below (peak_of cs) c in
    let m : t.changes + (changes_by c + total changes_by cs) ≡ t.changes + changes_by c + total changes_by cs =
    omega arith in
    rw (g, n, p, m)

abbrev pub nothing : Tally
nothing = record { capacity = 0; commands = 0; peak = 0; below = 0; changes = 0 }

counted_first : (cs : List TapeCommand) → needs_of cs ≡ counted nothing cs
counted_first cs =
    let g = zero_larger (greatest (named_in cs)) in
    let n : 0 + length cs ≡ length cs = omega arith in
    let p : 0 + (peak_of cs - 0) ≡ peak_of cs = omega arith in
    let m : 0 + total changes_by cs ≡ total changes_by cs = omega arith in
    rw (g, n, p, m)

-- THE STATE of a count: t is counted, rest is left of the tape
pub record Counting (tape rest : List ℕ) (t : Tally) : Type 0 where
  pub commands : t.commands + length rest ≤ length tape
  pub peak : t.peak ≤ t.commands
  pub below : t.below ≤ t.commands
  pub changes : t.changes ≤ 255 * t.commands
  pub refusal : (contents_of tape).refusal ≡ (contents_of rest).refusal
  pub same : needs_of (contents_of tape).commands ≡ counted t (contents_of rest).commands

pub counting_first : (tape : List ℕ) → Counting tape tape nothing
counting_first tape = record {
  commands = omega arith;
  peak = omega arith;
  below = omega arith;
  changes = omega arith;
  refusal = refl;
  same = counted_first (contents_of tape).commands;
}

module _ (tape rest : List ℕ) (t : Tally) (h : Counting tape rest t) where
  pub counting_end :
      length rest ≡ 0 →
      needs_in (Ok (record {
        capacity = t.capacity;
        commands = t.commands;
        peak = t.peak;
        words = words_per_change * t.changes;
      })) ≡ needed_by (contents_of tape)
  unfolding needed_by named_in greatest peak_of total
  counting_end e =
      let r = (reading_law rest).none e in
      let z : (contents_of tape).refusal ≡ 0 = h.refusal ∙ ap (λ s. s.refusal) r in
      let s : needs_of (contents_of tape).commands ≡ counted t [] = h.same ∙ ap (λ s. counted t s.commands) r in
      let n : t.commands + 0 ≡ t.commands = omega arith in
      let p : t.peak + (0 - t.below) ≡ t.peak = omega arith in
      let m : t.changes + 0 ≡ t.changes = omega arith in
      rw (eq-eqb (contents_of tape).refusal 0 z, s, larger_zero t.capacity, n, p, m)

  module _ (some : 0 < length rest) where
    -- the decoder answers the refusal d
    pub counting_refused :
        (d : Refusal) (r : Result Amounts Refusal) → IsErrAnd r (λ y. y ≡ d) → number d ≡ read_refusal rest →
        needs_in r ≡ needed_by (contents_of tape)
    unfolding needed_by
    counting_refused d r q e =
        let p = err_from_is_err_and r q in
        let z : read_refusal rest ≡ 0 → ⊥ = λ y. number_positive d (e ∙ y) in
        let f : (contents_of tape).refusal ≡ number d =
        h.refusal ∙ ap (λ s. s.refusal) ((reading_law rest).refused some z) ∙ sym e in
        rw (p.1, p.2, ne_eqb (contents_of tape).refusal 0 (λ y. number_positive d (sym f ∙ y)), f)

    -- or it reads i, of n bytes
    pub counting_on :
        (i : Instruction) (n : ℕ) →
        (read_refusal rest ≡ 0) × (meaning rest i ≡ command_of rest) × (n ≡ size_of rest) → (u : Tally) →
        u ≡ added t (meaning rest i) → u.changes ≤ t.changes + 255 →
        Counting tape (take (length rest - n) (drop n rest)) u
    counting_on i n w u e l =
        let g : u ≡ added t (command_of rest) = rw w.1 at e in
        let read = (reading_law rest).read some w.0 in
        let x = rest_shorter rest some in
        let k : u.commands ≡ t.commands + 1 = ap (λ s. s.commands) g in
        let o = at_most_one (command_of rest) in
        let p : u.peak ≤ t.peak + 1 = rw g (omega (arith, o.0)) in
        let d : u.below ≤ t.below + 1 = rw g (omega (arith, o.1)) in
        rw (part_to_end, w.2)
        (record {
          commands = omega (arith, h.commands);
          peak = omega (arith, h.peak);
          below = omega (arith, h.below);
          changes = omega (arith, h.changes);
          refusal = h.refusal ∙ ap (λ s. s.refusal) read;
          same =
              h.same ∙ ap (λ s. counted t s.commands) read ∙
              counted_on t (command_of rest) (contents_of (rest_of rest)).commands ∙
              ap (λ s. counted s (contents_of (rest_of rest)).commands) (sym g);
        })

-- WHAT THE FUNCTIONS ARE PROVED BY
pub ruleset adding = (max_larger, larger_zero, added_by, added_swap)

pub ruleset counting = (
  part_to_end,
  size_fits,
  rest_shorter,
  nothing_left,
  something_left,
  counting_first,
  counting_end,
  counting_refused,
  counting_on,
)
