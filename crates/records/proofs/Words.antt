-- The pairs of the first double-links: how they grow by one, and what is cut along the words of those that fit.
use mathlib.Core.Path.{◌≡◌, refl, sym, ap}
use mathlib.Core.Bool.{Bool, true, false, cond}
use mathlib.Core.List.{List, [], ◌∷◌, ◌++◌, map}
use Rattle.std.proofs.Common.{flat_map}
use Prim.Native.Nat.{ℕ, ◌+◌, ◌*◌, ◌<◌}
use native.Mathlib.Omega.{arith}
use lib.Dec.{ltb}
use borrow.Author.Tests.{ltb-true}
use lib.ListN.{length, get_or, take}
use lib.Seq.{take-length}
use Rattle.std.proofs.lemmas.List.{take_all, take_more, map-append, length-take-le}
use Rattle.table.specs.Limits.{max_double_links, max_ring}
use Rattle.table.specs.Layout.{Table}
use Rattle.tape.specs.Steps.{cuts_ring}
use Rattle.records.specs.declared.DoubleLink.{DoubleLink}
use Rattle.kernel.specs.Calls.{ring_call_refusal, ring_call_leaves}
use Rattle.journal_calls.specs.Calls.{State, perform_reply}
use Rattle.records.specs.Records.{words_of, fitted}
use Rattle.records.proofs.Calls.{long_as_none, journaled_long_as_none}

-- THE COPY: the first k double-links as pairs
abbrev pub pair_of : DoubleLink → List ℕ
pair_of l = l.first ∷ l.second ∷ []

pub pairs_more :
    (ls : List DoubleLink) (k : ℕ) (d : DoubleLink) → k < length ls →
    map pair_of (take k ls) ++ pair_of (get_or ls k d) ∷ [] ≡ map pair_of (take (k + 1) ls)
pairs_more ls k d l = rw (take_more ls k d l) (sym (map-append pair_of (take k ls) (get_or ls k d ∷ [])))

pub words_in_pairs : (ls : List DoubleLink) → flat_map (λ p. p) (map pair_of ls) ≡ words_of ls
unfolding words_of
words_in_pairs [] = refl
words_in_pairs (l ∷ ls) = ap (λ (ws : List ℕ). l.first ∷ l.second ∷ ws) (words_in_pairs ls)

length_words : (ls : List DoubleLink) → length (words_of ls) ≡ 2 * length ls
unfolding words_of
length_words [] = refl
length_words (l ∷ ls) = omega (arith, length_words ls)

-- what is the same of a list that is too long as of none is the same of the words that fit as of all
fitted_same :
    {X : Type 0} (f : List ℕ → X) → ((ws : List ℕ) → max_ring < length ws → f ws ≡ f []) → (ls : List DoubleLink) →
    f (words_of (take (fitted (length ls)) ls)) ≡ f (words_of ls)
unfolding fitted words_of
fitted_same {X} f long_as ls = same (ltb max_double_links (length ls)) refl
  where
    same :
        (t : Bool) → ltb max_double_links (length ls) ≡ t →
        f (words_of (take (cond t 0 (length ls)) ls)) ≡ f (words_of ls)
    same true e = sym (long_as (words_of ls) (omega (arith, ltb-true _ _ e, length_words ls)))
    same false e = ap (λ (ks : List DoubleLink). f (words_of ks)) (take-length ls)

-- to cut along the words that fit is to cut along all
module _ (ws : List ℕ) (ls : List DoubleLink) (e : ws ≡ words_of (take (fitted (length ls)) ls)) where
  pub fitted_refusal : (w : Table) → ring_call_refusal w ws ≡ ring_call_refusal w (words_of ls)
  fitted_refusal w = rw e (fitted_same (ring_call_refusal w) (λ us l. (long_as_none w us l).0) ls)

  pub fitted_leaves : (w : Table) → ring_call_leaves w ws ≡ ring_call_leaves w (words_of ls)
  fitted_leaves w = rw e (fitted_same (ring_call_leaves w) (λ us l. (long_as_none w us l).1) ls)

  pub fitted_reply : (s : State) → perform_reply s (cuts_ring ws) ≡ perform_reply s (cuts_ring (words_of ls))
  fitted_reply s = rw e (fitted_same (λ us. perform_reply s (cuts_ring us)) (journaled_long_as_none s) ls)

pub ruleset copying = (length-take-le, pairs_more, words_in_pairs, take_all)

pub ruleset fitting = (fitted_refusal, fitted_leaves, fitted_reply)
