-- Checkpoints that fit the length of a journal: set, kept or dropped as the length is cut back, and read.
use mathlib.Core.Path.{◌≡◌, refl, sym, ◌∙◌}
use mathlib.Core.Bool.{true, ◌&&◌, not}
use mathlib.Core.List.{List, [], ◌∷◌, map}
use mathlib.Core.Logic.{◌≢◌}
use Prim.Native.Nat.{ℕ, zero, suc, ◌≤◌, ◌<◌}
use native.Mathlib.Omega.{arith}
use lib.Dec.{ltb, eqb}
use lib.ListN.{length, get_or, set}
use lib.Seq.{get_or-set_same, get_or-set_other}
use borrow.Author.Tests.{eqb-false, ne_eqb, leb-true, le-leb, ltb-false, le-ltb, not-true}
use Rattle.lists.specs.Lists.{all}
use Rattle.lists.proofs.Bools.{by_cases, and_left, and_right, and_true, or_left, or_right}
use Rattle.lists.proofs.Lists.{all_mem, mem_all}
use Rattle.table.specs.Limits.{unset, checkpoint_count}
use Rattle.table.specs.Refusals.{no_mark}
use Rattle.table.proofs.Stages.{fitting}
use Rattle.journal.specs.Heads.{checkpoint_fits, checkpoint_of, with_checkpoint, kept_to, cut_back, back_refusal}
use Rattle.journal.specs.declared.Head.{Head}

-- ONE CHECKPOINT fits a length where it is not past it, unless it is not set
pub fits_below : (n c : ℕ) → checkpoint_fits n c ≡ true → c ≢ unset → c ≤ n
unfolding checkpoint_fits
fits_below n c t d = leb-true c n (rw (ne_eqb c unset d) at t)

below_fits : (n c : ℕ) → (c ≢ unset → c ≤ n) → checkpoint_fits n c ≡ true
unfolding checkpoint_fits
below_fits n c h =
    by_cases (eqb c unset) (λ t. or_left _ _ t) (λ f. or_right (eqb c unset) _ (le-leb c n (h (eqb-false c unset f))))

kept_fits : (n c : ℕ) → checkpoint_fits n (kept_to n c) ≡ true
kept_fits n c =
    by_cases (ltb n c) (λ t. rw t (below_fits n unset (λ d. absurd (d refl))))
    (λ f. rw f (below_fits n c (λ d. ltb-false n c f)))

-- ALL CHECKPOINTS of a head
pub longer_fits :
    (n k : ℕ) → n ≤ k → (cs : List ℕ) → all (checkpoint_fits n) cs ≡ true → all (checkpoint_fits k) cs ≡ true
longer_fits n k h cs t =
    mem_all (checkpoint_fits k) cs (λ c m.
    below_fits k c (λ d. omega (arith, fits_below n c (all_mem (checkpoint_fits n) cs t c m) d)))

pub set_fits :
    (n i : ℕ) (cs : List ℕ) → all (checkpoint_fits n) cs ≡ true → all (checkpoint_fits n) (set cs i n) ≡ true
unfolding all
set_fits n i [] t = refl
set_fits n zero (c ∷ cs) t = and_true _ _ (below_fits n n (λ d. omega arith)) (and_right (checkpoint_fits n c) _ t)
set_fits n (suc i) (c ∷ cs) t =
    and_true _ _ (and_left (checkpoint_fits n c) _ t) (set_fits n i cs (and_right (checkpoint_fits n c) _ t))

pub cut_back_fits : (n : ℕ) (cs : List ℕ) → all (checkpoint_fits n) (map (kept_to n) cs) ≡ true
unfolding all
cut_back_fits n [] = refl
cut_back_fits n (c ∷ cs) = and_true _ _ (kept_fits n c) (cut_back_fits n cs)

read_fits : (n i : ℕ) (cs : List ℕ) → all (checkpoint_fits n) cs ≡ true → checkpoint_fits n (get_or cs i unset) ≡ true
unfolding all
read_fits n i [] t = below_fits n unset (λ d. absurd (d refl))
read_fits n zero (c ∷ cs) t = and_left (checkpoint_fits n c) _ t
read_fits n (suc i) (c ∷ cs) t = read_fits n i cs (and_right (checkpoint_fits n c) _ t)

read_kept : (n i : ℕ) (cs : List ℕ) → get_or (map (kept_to n) cs) i unset ≡ kept_to n (get_or cs i unset)
read_kept n i [] = by_cases (ltb n unset) (λ t. rw t) (λ f. rw f)
read_kept n zero (c ∷ cs) = refl
read_kept n (suc i) (c ∷ cs) = read_kept n i cs

-- A CHECKPOINT BY ITS NUMBER
module _ (h : Head) (c : ℕ) where
  pub back_passed : back_refusal h c ≡ 0 → checkpoint_of h c ≢ unset
  unfolding back_refusal
  back_passed e =
      let t = fitting (ltb c checkpoint_count && not (eqb (checkpoint_of h c) unset)) no_mark (omega arith) e in
      eqb-false _ _ (not-true (eqb (checkpoint_of h c) unset) (and_right (ltb c checkpoint_count) _ t))

  pub set_checkpoint_low :
      all (checkpoint_fits h.length) h.checkpoints ≡ true → checkpoint_of h c ≢ unset → checkpoint_of h c ≤ h.length
  unfolding checkpoint_of
  set_checkpoint_low t d = fits_below h.length _ (read_fits h.length c h.checkpoints t) d

  pub just_set : c < length h.checkpoints → checkpoint_of (with_checkpoint c h) c ≡ h.length
  unfolding checkpoint_of
  just_set l = get_or-set_same h.checkpoints c h.length unset l

  pub other_set : (d : ℕ) → c ≢ d → checkpoint_of (with_checkpoint d h) c ≡ checkpoint_of h c
  unfolding checkpoint_of
  other_set d n = get_or-set_other h.checkpoints d c h.length unset n

  module _ (n p : ℕ) (e : checkpoint_of h c ≡ p) where
    -- it stays exactly where the cut does not go past it
    pub kept_low : p ≢ unset → checkpoint_of (cut_back n h) c ≡ p → p ≤ n
    unfolding checkpoint_of
    kept_low d q =
        by_cases (ltb n p)
        (λ t. absurd (d (sym q ∙ read_kept n c h.checkpoints ∙ rw (e, t))))
        (λ f. ltb-false n p f)

    pub low_kept : p ≤ n → checkpoint_of (cut_back n h) c ≡ p
    unfolding checkpoint_of
    low_kept l = read_kept n c h.checkpoints ∙ rw (e, le-ltb n p l)
