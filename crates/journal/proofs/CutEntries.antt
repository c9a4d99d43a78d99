-- The entries of a ring's cuts, written one after the other.
use mathlib.Core.Path.{◌≡◌, refl, ap, sym, ◌∙◌}
use mathlib.Core.List.{List, [], ◌∷◌}
use Prim.Native.Nat.{ℕ, suc, ◌+◌, ◌/◌}
use native.Mathlib.Omega.{arith}
use lib.ListN.{length}
use Rattle.hypermap.specs.Ring.{DoubleLink}
use Rattle.rings.specs.Rings.{links_of, cuts_of}
use Rattle.journal.specs.Entries.{Journal, with_entry, with_entries}
use Rattle.journal.specs.Inner.{entry}
use Rattle.journal.proofs.EntryWords.{entry_length}

pub links_length : (ws : List ℕ) → length (links_of ws) ≡ length ws / 2
unfolding links_of
links_length [] = omega arith
links_length (a ∷ []) = omega arith
links_length (a ∷ b ∷ ws) = let i = links_length ws in omega arith

cuts_long : (ls : List DoubleLink) → length (cuts_of ls) ≡ length ls
unfolding cuts_of
cuts_long [] = refl
cuts_long (l ∷ ls) = ap suc (cuts_long ls)

pub cuts_length : (ws : List ℕ) → length (cuts_of (links_of ws)) ≡ length ws / 2
cuts_length ws = cuts_long (links_of ws) ∙ links_length ws

-- the links ls are left to be written, n entries are used, and the journal is l
pub record CutsWritten (j : Journal) (used : ℕ) (ws : List ℕ) (ls : List DoubleLink) (l : Journal)
    (n : ℕ) : Type 0 where
  pub count : n + length ls ≡ used + length ws / 2
  pub size : length l ≡ length j
  pub rest : with_entries j used (cuts_of (links_of ws)) ≡ with_entries l n (cuts_of ls)

module _ (j : Journal) (used : ℕ) (ws : List ℕ) where
  pub none_written : CutsWritten j used ws (links_of ws) j used
  none_written = record { count = ap (λ k. used + k) (links_length ws); size = refl; rest = refl }

  pub all_written :
      (l : Journal) (n : ℕ) → CutsWritten j used ws [] l n → l ≡ with_entries j used (cuts_of (links_of ws))
  unfolding with_entries cuts_of
  all_written l n i = sym i.rest

  module _ (k : DoubleLink) (ls : List DoubleLink) (l : Journal) (n : ℕ) (i : CutsWritten j used ws (k ∷ ls) l n) where
    pub one_written :
        (m : Journal) → m ≡ with_entry l n (entry 4 k.first k.second) → CutsWritten j used ws ls m (n + 1)
    unfolding with_entries cuts_of
    one_written m e =
        let z : suc n ≡ n + 1 = omega arith in
        rw e (record {
          count = omega (arith, i.count);
          size = entry_length l n (entry 4 k.first k.second) ∙ i.size;
          rest = i.rest ∙ rw (← z);
        })
