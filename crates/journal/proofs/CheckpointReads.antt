-- A checkpoint as code reads it.
use Rattle.std.specs.Bool.{⊤, then_some}
use mathlib.Core.Bool.{Bool, true, false, not}
use lib.Dec.{eqb}
use mathlib.Core.Path.{◌≡◌, ◌∙◌}
use Rattle.std.specs.Prelude.{Option, Some, None, MatchOption}
use Rattle.std.specs.Option.{option_copied}
use Rattle.std.proofs.Common.{Bor}
use Rattle.std.specs.Slice.{IsItemAt}
use Prim.Native.Nat.{ℕ, ◌≤◌, ◌<◌}
use native.Mathlib.Omega.{arith}
use lib.ListN.{length}
use borrow.Author.Tests.{lt-ltb, le-ltb}
use Rattle.lists.proofs.Indices.{any_default}
use Rattle.table.specs.Commands.{leaves}
use Rattle.table.specs.Limits.{unset, checkpoint_count}
use Rattle.table.specs.Refusals.{unless}
use Rattle.journal.specs.Heads.{checkpoint_of, back_refusal, set_refusal}
use Rattle.journal.specs.Inner.{CheckpointRead}
use Rattle.journal.specs.declared.Head.{Head}

-- A CHECKPOINT THAT IS READ: looked up, and kept where it is set
module _ (h : Head) (c : ℕ) where
  read_none : checkpoint_count ≤ c → CheckpointRead h c None
  unfolding back_refusal unless
  read_none l = rw (le-ltb c checkpoint_count l)

  read_some :
      (n : ℕ) → c < checkpoint_count → n ≡ checkpoint_of h c → (b : Bool) → b ≡ not (eqb n unset) →
      CheckpointRead h c (then_some b n)
  unfolding back_refusal unless
  read_some n l e true f = (rw (lt-ltb c checkpoint_count l, ← e, ← f), e)
  read_some n l e false f = rw (lt-ltb c checkpoint_count l, ← e, ← f)

  pub read_kept :
      (g : Option (Bor ℕ)) (r : Option ℕ) (Kept : ℕ → Bool → Type 0) → length h.checkpoints ≡ checkpoint_count →
      IsItemAt h.checkpoints c g → ((x : ℕ) (b : Bool) → Kept x b → b ≡ not (eqb x unset)) →
      MatchOption (option_copied g) (r ≡ None) (λ x. (b : Bool) × Kept x b × (r ≡ then_some b x)) →
      CheckpointRead h c r
  unfolding checkpoint_of
  read_kept None r Kept z i e m = rw m (read_none (omega (arith, z, i.3)))
  read_kept (Some p) r Kept z i e (b, k, m) =
      let l : c < length h.checkpoints = i.3.0 in
      rw m (read_some p.now (omega (arith, z, l)) (i.1 ∙ any_default _ c p.now unset l) b (e _ _ k))

-- the definitions that the check opens by itself on a checkpoint that is set, by one name
unfoldable pub definitions : ⊤
unfolding set_refusal unless leaves
definitions = tt
