-- After every accepted command of a tape the table holds a hypermap.
use mathlib.Core.Path.{◌≡◌, refl, ◌∙◌}
use mathlib.Core.Bool.{true}
use mathlib.Core.List.{List}
use Prim.Native.Nat.{ℕ, ◌*◌, ◌≤◌}
use native.Mathlib.Omega.{arith}
use lib.Dec.{eqb}
use lib.ListN.{length, replicate, length-replicate}
use borrow.Author.Tests.{eqb-true}
use Rattle.lists.proofs.Bools.{by_cases}
use Rattle.table.specs.Limits.{words_per_dart, max_capacity}
use Rattle.table.specs.Layout.{Table, holds_hypermap}
use Rattle.table.specs.Commands.{Command, command_leaves, leaves}
use Rattle.table.specs.Inner.{WithinCapacity}
use Rattle.table.proofs.Zeros.{zeros_hold}
use Rattle.table.proofs.Commands.{keeps_hypermap_law}
use Rattle.table.proofs.Runs.{run_keeps}
use Rattle.rings.specs.Rings.{ring_leaves}
use Rattle.rings.proofs.Parting.{accepted_cut}
use Rattle.tape.specs.Steps.{TapeCommand, changes, reports, cuts_ring, step_refusal, step_on, step_rule, step_leaves}
use Rattle.tape.specs.Tapes.{contents_of}
use Rattle.tape.specs.Laws.{RunKeepsHypermapLaw}

pub step_holds :
    (w : Table) (c : TapeCommand) → holds_hypermap w ≡ true → step_refusal w c ≡ 0 →
    (holds_hypermap (step_on w c) ≡ true) × (length (step_on w c) ≡ length w)
step_holds w (changes c) s e = keeps_hypermap_law w s c e
step_holds w reports s e = (s, refl)
step_holds w (cuts_ring ws) s e = let i = accepted_cut w ws s e in (i.hypermap, i.size)

-- whether it is accepted or not, the table is within the capacity
left_within : (w : Table) (c : TapeCommand) → WithinCapacity w → WithinCapacity (step_leaves w c)
unfolding leaves
left_within w c k =
    by_cases (eqb (step_refusal w c) 0)
    (λ t.
    let s = step_holds w c k.hypermap (eqb-true (step_refusal w c) 0 t) in
    rw t (record { hypermap = s.0; room = rw s.1 k.room }))
    (λ f. rw f k)

-- WHAT THE CHECK TRIES BY ITSELF on what a command leaves, as the code of each kind of command tells it
pub change_within : (w : Table) (c : Command) → WithinCapacity w → WithinCapacity (command_leaves w c)
change_within w c = left_within w (changes c)

pub ring_within : (w : Table) (ws : List ℕ) → WithinCapacity w → WithinCapacity (ring_leaves w ws)
unfolding ring_leaves
ring_within w ws = left_within w (cuts_ring ws)

pub ruleset within = (change_within, ring_within)

-- a run starts on an empty table
pub zeros_within : (n : ℕ) → n ≤ max_capacity → WithinCapacity (replicate (words_per_dart * n) 0)
zeros_within n h =
    record { hypermap = zeros_hold (words_per_dart * n); room = rw length-replicate (omega arith) }

pub run_keeps_hypermap_law : RunKeepsHypermapLaw
run_keeps_hypermap_law w tape s =
    run_keeps step_rule (λ v. (holds_hypermap v ≡ true) × (length v ≡ length w))
    (λ v c h e. let i = step_holds v c h.0 e in (i.0, i.1 ∙ h.1)) (contents_of tape).commands w _ (s, refl)
