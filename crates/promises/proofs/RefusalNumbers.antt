-- Each refusal is one of the call's published numbers, being the first of stages that each have one.
use mathlib.Core.Path.{◌≡◌, refl}
use mathlib.Core.Bool.{Bool, true, false}
use mathlib.Core.List.{List, [], ◌∷◌}
use Prim.Native.Nat.{ℕ, zero, suc}
use lib.Dec.{eqb}
use lib.ListN.{length}
use Rattle.lists.specs.Lists.{all, among}
use Rattle.lists.proofs.Bools.{by_cases}
use Rattle.lists.proofs.Lists.{all_mem}
use Rattle.table.specs.Refusals.{wrong_size, bent_table, off_the_table, no_tab, unknown_command, torn_command, or_else}
use Rattle.table.specs.Refusals.{unless}
use Rattle.table.specs.Layout.{Table}
use Rattle.table.specs.Commands.{Command, puts, takes_out, joins, cuts, presence_refusal, command_refusal}
use Rattle.table.specs.Runs.{Rule, run_by}
use Rattle.rings.specs.Rings.{condition_refusal, ring_refusal}
use Rattle.tape.specs.Steps.{TapeCommand, changes, reports, cuts_ring, step_refusal, step_rule}
use Rattle.tape.specs.Tapes.{read_refusal, rest_of, contents_by}
use Rattle.soundness.specs.Soundness.{table_refusal, tape_refusal}
use Rattle.kernel.specs.Calls.{call_refusal, ring_call_refusal}
use Rattle.kernel.specs.Tapes.{play_refusal, play_outcome}
use Rattle.promises.specs.FirstDemand.{OneOf, table_refusals, command_refusals, ring_refusals, run_refusals}

-- ONE NUMBER: a record, for from its type the numbers are known at each stage
pub record One (n : ℕ) (ns : List ℕ) : Type 0 where
  pub one : OneOf n ns

pub none : {ns : List ℕ} → One 0 ns
none = record { one = λ z. absurd (z refl) }

pub unless_one : (t : Bool) (k : ℕ) {ns : List ℕ} → among k ns ≡ true → One (unless t k) ns
unfolding unless
unless_one true k m = none
unless_one false k m = record { one = λ z. m }

pub or_else_one : {n m : ℕ} {ns : List ℕ} → One n ns → One m ns → One (or_else n m) ns
unfolding or_else
or_else_one {n} f g = by_cases (eqb n 0) (λ t. rw t g) (λ t. rw t f)

pub table_one :
    (w : Table) {ns : List ℕ} → among wrong_size ns ≡ true → among bent_table ns ≡ true → One (table_refusal w) ns
unfolding table_refusal
table_one w p q = or_else_one (unless_one _ _ p) (unless_one _ _ q)

pub presence_one :
    (w : Table) (xs : List ℕ) {ns : List ℕ} → among off_the_table ns ≡ true → among no_tab ns ≡ true →
    One (presence_refusal w xs) ns
unfolding presence_refusal
presence_one w xs p q = or_else_one (unless_one _ _ p) (unless_one _ _ q)

pub widen : {n : ℕ} {ns : List ℕ} (ms : List ℕ) → all (λ k. among k ms) ns ≡ true → One n ns → One n ms
widen {n} {ns} ms p f = record { one = λ z. all_mem (λ k. among k ms) ns p n (f.one z) }

pub rest_one : (w : Table) (c : Command) → One (command_refusal w c) (command_refusals c)
unfolding among
rest_one w (puts x) = or_else_one (unless_one _ _ refl) (unless_one _ _ refl)
rest_one w (takes_out x) = or_else_one (presence_one _ _ refl refl) (unless_one _ _ refl)
rest_one w (joins k a b) = or_else_one (presence_one _ _ refl refl) (unless_one _ _ refl)
rest_one w (cuts k a b) =
    or_else_one (presence_one _ _ refl refl) (or_else_one (unless_one _ _ refl) (unless_one _ _ refl))

-- every command's numbers begin with the table's, and are numbers of a run
pub table_first : (w : Table) (c : Command) → One (table_refusal w) (command_refusals c)
unfolding among
table_first w (puts x) = table_one w refl refl
table_first w (takes_out x) = table_one w refl refl
table_first w (joins k a b) = table_one w refl refl
table_first w (cuts k a b) = table_one w refl refl

in_run : (c : Command) → all (λ k. among k run_refusals) (command_refusals c) ≡ true
unfolding among all
in_run (puts x) = refl
in_run (takes_out x) = refl
in_run (joins k a b) = refl
in_run (cuts k a b) = refl

pub command_one : (w : Table) (c : Command) → One (call_refusal w c) (command_refusals c)
unfolding call_refusal
command_one w c = or_else_one (table_first w c) (rest_one w c)

pub ring_rest : (w : Table) (ws : List ℕ) → One (ring_refusal w ws) ring_refusals
unfolding among ring_refusal condition_refusal
ring_rest w ws =
    or_else_one (unless_one _ _ refl)
    (or_else_one (presence_one _ _ refl refl)
    (or_else_one (unless_one _ _ refl)
    (or_else_one (unless_one _ _ refl)
    (or_else_one (unless_one _ _ refl) (or_else_one (unless_one _ _ refl) (unless_one _ _ refl))))))

pub ring_one : (w : Table) (ws : List ℕ) → One (ring_call_refusal w ws) ring_refusals
unfolding among ring_call_refusal
ring_one w ws = or_else_one (table_one _ refl refl) (ring_rest w ws)

-- A RUN
pub play_one : (w : Table) (tape : List ℕ) → One (play_refusal w tape) table_refusals
unfolding play_refusal tape_refusal among
play_one w tape = or_else_one (unless_one _ _ refl) (table_one _ refl refl)

pub step_one : (w : Table) (c : TapeCommand) → One (step_refusal w c) run_refusals
unfolding among all
step_one w (changes c) = widen run_refusals (in_run c) (rest_one w c)
step_one w reports = none
step_one w (cuts_ring ws) = widen run_refusals refl (ring_rest w ws)

pub contents_one : (n : ℕ) (bs : List ℕ) → One (contents_by n bs).refusal (unknown_command ∷ torn_command ∷ [])
unfolding contents_by read_refusal among
contents_one zero bs = none
contents_one (suc n) [] = none
contents_one (suc n) (b ∷ bs) =
    by_cases (eqb (read_refusal (b ∷ bs)) 0) (λ t. rw t (contents_one n (rest_of (b ∷ bs))))
    (λ t. rw t (or_else_one (unless_one _ _ refl) (unless_one _ _ refl)))

pub fold_one :
    {S C : Type 0} (r : Rule S C) {ns : List ℕ} → ((s : S) (c : C) → One (r.refusal s c) ns) → (s : S) (cs : List C)
    (n : ℕ) → One n ns → One (run_by r s cs n).number ns
unfolding run_by
fold_one r one s [] n f = f
fold_one r one s (c ∷ cs) n f =
    by_cases (eqb (r.refusal s c) 0) (λ t. rw t (fold_one r one (r.on s c) cs n f)) (λ t. rw t (one s c))

pub run_one : (w : Table) (tape : List ℕ) → One (play_outcome w tape).number run_refusals
unfolding play_outcome among all
run_one w tape =
    by_cases (eqb (play_refusal w tape) 0)
    (λ t. rw t (fold_one step_rule step_one w _ _ (widen run_refusals refl (contents_one (length tape) tape))))
    (λ t. rw t (widen run_refusals refl (play_one w tape)))
