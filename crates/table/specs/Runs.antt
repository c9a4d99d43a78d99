-- Commands in a row, up to the first that is refused. One definition for every state that calls keep, as a table or a
-- table with its journal, and for everything that they go through, as the commands of a tape or the entries of a
-- journal. Document 01, "Tape".
use Rattle.std.specs.Prelude.{◌≡◌, ℕ, suc, ◌≤◌, cond, List, [], ◌∷◌, length, take, drop, ◌==◌, ◌≢◌}
use Rattle.table.specs.Layout.{Table}
use Rattle.table.specs.Commands.{Command, command_refusal, command_on, leaves}

-- what a command is to a state: its refusal, and the state after it where it is accepted
pub record Rule (S C : Type 0) : Type 0 where
  pub refusal : S → C → ℕ
  pub on : S → C → S

abbrev pub command_rule : Rule Table Command
command_rule = record { refusal = command_refusal; on = command_on }

-- the state after it, accepted or refused
abbrev pub rule_leaves : {S C : Type 0} → Rule S C → S → C → S
rule_leaves r s c = leaves (r.refusal s c) (r.on s c) s

-- A RUN: the refusal that stopped it or 0, how many commands it accepted, and the state that they leave
pub record Outcome (S : Type 0) : Type 0 where
  pub number : ℕ
  pub accepted : ℕ
  pub state : S

abbrev pub stopped : {S : Type 0} → (number : ℕ) → S → Outcome S
stopped n s = record { number = n; accepted = 0; state = s }

abbrev pub one_more : {S : Type 0} → Outcome S → Outcome S
one_more o = record { number = o.number; accepted = suc o.accepted; state = o.state }

-- all commands accepted, the run ends by n
unfoldable pub run_by : {S C : Type 0} → Rule S C → S → List C → (n : ℕ) → Outcome S
run_by r s [] n = stopped n s
run_by r s (c ∷ cs) n =
    cond (r.refusal s c == 0) (one_more (run_by r (r.on s c) cs n)) (stopped (r.refusal s c) s)

-- WITHOUT REFUSALS: the state that commands leave, each accepted, and that they are
abbrev pub after_all : {S C : Type 0} → Rule S C → S → List C → S
after_all r s [] = s
after_all r s (c ∷ cs) = after_all r (r.on s c) cs

abbrev pub AllAccepted : {S C : Type 0} → Rule S C → S → List C → Type 0
AllAccepted r s [] = Unit {0}
AllAccepted r s (c ∷ cs) = (r.refusal s c ≡ 0) × AllAccepted r (r.on s c) cs

-- A RUN IS A FOLD: it accepts a beginning of the commands, leaves what that leaves, and is stopped by the refusal of
-- the next one, or ends by n
pub record IsRun {S C : Type 0} (r : Rule S C) (s : S) (cs : List C) (n : ℕ) (o : Outcome S) : Type 0 where
  pub few : o.accepted ≤ length cs
  pub accepted : AllAccepted r s (take o.accepted cs)
  pub state : o.state ≡ after_all r s (take o.accepted cs)
  pub stopped :
      (c : C) (rest : List C) → drop o.accepted cs ≡ c ∷ rest →
      (o.number ≡ r.refusal o.state c) × (o.number ≢ 0)
  pub ended : drop o.accepted cs ≡ [] → o.number ≡ n

abbrev pub RunLaw : Type 1
RunLaw = (S C : Type 0) (r : Rule S C) (s : S) (cs : List C) (n : ℕ) → IsRun r s cs n (run_by r s cs n)
