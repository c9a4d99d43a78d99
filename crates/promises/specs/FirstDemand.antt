-- The customer's first demand, about the public calls, in the customer's words.
use Rattle.std.specs.Prelude.{◌≡◌, ◌↔◌, true, List, [], ◌∷◌, ◌++◌, ℕ}
use Rattle.lists.specs.Lists.{among}
use Rattle.table.specs.Refusals.{wrong_size, bent_table, off_the_table, no_tab, tab_taken, tab_held, together, apart}
use Rattle.table.specs.Refusals.{same_tab, no_list, tie_twice, gap_twice, path_broken, short_room, unknown_command}
use Rattle.table.specs.Refusals.{torn_command}
use Rattle.table.specs.Layout.{Table}
use Rattle.table.specs.Commands.{Command, puts, takes_out, joins, cuts}
use Rattle.table.specs.Runs.{stopped, IsRun}
use Rattle.table.specs.declared.Orbit.{Orbit}
use Rattle.parts.specs.declared.Part.{Part}
use Rattle.parts.specs.declared.Part.TheVariants.{Edge}
use Rattle.tape.specs.Steps.{step_rule}
use Rattle.tape.specs.Tapes.{contents_of}
use Rattle.kernel.specs.Calls.{call_refusal, call_leaves, report_of, refused_totals, ring_call_refusal}
use Rattle.kernel.specs.Calls.{ring_call_leaves, component_report_of, refused_answer, same_answer, round_answer}
use Rattle.kernel.specs.Calls.{round_leaves, marks_answer, marks_leaves, look_of}
use Rattle.kernel.specs.Tapes.{play_refusal, play_outcome, tape_answer, tape_leaves, screen_refusal, screen_leaves}
use Rattle.kernel.specs.declared.Answer.{Answer}
use Rattle.kernel.specs.declared.Totals.{Totals}

-- DEMAND 1. "Whoever calls, with any numbers, any tape and any words in the lent table, gets a reply": no call of
-- a public crate has a `requires`, and the checker has each of them return. "A call that doesn't fit gets one numbered
-- refusal by the published conditions and leaves the plan as it found it"
abbrev pub OneOf : (refusal : ℕ) → (refusals : List ℕ) → Type 0
OneOf n ns = (n ≡ 0 → ⊥) → among n ns ≡ true

pub record Refuses (refusal : ℕ) (refusals before after : List ℕ) : Type 0 where
  pub one : OneOf refusal refusals
  pub kept : (refusal ≡ 0 → ⊥) → after ≡ before

-- a refused answer has all else zero
pub record RefusesAnswer (a : Answer) (refusals : List ℕ) : Type 0 where
  pub one : OneOf a.number refusals
  pub zeros : (a.number ≡ 0 → ⊥) → a ≡ refused_answer a.number

-- and a refused report
pub record RefusesReport (t : Totals) (refusals : List ℕ) : Type 0 where
  pub one : OneOf t.number refusals
  pub zeros : (t.number ≡ 0 → ⊥) → t ≡ refused_totals t.number

abbrev pub table_refusals : List ℕ
table_refusals = wrong_size ∷ bent_table ∷ []

abbrev pub command_refusals : Command → List ℕ
command_refusals (puts x) = wrong_size ∷ bent_table ∷ off_the_table ∷ tab_taken ∷ []
command_refusals (takes_out x) = wrong_size ∷ bent_table ∷ off_the_table ∷ no_tab ∷ tab_held ∷ []
command_refusals (joins k a b) = wrong_size ∷ bent_table ∷ off_the_table ∷ no_tab ∷ together ∷ []
command_refusals (cuts k a b) = wrong_size ∷ bent_table ∷ off_the_table ∷ no_tab ∷ apart ∷ same_tab ∷ []

abbrev pub ring_refusals : List ℕ
ring_refusals =
    wrong_size ∷ bent_table ∷ no_list ∷ off_the_table ∷ no_tab ∷ apart ∷ same_tab ∷ tie_twice ∷ gap_twice ∷
    path_broken ∷ []

abbrev pub dart_refusals : List ℕ
dart_refusals = wrong_size ∷ bent_table ∷ off_the_table ∷ no_tab ∷ []

-- all but 14, since a run fills no buffer
abbrev pub run_refusals : List ℕ
run_refusals =
    wrong_size ∷ bent_table ∷ off_the_table ∷ no_tab ∷ tab_taken ∷ tab_held ∷ together ∷ apart ∷ same_tab ∷ no_list ∷
    tie_twice ∷ gap_twice ∷ path_broken ∷ unknown_command ∷ torn_command ∷ []

pub record FirstDemand : Type 0 where
  pub commands : (w : Table) (c : Command) → Refuses (call_refusal w c) (command_refusals c) w (call_leaves w c)
  pub rings : (w : Table) (ring : List ℕ) → Refuses (ring_call_refusal w ring) ring_refusals w (ring_call_leaves w ring)
  pub report : (w : Table) → RefusesReport (report_of w) table_refusals
  pub component_report : (w : Table) (x : ℕ) → RefusesReport (component_report_of w x) dart_refusals
  pub same : (w : Table) (p : Part) (a b : ℕ) → RefusesAnswer (same_answer w p a b) dart_refusals
  pub round :
      (w : Table) (o : Orbit) (x : ℕ) (out : List ℕ) →
      RefusesAnswer (round_answer w o x out) (dart_refusals ++ (short_room ∷ [])) ×
      (((round_answer w o x out).number ≡ 0 → ⊥) → round_leaves w o x out ≡ out)
  pub marks :
      (w : Table) (out : List ℕ) → RefusesAnswer (marks_answer w out) (table_refusals ++ (short_room ∷ [])) ×
      (((marks_answer w out).number ≡ 0 → ⊥) → marks_leaves w out ≡ out)
  -- "the part is empty, in place of a number, exactly where the question "same tie as itself" is refused"
  pub look : (w : Table) (x : ℕ) → (look_of w x ≡ []) ↔ ((same_answer w Edge x x).number ≡ 0 → ⊥)
  -- "only a tape run keeps the commands accepted before the refused one, and tells how many"
  pub unplayed : (w : Table) (tape : List ℕ) → OneOf (play_refusal w tape) table_refusals
  pub run : (w : Table) (tape : List ℕ) → OneOf (play_outcome w tape).number run_refusals
  pub played :
      (w : Table) (tape : List ℕ) →
      ((play_refusal w tape ≡ 0 → ⊥) → play_outcome w tape ≡ stopped (play_refusal w tape) w) ×
      (play_refusal w tape ≡ 0 →
      IsRun step_rule w (contents_of tape).commands (contents_of tape).refusal (play_outcome w tape))
  pub tapes :
      (w : Table) (out : List ℕ) → RefusesAnswer (tape_answer w out) (table_refusals ++ (short_room ∷ [])) ×
      (((tape_answer w out).number ≡ 0 → ⊥) → tape_leaves w out ≡ out)
  pub screen :
      (tape out : List ℕ) →
      Refuses (screen_refusal tape out) (wrong_size ∷ short_room ∷ []) out (screen_leaves tape out)
