-- What the call for a tape's needs promises. Document 02, Job 1.
use Rattle.std.specs.Prelude.{◌≡◌, ◌↔◌, List, [], ◌∷◌, ℕ, ◌≤◌, ◌<◌, length}
use Rattle.table.specs.Refusals.{wrong_size, unknown_command, torn_command}
use Rattle.table.specs.Layout.{Table, capacity}
use Rattle.tape.specs.Tapes.{contents_of}
use Rattle.needs.specs.Amounts.{refused_needs}
use Rattle.needs.specs.Laws.{NoneOff, IsPeak, most_darts, changed_on}
use Rattle.table.specs.Limits.{max_tape}
use Rattle.kernel.specs.Tapes.{play_outcome, empty_table, needs_answer}
use Rattle.promises.specs.FirstDemand.{OneOf}

-- "If a run from empty accepts every command, the most tabs present at any moment and the words changed, counted
-- command by command and crossing by crossing, equal these"
pub record IsForetold (n : ℕ) (tape : List ℕ) : Type 0 where
  pub answered : (needs_answer tape).number ≡ 0
  pub commands : (needs_answer tape).commands ≡ (play_outcome (empty_table n) tape).accepted
  pub most : (needs_answer tape).peak ≡ most_darts (empty_table n) (contents_of tape).commands
  pub words : (needs_answer tape).words ≡ changed_on (empty_table n) (contents_of tape).commands

pub record NeedsPromise : Type 0 where
  pub one : (tape : List ℕ) → OneOf (needs_answer tape).number (wrong_size ∷ unknown_command ∷ torn_command ∷ [])
  pub zeros :
      (tape : List ℕ) → ((needs_answer tape).number ≡ 0 → ⊥) →
      needs_answer tape ≡ refused_needs (needs_answer tape).number
  pub long : (tape : List ℕ) → max_tape < length tape → (needs_answer tape).number ≡ wrong_size
  pub unreadable : (tape : List ℕ) → length tape ≤ max_tape → (needs_answer tape).number ≡ (contents_of tape).refusal
  pub count :
      (tape : List ℕ) → (needs_answer tape).number ≡ 0 →
      (needs_answer tape).commands ≡ length (contents_of tape).commands
  -- "the least capacity, counted on past 4,096, at which no nonzero tab number is off the table"
  pub least :
      (w : Table) (tape : List ℕ) → (needs_answer tape).number ≡ 0 →
      NoneOff w (contents_of tape).commands ↔ ((needs_answer tape).capacity ≤ capacity w)
  pub fits : (w : Table) (tape : List ℕ) → (play_outcome w tape).number ≡ 0 → (needs_answer tape).capacity ≤ capacity w
  -- "the highest of puts less take-outs over all beginnings of the tape, at least 0"
  pub peak :
      (tape : List ℕ) → (needs_answer tape).number ≡ 0 → IsPeak (contents_of tape).commands (needs_answer tape).peak
  pub run : (n : ℕ) (tape : List ℕ) → (play_outcome (empty_table n) tape).number ≡ 0 → IsForetold n tape
