-- The customer's second demand, about the public calls, in the customer's words.
use Rattle.std.specs.Prelude.{◌≡◌, ◌↔◌, true, false, List, ◌∷◌, ◌++◌, ℕ, ◌-◌, ◌≤◌, length, get_or, replicate, drop}
use Rattle.hypermap.specs.Hypermap.{Dimension, edge, vertex, Hypermap, is_dart, is_hypermap, of, step, face_next}
use Rattle.hypermap.specs.Hypermap.{same_orbit, component_at}
use Rattle.hypermap.specs.Change.{change}
use Rattle.hypermap.specs.Ring.{break_along}
use Rattle.hypermap.specs.Laws.{Reaches, Connects, IsOrbit}
use Rattle.hypermap.specs.Theory.{Theory}
use Rattle.table.specs.Limits.{max_capacity, longest_canonical}
use Rattle.table.specs.Layout.{Table, capacity, is_present, is_absent, hypermap_of}
use Rattle.table.specs.Commands.{Command, puts, takes_out, joins, cuts}
use Rattle.table.specs.Inner.{kind_of}
use Rattle.table.specs.Laws.{Holds, TableLaw, AddsDart}
use Rattle.table.specs.declared.Orbit.{Orbit}
use Rattle.parts.specs.Counts.{counts_of}
use Rattle.parts.specs.Marks.{component_marks}
use Rattle.parts.specs.declared.Part.{Part}
use Rattle.parts.specs.declared.Part.TheVariants.{Edge, Vertex, Face, Component}
use Rattle.soundness.specs.Soundness.{size_fits, table_refusal}
use Rattle.rings.specs.Rings.{links_of, is_list}
use Rattle.rings.specs.Laws.{is_ring_of}
use Rattle.table.specs.Runs.{Outcome}
use Rattle.writer.specs.Canonical.{tape_of}
use Rattle.writer.specs.Screens.{numbers_bytes}
use Rattle.writer.specs.Laws.{IsBuilt}
use Rattle.kernel.specs.Calls.{call_refusal, call_leaves, report_of, totals_of, ring_call_refusal, ring_call_leaves}
use Rattle.kernel.specs.Calls.{component_report_of, same_answer, round_of, round_answer, round_leaves, marks_answer}
use Rattle.kernel.specs.Calls.{marks_leaves}
use Rattle.kernel.specs.Tapes.{play_outcome, empty_table, screen_refusal, screen_leaves}
use Rattle.promises.specs.Plans.{report_numbers}

-- DEMAND 2. "Each join, cut, ring cut, question and count is what the published definition of a hypermap says." A table
-- that passes 1 and 2 holds a hypermap; `Theory` ties what is computed of it to 002's words, and TableLaw says that no
-- other table of its size holds the same

-- WHICH TABLES ARE SOUND: those of a size that fits with a hypermap in them, and zeros elsewhere
abbrev pub SoundBy : Table → Type 0
SoundBy w =
    (table_refusal w ≡ 0) ↔
    ((size_fits w ≡ true) × (is_hypermap (hypermap_of w) ≡ true) ×
    ((x : ℕ) → 1 ≤ x → x ≤ capacity w → is_present w x ≡ false → is_absent w x ≡ true))

-- WHEN A CHANGE IS ACCEPTED
abbrev pub PutsBy : Table → (x : ℕ) → Type 0
PutsBy w x =
    (call_refusal w (puts x) ≡ 0) ↔
    ((table_refusal w ≡ 0) × (1 ≤ x) × (x ≤ capacity w) × (is_dart (hypermap_of w) x ≡ false))

abbrev pub TakesOutBy : Table → (x : ℕ) → Type 0
TakesOutBy w x =
    (call_refusal w (takes_out x) ≡ 0) ↔
    ((table_refusal w ≡ 0) × (is_dart (hypermap_of w) x ≡ true) × ((k : Dimension) → (hypermap_of w).next k x ≡ x))

abbrev pub JoinsBy : Table → Dimension → (a b : ℕ) → Type 0
JoinsBy w k a b =
    (call_refusal w (joins k a b) ≡ 0) ↔
    ((table_refusal w ≡ 0) × (is_dart (hypermap_of w) a ≡ true) × (is_dart (hypermap_of w) b ≡ true) ×
    (same_orbit (hypermap_of w) (of k) a b ≡ false))

abbrev pub CutsBy : Table → Dimension → (a b : ℕ) → Type 0
CutsBy w k a b =
    (call_refusal w (cuts k a b) ≡ 0) ↔
    ((table_refusal w ≡ 0) × (is_dart (hypermap_of w) a ≡ true) × (is_dart (hypermap_of w) b ≡ true) ×
    (same_orbit (hypermap_of w) (of k) a b ≡ true) × (a ≡ b → ⊥))

abbrev pub RingsBy : Table → (ring : List ℕ) → Type 0
RingsBy w ws =
    (ring_call_refusal w ws ≡ 0) ↔
    ((table_refusal w ≡ 0) × (is_list ws ≡ true) × (is_ring_of (hypermap_of w) (links_of ws) ≡ true))

-- a table that passes 1 and 2 passes them afterwards, and has the same size
pub record StaysSound (w v : Table) : Type 0 where
  pub sound : table_refusal v ≡ 0
  pub size : length v ≡ length w

-- QUESTIONS. What two darts share, by 2.2
abbrev pub Shares : Hypermap → Part → (a b : ℕ) → Type 0
Shares m Edge a b = Reaches (m.next edge) a b
Shares m Vertex a b = Reaches (m.next vertex) a b
Shares m Face a b = Reaches (face_next m) a b
Shares m Component a b = Connects m.next a b

pub record IsRound (w : Table) (o : Orbit) (x : ℕ) (out : List ℕ) : Type 0 where
  pub orbit : IsOrbit (hypermap_of w).darts (step (hypermap_of w) (kind_of o)) x (round_of w o x)
  pub count : (round_answer w o x out).count ≡ length (round_of w o x)
  pub written : round_leaves w o x out ≡ round_of w o x ++ drop (length (round_of w o x)) out

-- "for each tab up to N the smallest tab of its piece, 0 if absent"
pub record IsSmallest (m : Hypermap) (x mark : ℕ) : Type 0 where
  pub connected : Connects m.next x mark
  pub least : (y : ℕ) → Connects m.next x y → mark ≤ y

pub record AreMarks (w : Table) (out : List ℕ) : Type 0 where
  pub count : (marks_answer w out).count ≡ capacity w
  pub written : marks_leaves w out ≡ component_marks w ++ drop (capacity w) out
  pub darts :
      (x : ℕ) → is_dart (hypermap_of w) x ≡ true → IsSmallest (hypermap_of w) x (get_or (component_marks w) (x - 1) 0)
  pub absent :
      (x : ℕ) → 1 ≤ x → x ≤ capacity w → is_dart (hypermap_of w) x ≡ false → get_or (component_marks w) (x - 1) 0 ≡ 0

-- THE SCREEN: the run that `play` makes on an empty table of the greatest capacity; then its two numbers, the report of
-- its table, and that table's canonical tape
abbrev pub screen_run : (tape : List ℕ) → Outcome Table
screen_run bs = play_outcome (empty_table max_capacity) bs

abbrev pub reported_bytes : Outcome Table → List ℕ
reported_bytes o = numbers_bytes (o.number ∷ o.accepted ∷ report_numbers (report_of o.state)) ++ tape_of o.state

pub record IsScreened (tape out : List ℕ) : Type 0 where
  pub sound : table_refusal (screen_run tape).state ≡ 0
  pub written :
      screen_leaves tape out ≡ reported_bytes (screen_run tape) ++ drop (length (reported_bytes (screen_run tape))) out

pub record SecondDemand : Type 0 where
  pub sound : (w : Table) → SoundBy w
  pub table : TableLaw
  pub theory : Theory
  pub put_accepted : (w : Table) (x : ℕ) → PutsBy w x
  pub put_adds :
      (w : Table) (x : ℕ) → call_refusal w (puts x) ≡ 0 →
      AddsDart (hypermap_of w) (hypermap_of (call_leaves w (puts x))) x
  pub take_out_accepted : (w : Table) (x : ℕ) → TakesOutBy w x
  pub take_out_removes :
      (w : Table) (x : ℕ) → call_refusal w (takes_out x) ≡ 0 →
      AddsDart (hypermap_of (call_leaves w (takes_out x))) (hypermap_of w) x
  pub join_accepted : (w : Table) (k : Dimension) (a b : ℕ) → JoinsBy w k a b
  pub join_changes :
      (w : Table) (k : Dimension) (a b : ℕ) → call_refusal w (joins k a b) ≡ 0 →
      Holds (call_leaves w (joins k a b)) (change k a b (hypermap_of w))
  pub cut_accepted : (w : Table) (k : Dimension) (a b : ℕ) → CutsBy w k a b
  pub cut_changes :
      (w : Table) (k : Dimension) (a b : ℕ) → call_refusal w (cuts k a b) ≡ 0 →
      Holds (call_leaves w (cuts k a b)) (change k a b (hypermap_of w))
  pub ring_accepted : (w : Table) (ring : List ℕ) → RingsBy w ring
  pub ring_breaks :
      (w : Table) (ring : List ℕ) → ring_call_refusal w ring ≡ 0 →
      Holds (ring_call_leaves w ring) (break_along (links_of ring) (hypermap_of w))
  -- a sound plan stays sound, whether the call is accepted or refused
  pub command_stays : (w : Table) (c : Command) → table_refusal w ≡ 0 → StaysSound w (call_leaves w c)
  pub ring_stays : (w : Table) (ring : List ℕ) → table_refusal w ≡ 0 → StaysSound w (ring_call_leaves w ring)
  pub run_stays : (w : Table) (tape : List ℕ) → table_refusal w ≡ 0 → StaysSound w (play_outcome w tape).state
  pub same :
      (w : Table) (p : Part) (a b : ℕ) → (same_answer w p a b).number ≡ 0 →
      ((same_answer w p a b).yes ≡ true) ↔ Shares (hypermap_of w) p a b
  pub round :
      (w : Table) (o : Orbit) (x : ℕ) (out : List ℕ) → (round_answer w o x out).number ≡ 0 → IsRound w o x out
  pub marks : (w : Table) (out : List ℕ) → (marks_answer w out).number ≡ 0 → AreMarks w out
  pub report : (w : Table) → (report_of w).number ≡ 0 → report_of w ≡ totals_of (counts_of (hypermap_of w))
  pub component_report :
      (w : Table) (x : ℕ) → (component_report_of w x).number ≡ 0 →
      component_report_of w x ≡ totals_of (counts_of (component_at (hypermap_of w) x))
  -- "A written tape, played on an empty table of the same size, builds the same plan": accepted whole, each of its
  -- commands counted; "At most 53,238 bytes"
  pub built : (w : Table) → table_refusal w ≡ 0 → IsBuilt w (play_outcome (replicate (length w) 0) (tape_of w))
  pub short : (w : Table) → table_refusal w ≡ 0 → length (tape_of w) ≤ longest_canonical
  -- "and unequal plans of one size never share a tape"
  pub only_tape :
      (v w : Table) → table_refusal v ≡ 0 → table_refusal w ≡ 0 → length v ≡ length w → tape_of v ≡ tape_of w → v ≡ w
  pub screen : (tape out : List ℕ) → screen_refusal tape out ≡ 0 → IsScreened tape out
