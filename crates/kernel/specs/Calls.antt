-- What the public calls answer and leave. Document 01, "Questions" and "Refusals".
use Rattle.std.specs.Prelude.{Bool, false, cond, List, [], ◌∷◌, ◌++◌, ℕ, ◌+◌, ◌*◌, leb, eqb, pos, length, take, drop}
use Rattle.hypermap.specs.Hypermap.{Hypermap, orbit_of, component_at}
use Rattle.table.specs.Refusals.{short_room, or_else, unless}
use Rattle.table.specs.Limits.{words_per_dart, bytes_per_word}
use Rattle.table.specs.Layout.{Table, place, hypermap_of}
use Rattle.table.specs.Commands.{Command, presence_refusal, command_refusal, command_on, leaves}
use Rattle.table.specs.Inner.{kind_of}
use Rattle.table.specs.declared.Orbit.{Orbit}
use Rattle.parts.specs.Marks.{component_marks}
use Rattle.parts.specs.Counts.{counts_of}
use Rattle.parts.specs.Sharing.{is_same, steps_round}
use Rattle.parts.specs.declared.Counts.{Counts}
use Rattle.parts.specs.declared.Part.{Part}
use Rattle.soundness.specs.Soundness.{table_refusal}
use Rattle.rings.specs.Rings.{links_of, ring_refusal, cut_along}
use Rattle.kernel.specs.declared.Totals.{Totals}
use Rattle.kernel.specs.declared.Answer.{Answer}

-- COMMANDS
unfoldable pub call_refusal : Table → Command → ℕ
call_refusal w c = or_else (table_refusal w) (command_refusal w c)

unfoldable pub call_leaves : Table → Command → Table
call_leaves w c = leaves (call_refusal w c) (command_on w c) w

-- A RING, lent as a list of words
unfoldable pub ring_call_refusal : Table → (ring : List ℕ) → ℕ
ring_call_refusal w ws = or_else (table_refusal w) (ring_refusal w ws)

unfoldable pub ring_call_leaves : Table → (ring : List ℕ) → Table
ring_call_leaves w ws = leaves (ring_call_refusal w ws) (cut_along (links_of ws) w) w

-- A REPORT: the refusal and zeros, or 0 and the counts of a hypermap
abbrev pub refused_totals : (refusal : ℕ) → Totals
refused_totals n =
    record {
      number = n;
      darts = 0;
      edges = 0;
      vertices = 0;
      faces = 0;
      components = 0;
      characteristic = pos 0;
      genus = 0;
      lifts = 0;
    }

abbrev pub totals_of : Counts → Totals
totals_of c =
    record {
      number = 0;
      darts = c.darts;
      edges = c.edges;
      vertices = c.vertices;
      faces = c.faces;
      components = c.components;
      characteristic = c.characteristic;
      genus = c.genus;
      lifts = c.lifts;
    }

unfoldable pub report_on : (refusal : ℕ) → Hypermap → Totals
report_on n m = cond (eqb n 0) (totals_of (counts_of m)) (refused_totals n)

abbrev pub report_of : Table → Totals
report_of w = report_on (table_refusal w) (hypermap_of w)

-- QUESTIONS about darts of the table
unfoldable pub question_refusal : Table → (named : List ℕ) → ℕ
question_refusal w xs = or_else (table_refusal w) (presence_refusal w xs)

-- the report of one component by itself
abbrev pub component_report_of : Table → (x : ℕ) → Totals
component_report_of w x = report_on (question_refusal w (x ∷ [])) (component_at (hypermap_of w) x)

abbrev pub refused_answer : (refusal : ℕ) → Answer
refused_answer n = record { number = n; yes = false; count = 0 }

-- a refusal with all else zero, or 0 with what was asked
unfoldable pub answer : (refusal : ℕ) → (yes : Bool) → (count : ℕ) → Answer
answer n t k = cond (eqb n 0) (record { number = 0; yes = t; count = k }) (refused_answer n)

-- document 02, Job 6: the count is how far b is from a round the edge or vertex, and 0 where they are apart. The papers
-- leave it free for a face and a component: it is 0
unfoldable pub same_answer : Table → Part → (a b : ℕ) → Answer
same_answer w p a b = answer (question_refusal w (a ∷ b ∷ [])) (is_same w p a b) (steps_round w p a b)

-- LISTS into a lent buffer: 14 where it is shorter than the list, after the refusal n
unfoldable pub list_refusal : (n : ℕ) → (list out : List ℕ) → ℕ
list_refusal n xs o = or_else n (unless (leb (length xs) (length o)) short_room)

-- the list, and the buffer's words past it
unfoldable pub list_leaves : (n : ℕ) → (list out : List ℕ) → List ℕ
list_leaves n xs o = cond (eqb (list_refusal n xs o) 0) (xs ++ drop (length xs) o) o

unfoldable pub list_answer : (n : ℕ) → (list out : List ℕ) → Answer
list_answer n xs o = answer (list_refusal n xs o) false (length xs)

-- an edge, a vertex or a face in walking order
abbrev pub round_of : Table → Orbit → (x : ℕ) → List ℕ
round_of w k x = orbit_of (hypermap_of w) (kind_of k) x

abbrev pub round_answer : Table → Orbit → (x : ℕ) → (out : List ℕ) → Answer
round_answer w k x o = list_answer (question_refusal w (x ∷ [])) (round_of w k x) o

abbrev pub round_leaves : Table → Orbit → (x : ℕ) → (out : List ℕ) → List ℕ
round_leaves w k x o = list_leaves (question_refusal w (x ∷ [])) (round_of w k x) o

-- the papers leave the count of the marks free: it is the capacity, as many as there are marks
abbrev pub marks_answer : Table → (out : List ℕ) → Answer
marks_answer w o = list_answer (table_refusal w) (component_marks w) o

abbrev pub marks_leaves : Table → (out : List ℕ) → List ℕ
marks_leaves w o = list_leaves (table_refusal w) (component_marks w) o

-- A LOOK: a dart's words in the table, empty where "same edge as itself" is refused
unfoldable pub look_of : Table → (x : ℕ) → List ℕ
look_of w x = cond (eqb (question_refusal w (x ∷ x ∷ [])) 0) (take words_per_dart (drop (place x 0) w)) []

-- and where it begins, by block and byte: as many bytes into the table as the words before it have, and else where the
-- table begins
unfoldable pub look_place : Table → (x : ℕ) → (begin : ℕ × ℕ) → ℕ × ℕ
look_place w x p = cond (eqb (question_refusal w (x ∷ x ∷ [])) 0) (p.0, place x 0 * bytes_per_word + p.1) p
