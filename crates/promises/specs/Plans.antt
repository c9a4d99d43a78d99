-- Document 01's plans to check: one table of rows, and what it is for a row to hold of the public calls.
use Rattle.std.specs.Prelude.{◌≡◌, Bool, true, false, ◌&&◌, List, [], ◌∷◌, ℕ, eqb}
use Rattle.lists.specs.Lists.{all}
use Rattle.hypermap.specs.Hypermap.{edge, vertex}
use Rattle.hypermap.specs.Change.{marking}
use Rattle.table.specs.Layout.{Table, hypermap_of}
use Rattle.table.specs.Commands.{puts, takes_out, joins, cuts}
use Rattle.table.specs.declared.Orbit.TheVariants.{Face}
use Rattle.parts.specs.Marks.{component_marks}
use Rattle.tape.specs.Steps.{TapeCommand, changes, reports, cuts_ring}
use Rattle.writer.specs.Canonical.{tape_of}
use Rattle.writer.specs.Screens.{twos_complement}
use Rattle.kernel.specs.Calls.{call_refusal, call_leaves, ring_call_refusal, ring_call_leaves, report_of, round_of}
use Rattle.kernel.specs.Tapes.{empty_table}
use Rattle.kernel.specs.declared.Totals.{Totals}

-- a plan: its report in document 01's order, the face of each list's first dart, its component marks and its tape
pub record Plan : Type 0 where
  pub report : List ℕ
  pub faces : List (List ℕ)
  pub components : List ℕ
  pub tape : List ℕ

-- on an empty table each command of the set-up is accepted; then one is tried, with its marking darts if it is a join,
-- meets the refusal given, 0 if none, and leaves the plan
pub record Row : Type 0 where
  pub capacity : ℕ
  pub set_up : List TapeCommand
  pub tried : TapeCommand
  pub marks : List ℕ
  pub refusal : ℕ
  pub plan : Plan

-- THE CALL that a command is, and what it leaves
abbrev pub refusal_by : Table → TapeCommand → ℕ
refusal_by w (changes c) = call_refusal w c
refusal_by w reports = (report_of w).number
refusal_by w (cuts_ring ws) = ring_call_refusal w ws

abbrev pub left_by : Table → TapeCommand → Table
left_by w (changes c) = call_leaves w c
left_by w reports = w
left_by w (cuts_ring ws) = ring_call_leaves w ws

abbrev pub marking_darts : Table → TapeCommand → List ℕ
marking_darts w (changes (puts x)) = []
marking_darts w (changes (takes_out x)) = []
marking_darts w (changes (joins k a b)) = marking (hypermap_of w) k a ∷ marking (hypermap_of w) k b ∷ []
marking_darts w (changes (cuts k a b)) = []
marking_darts w reports = []
marking_darts w (cuts_ring ws) = []

-- no characteristic in the table is negative
abbrev pub report_numbers : Totals → List ℕ
report_numbers t =
    t.darts ∷ t.edges ∷ t.vertices ∷ t.faces ∷ t.components ∷ twos_complement t.characteristic ∷ t.genus ∷
    t.lifts ∷ []

-- THE CHECKER
unfoldable pub same_numbers : List ℕ → List ℕ → Bool
same_numbers [] [] = true
same_numbers [] (y ∷ ys) = false
same_numbers (x ∷ xs) [] = false
same_numbers (x ∷ xs) (y ∷ ys) = eqb x y && same_numbers xs ys

unfoldable pub faces_fit : Table → List (List ℕ) → Bool
faces_fit w [] = true
faces_fit w ([] ∷ fs) = false
faces_fit w ((x ∷ xs) ∷ fs) = same_numbers (round_of w Face x) (x ∷ xs) && faces_fit w fs

abbrev pub plan_fits : Table → Plan → Bool
plan_fits w p =
    same_numbers (report_numbers (report_of w)) p.report && faces_fit w p.faces &&
    same_numbers (component_marks w) p.components && same_numbers (tape_of w) p.tape

abbrev pub tried_fits : Table → Row → Bool
tried_fits w r =
    eqb (refusal_by w r.tried) r.refusal && same_numbers (marking_darts w r.tried) r.marks &&
    plan_fits (left_by w r.tried) r.plan

unfoldable pub row_fits : Table → (set_up : List TapeCommand) → Row → Bool
row_fits w [] r = tried_fits w r
row_fits w (c ∷ cs) r = eqb (refusal_by w c) 0 && row_fits (left_by w c) cs r

-- THE TABLE
abbrev pub row : (capacity : ℕ) → (set_up : List TapeCommand) → (tried : TapeCommand) → (refusal : ℕ) → Plan → Row
row n cs c f p = record { capacity = n; set_up = cs; tried = c; marks = []; refusal = f; plan = p }

abbrev pub plan : (report : List ℕ) → (faces : List (List ℕ)) → (components tape : List ℕ) → Plan
plan r f c t = record { report = r; faces = f; components = c; tape = t }

-- an edge of two darts
abbrev pub edge_of_two : List TapeCommand
edge_of_two =
    changes (puts 1) ∷ changes (puts 2) ∷ changes (joins edge 1 2) ∷ []

-- two darts, joined in vertex and edge
abbrev pub digon : List TapeCommand
digon =
    changes (puts 1) ∷ changes (puts 2) ∷ changes (joins vertex 1 2) ∷ changes (joins edge 1 2) ∷ []

-- an edge of three darts; every vertex is one dart
abbrev pub edge_of_three : List TapeCommand
edge_of_three =
    changes (puts 1) ∷ changes (puts 2) ∷ changes (puts 3) ∷ changes (joins edge 1 2) ∷ changes (joins edge 1 3) ∷ []

-- and a vertex of two of them
abbrev pub three : List TapeCommand
three =
    changes (puts 1) ∷ changes (puts 2) ∷ changes (puts 3) ∷ changes (joins edge 1 2) ∷ changes (joins edge 1 3) ∷
    changes (joins vertex 1 2) ∷ []

-- document 01's square
abbrev pub square : List TapeCommand
square =
    changes (puts 1) ∷ changes (puts 2) ∷ changes (puts 3) ∷ changes (puts 4) ∷ changes (joins edge 1 2) ∷
    changes (joins edge 3 4) ∷ changes (joins vertex 1 3) ∷ changes (joins vertex 2 4) ∷ []

-- a vertex and an edge with two faces
abbrev pub digon_plan : Plan
digon_plan =
    plan (2 ∷ 1 ∷ 1 ∷ 2 ∷ 1 ∷ 2 ∷ 0 ∷ 1 ∷ []) ((1 ∷ []) ∷ (2 ∷ []) ∷ []) (1 ∷ 1 ∷ [])
    (1 ∷ 1 ∷ 0 ∷ 1 ∷ 2 ∷ 0 ∷ 3 ∷ 1 ∷ 0 ∷ 2 ∷ 0 ∷ 5 ∷ 1 ∷ 0 ∷ 2 ∷ 0 ∷ [])

-- the square, with the 32 bytes of its tape
abbrev pub square_plan : Plan
square_plan =
    plan (4 ∷ 2 ∷ 2 ∷ 2 ∷ 1 ∷ 2 ∷ 0 ∷ 1 ∷ []) ((1 ∷ 4 ∷ []) ∷ (2 ∷ 3 ∷ []) ∷ []) (1 ∷ 1 ∷ 1 ∷ 1 ∷ [])
    (1 ∷ 1 ∷ 0 ∷ 1 ∷ 2 ∷ 0 ∷ 1 ∷ 3 ∷ 0 ∷ 1 ∷ 4 ∷ 0 ∷ 3 ∷ 1 ∷ 0 ∷ 2 ∷ 0 ∷ 3 ∷ 3 ∷ 0 ∷ 4 ∷ 0 ∷ 5 ∷ 1 ∷ 0 ∷ 3 ∷ 0 ∷ 5 ∷
    2 ∷ 0 ∷ 4 ∷ 0 ∷ [])

unfoldable pub rows : List Row
rows =
    -- capacity 0: eight zeros
    row 0 [] reports 0
    (plan (0 ∷ 0 ∷ 0 ∷ 0 ∷ 0 ∷ 0 ∷ 0 ∷ 0 ∷ []) [] [] []) ∷
    -- one dart, and no lift
    row 1 (changes (puts 1) ∷ []) reports 0
    (plan (1 ∷ 1 ∷ 1 ∷ 1 ∷ 1 ∷ 2 ∷ 0 ∷ 0 ∷ []) ((1 ∷ []) ∷ []) (1 ∷ []) (1 ∷ 1 ∷ 0 ∷ [])) ∷
    -- an edge of two darts; its ring leaves two components, each of one dart
    row 2 edge_of_two reports 0
    (plan (2 ∷ 1 ∷ 2 ∷ 1 ∷ 1 ∷ 2 ∷ 0 ∷ 1 ∷ []) ((1 ∷ 2 ∷ []) ∷ []) (1 ∷ 1 ∷ [])
    (1 ∷ 1 ∷ 0 ∷ 1 ∷ 2 ∷ 0 ∷ 3 ∷ 1 ∷ 0 ∷ 2 ∷ 0 ∷ [])) ∷
    row 2 edge_of_two (cuts_ring (1 ∷ 2 ∷ [])) 0
    (plan (2 ∷ 2 ∷ 2 ∷ 2 ∷ 2 ∷ 4 ∷ 0 ∷ 0 ∷ []) ((1 ∷ []) ∷ (2 ∷ []) ∷ []) (1 ∷ 2 ∷ []) (1 ∷ 1 ∷ 0 ∷ 1 ∷ 2 ∷ 0 ∷ [])) ∷
    -- joined in vertex and edge; no ring there, and an edge cut leaves one component
    row 2 digon reports 0 digon_plan ∷
    row 2 digon (cuts_ring (1 ∷ 2 ∷ [])) 13 digon_plan ∷
    row 2 digon (changes (cuts edge 1 2)) 0
    (plan (2 ∷ 2 ∷ 1 ∷ 1 ∷ 1 ∷ 2 ∷ 0 ∷ 1 ∷ []) ((1 ∷ 2 ∷ []) ∷ []) (1 ∷ 1 ∷ [])
    (1 ∷ 1 ∷ 0 ∷ 1 ∷ 2 ∷ 0 ∷ 5 ∷ 1 ∷ 0 ∷ 2 ∷ 0 ∷ [])) ∷
    -- faces go by predecessors, the edge first
    row 3 edge_of_three reports 0
    (plan (3 ∷ 1 ∷ 3 ∷ 1 ∷ 1 ∷ 2 ∷ 0 ∷ 1 ∷ []) ((1 ∷ 3 ∷ 2 ∷ []) ∷ []) (1 ∷ 1 ∷ 1 ∷ [])
    (1 ∷ 1 ∷ 0 ∷ 1 ∷ 2 ∷ 0 ∷ 1 ∷ 3 ∷ 0 ∷ 3 ∷ 1 ∷ 0 ∷ 2 ∷ 0 ∷ 3 ∷ 1 ∷ 0 ∷ 3 ∷ 0 ∷ [])) ∷
    -- planar; a vertex join of 1 and 3 then adds a handle although they share a face: the marking darts are 2 and 1
    row 3 three reports 0
    (plan (3 ∷ 1 ∷ 2 ∷ 2 ∷ 1 ∷ 2 ∷ 0 ∷ 1 ∷ []) ((1 ∷ 3 ∷ []) ∷ (2 ∷ []) ∷ []) (1 ∷ 1 ∷ 1 ∷ [])
    (1 ∷ 1 ∷ 0 ∷ 1 ∷ 2 ∷ 0 ∷ 1 ∷ 3 ∷ 0 ∷ 3 ∷ 1 ∷ 0 ∷ 2 ∷ 0 ∷ 3 ∷ 1 ∷ 0 ∷ 3 ∷ 0 ∷ 5 ∷ 1 ∷ 0 ∷ 2 ∷ 0 ∷ [])) ∷
    record {
      capacity = 3;
      set_up = three;
      tried = changes (joins vertex 1 3);
      marks = 2 ∷ 1 ∷ [];
      refusal = 0;
      plan =
          plan (3 ∷ 1 ∷ 1 ∷ 1 ∷ 1 ∷ 0 ∷ 1 ∷ 1 ∷ []) ((1 ∷ 2 ∷ 3 ∷ []) ∷ []) (1 ∷ 1 ∷ 1 ∷ [])
          (1 ∷ 1 ∷ 0 ∷ 1 ∷ 2 ∷ 0 ∷ 1 ∷ 3 ∷ 0 ∷ 3 ∷ 1 ∷ 0 ∷ 2 ∷ 0 ∷ 3 ∷ 1 ∷ 0 ∷ 3 ∷ 0 ∷ 5 ∷ 1 ∷ 0 ∷ 2 ∷ 0 ∷ 5 ∷ 1 ∷ 0 ∷
          3 ∷ 0 ∷ []);
    } ∷
    -- the square; its ring parts it in two, and four lists that are no rings of it
    row 4 square reports 0 square_plan ∷
    row 4 square (cuts_ring (1 ∷ 2 ∷ 3 ∷ 4 ∷ [])) 0
    (plan (4 ∷ 4 ∷ 2 ∷ 2 ∷ 2 ∷ 4 ∷ 0 ∷ 2 ∷ []) ((1 ∷ 3 ∷ []) ∷ (2 ∷ 4 ∷ []) ∷ []) (1 ∷ 2 ∷ 1 ∷ 2 ∷ [])
    (1 ∷ 1 ∷ 0 ∷ 1 ∷ 2 ∷ 0 ∷ 1 ∷ 3 ∷ 0 ∷ 1 ∷ 4 ∷ 0 ∷ 5 ∷ 1 ∷ 0 ∷ 3 ∷ 0 ∷ 5 ∷ 2 ∷ 0 ∷ 4 ∷ 0 ∷ [])) ∷
    row 4 square (cuts_ring (1 ∷ 2 ∷ 4 ∷ 3 ∷ [])) 12 square_plan ∷
    row 4 square (cuts_ring (1 ∷ 2 ∷ 1 ∷ 2 ∷ [])) 11 square_plan ∷
    row 4 square (cuts_ring (1 ∷ 1 ∷ [])) 9 square_plan ∷
    row 4 square (cuts_ring (1 ∷ 3 ∷ [])) 8 square_plan ∷
    []

-- what holds of the public calls: every row
abbrev pub PlansPromise : Type 0
PlansPromise = all (λ r. row_fits (empty_table r.capacity) r.set_up r) rows ≡ true
