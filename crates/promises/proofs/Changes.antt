-- The second demand for changes: when a put, a take-out, a join, a cut or a ring is accepted, what it leaves, and that
-- a sound table stays sound. A call that is not refused has a sound table and darts of it, to which the laws of tables
-- and rings apply.
use mathlib.Core.Path.{◌≡◌, refl, sym, ◌∙◌}
use mathlib.Core.Bool.{true}
use mathlib.Core.List.{List}
use Prim.Native.Nat.{ℕ}
use lib.Dec.{eqb}
use lib.ListN.{length}
use borrow.Author.Tests.{eqb-true}
use Rattle.lists.proofs.Bools.{by_cases}
use Rattle.hypermap.specs.Hypermap.{Dimension}
use Rattle.hypermap.specs.Change.{change}
use Rattle.hypermap.specs.Ring.{break_along}
use Rattle.table.specs.Layout.{Table, is_present, holds_hypermap, hypermap_of}
use Rattle.table.specs.Commands.{Command, puts, takes_out, joins, cuts, swapped, is_together, command_on, leaves}
use Rattle.table.specs.Laws.{Holds, AddsDart}
use Rattle.table.proofs.Accepting.{put_passed, put_fits, take_out_passed, take_out_fits, join_passed, join_fits}
use Rattle.table.proofs.Accepting.{cut_passed, cut_fits}
use Rattle.table.proofs.Commands.{keeps_hypermap_law}
use Rattle.table.proofs.Holding.{mem_present}
use Rattle.table.proofs.Putting.{put_law, take_out_law}
use Rattle.table.proofs.Swaps.{swap_law}
use Rattle.soundness.specs.Soundness.{table_refusal}
use Rattle.soundness.proofs.Passing.{table_passed, table_fits, size_stays, holds_sound}
use Rattle.rings.specs.Rings.{links_of, cut_along}
use Rattle.rings.proofs.Conditions.{conditions_law}
use Rattle.rings.proofs.Parting.{accepted_cut}
use Rattle.tape.specs.Runs.{run_of}
use Rattle.tape.proofs.Running.{run_keeps_hypermap_law}
use Rattle.kernel.specs.Calls.{call_refusal, call_leaves, ring_call_refusal, ring_call_leaves}
use Rattle.kernel.specs.Tapes.{play_refusal, play_outcome}
use Rattle.promises.specs.SecondDemand.{PutsBy, TakesOutBy, JoinsBy, CutsBy, RingsBy, StaysSound}
use Rattle.promises.proofs.Accepted.{call_passed, call_fits, accepted_leaves, ring_passed, ring_fits, ring_leaves}

-- PUT AND TAKE OUT
pub put_accepted : (w : Table) (x : ℕ) → PutsBy w x
put_accepted w x = (
  λ e.
      let p = call_passed w (puts x) e in
      let f = put_passed w x p.1 in
      (p.0, f.low, f.high, mem_present w x ∙ f.absent),
  λ p.
      call_fits w (puts x) p.0
      (put_fits w x (record { low = p.1; high = p.2; absent = sym (mem_present w x) ∙ p.3 })),
)

pub take_out_accepted : (w : Table) (x : ℕ) → TakesOutBy w x
take_out_accepted w x = (
  λ e.
      let p = call_passed w (takes_out x) e in
      let f = take_out_passed w x p.1 in
      (p.0, mem_present w x ∙ f.present, f.home),
  λ p.
      call_fits w (takes_out x) p.0
      (take_out_fits w x (record { present = sym (mem_present w x) ∙ p.1; home = p.2 })),
)

pub put_adds :
    (w : Table) (x : ℕ) → call_refusal w (puts x) ≡ 0 →
    AddsDart (hypermap_of w) (hypermap_of (call_leaves w (puts x))) x
put_adds w x e =
    let p = call_passed w (puts x) e in
    rw (accepted_leaves w (puts x) e) (put_law w (table_passed w p.0).hypermap x p.1)

pub take_out_removes :
    (w : Table) (x : ℕ) → call_refusal w (takes_out x) ≡ 0 →
    AddsDart (hypermap_of (call_leaves w (takes_out x))) (hypermap_of w) x
take_out_removes w x e =
    let p = call_passed w (takes_out x) e in
    rw (accepted_leaves w (takes_out x) e) (take_out_law w (table_passed w p.0).hypermap x p.1)

-- JOINS AND CUTS
pub join_accepted : (w : Table) (k : Dimension) (a b : ℕ) → JoinsBy w k a b
unfolding is_together
join_accepted w k a b = (
  λ e.
      let p = call_passed w (joins k a b) e in
      let j = join_passed w k a b p.1 in
      (p.0, mem_present w a ∙ j.first, mem_present w b ∙ j.second, j.apart),
  λ p.
      call_fits w (joins k a b) p.0 (join_fits w k a b (record {
        first = sym (mem_present w a) ∙ p.1;
        second = sym (mem_present w b) ∙ p.2;
        apart = p.3;
      })),
)

pub cut_accepted : (w : Table) (k : Dimension) (a b : ℕ) → CutsBy w k a b
unfolding is_together
cut_accepted w k a b = (
  λ e.
      let p = call_passed w (cuts k a b) e in
      let s = cut_passed w k a b p.1 in
      (p.0, mem_present w a ∙ s.first, mem_present w b ∙ s.second, s.together, s.differ),
  λ p.
      call_fits w (cuts k a b) p.0 (cut_fits w k a b (record {
        first = sym (mem_present w a) ∙ p.1;
        second = sym (mem_present w b) ∙ p.2;
        together = p.3;
        differ = p.4;
      })),
)

-- an accepted command that swaps has made the change of 2.8
changes :
    (w : Table) (k : Dimension) (a b : ℕ) (c : Command) → call_refusal w c ≡ 0 → command_on w c ≡ swapped k a b w →
    is_present w a ≡ true → is_present w b ≡ true → Holds (call_leaves w c) (change k a b (hypermap_of w))
changes w k a b c e q pa pb =
    rw (accepted_leaves w c e, q) (swap_law w (table_passed w (call_passed w c e).0).hypermap k a b pa pb).holds

pub join_changes :
    (w : Table) (k : Dimension) (a b : ℕ) → call_refusal w (joins k a b) ≡ 0 →
    Holds (call_leaves w (joins k a b)) (change k a b (hypermap_of w))
join_changes w k a b e =
    let j = join_passed w k a b (call_passed w (joins k a b) e).1 in
    changes w k a b (joins k a b) e refl j.first j.second

pub cut_changes :
    (w : Table) (k : Dimension) (a b : ℕ) → call_refusal w (cuts k a b) ≡ 0 →
    Holds (call_leaves w (cuts k a b)) (change k a b (hypermap_of w))
cut_changes w k a b e =
    let s = cut_passed w k a b (call_passed w (cuts k a b) e).1 in
    changes w k a b (cuts k a b) e refl s.first s.second

-- RINGS
pub ring_accepted : (w : Table) (ws : List ℕ) → RingsBy w ws
ring_accepted w ws = (
  λ e. let p = ring_passed w ws e in let r = (conditions_law w ws).0 p.1 in (p.0, r.0, r.1),
  λ p. ring_fits w ws p.0 ((conditions_law w ws).1 (p.1, p.2)),
)

pub ring_breaks :
    (w : Table) (ring : List ℕ) → ring_call_refusal w ring ≡ 0 →
    Holds (ring_call_leaves w ring) (break_along (links_of ring) (hypermap_of w))
ring_breaks w ws e =
    let p = ring_passed w ws e in
    rw (ring_leaves w ws e) (accepted_cut w ws (table_passed w p.0).hypermap p.1).holds

-- SOUND STAYS SOUND: a refused call leaves the table, and an accepted one another that holds a hypermap
module _ (w : Table) (t : table_refusal w ≡ 0) where
  unchanged : StaysSound w w
  unchanged = record { sound = t; size = refl }

  pub changed : (v : Table) → (holds_hypermap v ≡ true) × (length v ≡ length w) → StaysSound w v
  changed v p = record {
    sound = table_fits v (size_stays v w p.1 (table_passed w t).size) (holds_sound v p.0);
    size = p.1;
  }

  stays : (n : ℕ) (v : Table) → (n ≡ 0 → StaysSound w v) → StaysSound w (leaves n v w)
  unfolding leaves
  stays n v f = by_cases (eqb n 0) (λ e. rw e (f (eqb-true n 0 e))) (λ e. rw e unchanged)

  pub command_stays : (c : Command) → StaysSound w (call_leaves w c)
  unfolding call_leaves
  command_stays c =
      stays (call_refusal w c) (command_on w c) (λ e.
      changed (command_on w c) (keeps_hypermap_law w (table_passed w t).hypermap c (call_passed w c e).1))

  pub ring_stays : (ring : List ℕ) → StaysSound w (ring_call_leaves w ring)
  unfolding ring_call_leaves
  ring_stays ws =
      stays (ring_call_refusal w ws) (cut_along (links_of ws) w) (λ e.
      let c = accepted_cut w ws (table_passed w t).hypermap (ring_passed w ws e).1 in
      changed (cut_along (links_of ws) w) (c.hypermap, c.size))

  pub run_stays : (tape : List ℕ) → StaysSound w (play_outcome w tape).state
  unfolding play_outcome
  run_stays tape =
      by_cases (eqb (play_refusal w tape) 0)
      (λ e. rw e (changed (run_of w tape).state (run_keeps_hypermap_law w tape (table_passed w t).hypermap)))
      (λ e. rw e unchanged)
