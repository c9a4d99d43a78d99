-- A canonical tape, played on an empty table of the same size, builds the table: the puts give its darts, each alone,
-- and the joins of each dimension its orbits. So unequal tables have unequal tapes.
use mathlib.Core.Path.{◌≡◌, refl, sym, ap, ◌∙◌}
use mathlib.Core.Bool.{true}
use mathlib.Core.List.{◌++◌, map, map-append}
use Prim.Native.Nat.{ℕ, ◌*◌, ◌≤◌}
use native.Mathlib.Omega.{arith}
use lib.ListN.{length, length-map, replicate}
use Rattle.hypermap.specs.Hypermap.{Dimension, edge, vertex, is_dart}
use Rattle.table.specs.Limits.{words_per_dart}
use Rattle.table.specs.Layout.{Table, capacity, word_at, next_word, back_word, is_present, holds_hypermap, hypermap_of}
use Rattle.table.specs.Laws.{Holds}
use Rattle.table.specs.Runs.{after_all, AllAccepted}
use Rattle.table.proofs.Holding.{low, high, mem_present, links, table_hypermap}
use Rattle.table.proofs.OnlyTables.{table_law}
use Rattle.table.proofs.Runs.{run_whole, after_both, accepted_both}
use Rattle.tape.specs.Steps.{changes, step_rule}
use Rattle.tape.specs.Runs.{run_of}
use Rattle.writer.specs.Canonical.{puts_of, joins_of, commands_of, tape_of}
use Rattle.writer.specs.Laws.{IsBuilt, BuildLaw, OnlyTapeLaw}
use Rattle.writer.proofs.ReadBack.{read_back}
use Rattle.writer.proofs.Putting.{PutAll, put_all}
use Rattle.writer.proofs.JoinSteps.{same_present}
use Rattle.writer.proofs.Rejoining.{Unjoined, Rejoined, rejoin}

-- TABLES of the same darts and successors: the predecessors are the same too
module _
    (v w : Table) (sv : holds_hypermap v ≡ true) (sw : holds_hypermap w ≡ true)
    (d : (hypermap_of v).darts ≡ (hypermap_of w).darts)
    (next :
    (k : Dimension) (x : ℕ) → is_present w x ≡ true → word_at v x (next_word k) ≡ word_at w x (next_word k)) where
  same_back : (k : Dimension) (x : ℕ) → is_present w x ≡ true → word_at v x (back_word k) ≡ word_at w x (back_word k)
  same_back k x p =
      let i = links w sw k x p in
      let y = word_at w x (back_word k) in
      ap (λ z. word_at v z (back_word k)) (sym (next k y i.back_present ∙ i.next_back)) ∙
      (links v sv k y (same_present v w d y ∙ i.back_present)).back_next

  is_in : (x : ℕ) → is_dart (hypermap_of w) x ≡ true → is_present w x ≡ true
  is_in x m = rw mem_present at m

  within : (x : ℕ) → is_dart (hypermap_of w) x ≡ true → (1 ≤ x) × (x ≤ capacity w)
  within x m = (low w x (is_in x m), high w x (is_in x m))

  same_holds : Holds v (hypermap_of w)
  same_holds = record {
    darts = d;
    next = λ k x m. next k x (is_in x m);
    back = λ k x m. same_back k x (is_in x m);
  }

  pub same_table : length v ≡ words_per_dart * capacity w → length w ≡ words_per_dart * capacity w → v ≡ w
  same_table zv zw =
      let t = table_law (capacity w) (hypermap_of w) (table_hypermap w sw) within in
      t.unique v zv sv same_holds ∙
      sym (t.unique w zw sw (record { darts = refl; next = λ k x m. refl; back = λ k x m. refl }))

-- STAGES: v after the puts, u after the joins of edges, t after those of vertices
edge_vertex : edge ≡ vertex → ⊥
edge_vertex e = let z : ◌≡◌ {A = ℕ} 0 1 = cc in omega arith

module _ (w v u : Table) (a : PutAll w v) where
  edges_unjoined : Unjoined w v edge
  edges_unjoined = record { size = a.size; hypermap = a.hypermap; darts = a.darts; alone = a.alone edge }

  module _ (b : Rejoined w v u edge) where
    vertices_unjoined : Unjoined w u vertex
    vertices_unjoined = record {
      size = b.size;
      hypermap = b.hypermap;
      darts = b.darts;
      alone = λ x p. b.other vertex (λ e. edge_vertex (sym e)) x p ∙ a.alone vertex x p;
    }

    both_rejoined :
        (t : Table) → Rejoined w u t vertex → holds_hypermap w ≡ true → length w ≡ words_per_dart * capacity w → t ≡ w
    both_rejoined t c s z = same_table t w c.hypermap s c.darts next (c.size ∙ z) z
      where
        next : (k : Dimension) (x : ℕ) → is_present w x ≡ true → word_at t x (next_word k) ≡ word_at w x (next_word k)
        next edge x p = c.other edge edge_vertex x p ∙ b.next x p
        next vertex x p = c.next x p

-- THE TAPE
built :
    (w : Table) → holds_hypermap w ≡ true → length w ≡ words_per_dart * capacity w →
    AllAccepted step_rule (replicate (length w) 0) (map changes (commands_of w)) ×
    (after_all step_rule (replicate (length w) 0) (map changes (commands_of w)) ≡ w)
built w s z =
    let e : Table = replicate (length w) 0 in
    let ps = map changes (puts_of (hypermap_of w)) in
    let es = map changes (joins_of (hypermap_of w) edge) in
    let vs = map changes (joins_of (hypermap_of w) vertex) in
    let v = after_all step_rule e ps in
    let u = after_all step_rule v es in
    let p = put_all w in
    let i = rejoin w v edge s (edges_unjoined w v u p.1) in
    let j = rejoin w u vertex s (vertices_unjoined w v u p.1 i.1) in
    simp (map-append changes, after_both) (
      accepted_both step_rule e (ps ++ es) vs (accepted_both step_rule e ps es p.0 i.0)
          (rw (after_both step_rule e ps es) j.0),
      both_rejoined w v u p.1 i.1 _ j.1 s z,
    )

pub build_law : BuildLaw
unfolding tape_of
build_law w s z =
    let b = built w s z in
    rw (read_back (commands_of w), run_whole step_rule _ _ 0 b.0)
    (record { whole = refl; all = length-map (commands_of w) changes; same = b.1 })

pub only_tape_law : OnlyTapeLaw
only_tape_law v w sv sw z l t =
    let b : IsBuilt w (run_of (replicate (length w) 0) (tape_of w)) = build_law w sw (omega arith) in
    sym (build_law v sv z).same ∙ rw (l, t) b.same
