-- Joins on a table, one after the other: a join with a dart that is alone is accepted, and swaps two successors.
use mathlib.Core.Path.{◌≡◌, refl, ap, sym, ◌∙◌}
use mathlib.Core.Bool.{true, false}
use mathlib.Core.List.{List, [], ◌∷◌, map}
use Prim.Native.Nat.{ℕ}
use lib.ListN.{length}
use Rattle.lists.specs.Lists.{among, distinct}
use Rattle.lists.proofs.Bools.{clash, refuted}
use Rattle.lists.proofs.Lists.{Mem, mem_head, mem_tail, not_among, distinct_head, distinct_tail}
use Rattle.hypermap.specs.Hypermap.{Dimension, of}
use Rattle.hypermap.specs.Change.{swap}
use Rattle.hypermap.proofs.Permutations.Reaching.{ride}
use Rattle.hypermap.proofs.Permutations.Splicing.{swap_first, swap_second, swap_else, swap_cases}
use Rattle.hypermap.proofs.Laws.Orbits.{orbit_law}
use Rattle.hypermap.proofs.Laws.Distances.{distance_law}
use Rattle.hypermap.proofs.Laws.Changes.{change_law}
use Rattle.table.specs.Layout.{Table, word_at, next_word, is_present, hypermap_of, holds_hypermap}
use Rattle.table.specs.Commands.{joins, swapped, is_together, command_refusal}
use Rattle.table.specs.Runs.{after_all, AllAccepted}
use Rattle.table.proofs.Holding.{mem_present, table_hypermap}
use Rattle.table.proofs.Accepting.{join_fits}
use Rattle.table.proofs.Swaps.{swap_law}
use Rattle.tape.specs.Steps.{changes, step_rule}
use Rattle.writer.proofs.Cycles.{turn}

pub same_present : (v w : Table) → (hypermap_of v).darts ≡ (hypermap_of w).darts → (x : ℕ) →
    is_present v x ≡ is_present w x
same_present v w d x = sym (mem_present v x) ∙ ap (among x) d ∙ mem_present w x

-- A JOIN with t alone: what t reaches is t
module _
    (u : Table) (s : holds_hypermap u ≡ true) (k : Dimension) (a t : ℕ) (pa : is_present u a ≡ true)
    (pt : is_present u t ≡ true) (d : a ≡ t → ⊥) (alone : word_at u t (next_word k) ≡ t) where
  not_together : is_together u k a t ≡ false
  unfolding is_together
  not_together =
      let h = table_hypermap u s in
      let f : ℕ → ℕ = λ x. word_at u x (next_word k) in
      refuted _ (λ m. let r = (orbit_law (hypermap_of u) h (of k)).1.symmetric a t (mem_present u a ∙ pa) m in
      let i = (distance_law (hypermap_of u) h (of k) t a (mem_present u t ∙ pt)).reached.0 r in
      d (ride f (λ z. z ≡ t) (λ z e. ap f e ∙ alone) t a i refl))

  join_accepted : command_refusal u (joins k a t) ≡ 0
  join_accepted = join_fits u k a t (record { first = pa; second = pt; apart = not_together })

-- u has the darts of w, g as their successor in dimension k, and the successors of v in the other
pub record Turned (w v u : Table) (k : Dimension) (g : ℕ → ℕ) : Type 0 where
  pub size : length u ≡ length w
  pub hypermap : holds_hypermap u ≡ true
  pub darts : (hypermap_of u).darts ≡ (hypermap_of w).darts
  pub next : (x : ℕ) → is_present w x ≡ true → word_at u x (next_word k) ≡ g x
  pub other :
      (j : Dimension) → (j ≡ k → ⊥) → (x : ℕ) → is_present w x ≡ true →
      word_at u x (next_word j) ≡ word_at v x (next_word j)

module _ (w v : Table) (k : Dimension) where
  joined :
      (u : Table) (g : ℕ → ℕ) → Turned w v u k g → (a t : ℕ) → is_present w a ≡ true → is_present w t ≡ true →
      (a ≡ t → ⊥) → g t ≡ t →
      (command_refusal u (joins k a t) ≡ 0) × Turned w v (swapped k a t u) k (λ x. swap a t (g x))
  joined u g h a t pa pt d e =
      let same = same_present u w h.darts in
      let i = swap_law u h.hypermap k a t (same a ∙ pa) (same t ∙ pt) in
      let c = (change_law (hypermap_of u) k a t).0 in (
        join_accepted u h.hypermap k a t (same a ∙ pa) (same t ∙ pt) d (h.next t pt ∙ e),
        record {
          size = i.size ∙ h.size;
          hypermap = i.hypermap;
          darts = i.holds.darts ∙ h.darts;
          next = λ x p.
              i.holds.next k x (mem_present u x ∙ same x ∙ p) ∙
              swap_cases a t (word_at u x (next_word k))
              (λ q. c.at_first x q ∙ sym (ap (swap a t) q ∙ swap_first a t))
              (λ q. c.at_second x q ∙ sym (ap (swap a t) q ∙ swap_second a t))
              (λ m n. c.elsewhere x m n ∙ sym (swap_else a t _ m n)) ∙
              ap (swap a t) (h.next x p);
          other = λ j n x p.
              i.holds.next j x (mem_present u x ∙ same x ∙ p) ∙ ap (λ f. f x) (c.other j n).0 ∙ h.other j n x p;
        },
      )

  -- a with each dart of a list
  pub joined_all :
      (a : ℕ) (ts : List ℕ) (u : Table) (g : ℕ → ℕ) → Turned w v u k g → is_present w a ≡ true →
      ((t : ℕ) → Mem t ts → (is_present w t ≡ true) × (g t ≡ t)) → among a ts ≡ false → distinct ts ≡ true →
      AllAccepted step_rule u (map changes (map (joins k a) ts)) ×
      Turned w v (after_all step_rule u (map changes (map (joins k a) ts))) k (λ x. turn a ts (g x))
  joined_all a [] u g h pa r n d = (tt, h)
  joined_all a (t ∷ ts) u g h pa r n d =
      let q = not_among a t ts n in
      let here = r t (mem_head t ts) in
      let j = joined u g h a t pa here.0 q.0 here.1 in
      let i = joined_all a ts (swapped k a t u) (λ x. swap a t (g x)) j.1 pa
      (λ y m. let there = r y (mem_tail y t ts m) in (
        there.0,
        ap (swap a t) there.1 ∙ swap_else a t y
            (λ e. clash (rw e at m) q.1) (λ e. clash (rw e at m) (distinct_head t ts d)),
      )) q.1 (distinct_tail t ts d) in
      ((j.0, i.0), i.1)
