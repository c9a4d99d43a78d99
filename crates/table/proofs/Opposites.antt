-- The opposite of an accepted command is accepted and restores every word: the change of four words undoes itself, and
-- put and take out write the words of one dart.
use Rattle.std.proofs.Common.{◌≡◌, ℕ, suc, ◌*◌, ◌/◌, ◌%◌, ◌<◌, ◌≤◌, true, not, eqb, length, get_or, sym, refl, ap, ◌∙◌}
use Rattle.std.proofs.Common.{arith, ext_get_or, eqb-true}
use borrow.Author.Tests.{eqb-false}
use Rattle.lists.specs.Lists.{among}
use Rattle.lists.proofs.Bools.{by_cases, clash, refuted}
use Rattle.lists.proofs.Lists.{Mem}
use Rattle.hypermap.specs.Hypermap.{Dimension, Hypermap, is_hypermap, of}
use Rattle.hypermap.specs.Change.{swap_in, change}
use Rattle.hypermap.proofs.Permutations.Splicing.{swap_in_twice, swap_in_inside}
use Rattle.hypermap.proofs.Hypermaps.Alike.{answers_agree}
use Rattle.hypermap.proofs.Laws.Orbits.{orbit_law, equal_orbits}
use Rattle.hypermap.proofs.Laws.Changes.{change_hypermap}
use Rattle.hypermap.proofs.Laws.JoinsOrCuts.{join_or_cut_law}
use Rattle.table.specs.Limits.{words_per_dart, hypermap_words}
use Rattle.table.specs.Layout.{Table, capacity, place, word_at, next_word, back_word, is_present, holds_hypermap}
use Rattle.table.specs.Layout.{hypermap_of}
use Rattle.table.specs.Commands.{with_all, swapped, puts, takes_out, joins, cuts, is_together, command_refusal}
use Rattle.table.specs.Laws.{Holds, IsSwapped, OppositeLaw}
use Rattle.table.proofs.Holding.{low, high, first_word, present_from, mem_present, links, empty, table_hypermap}
use Rattle.table.proofs.Holding.{holds_agrees}
use Rattle.table.proofs.Writing.{next_small, each_word}
use Rattle.table.proofs.Accepting.{Free, Alone, put_passed, put_fits, take_out_passed, take_out_fits, join_passed}
use Rattle.table.proofs.Accepting.{join_fits, cut_passed, cut_fits}
use Rattle.table.proofs.Swaps.{swap_law}
use Rattle.table.proofs.Commands.{all_length, here, elsewhere}
use Rattle.table.proofs.OnlyTables.{table_law}

module _ (w : Table) (s : holds_hypermap w ≡ true) (z : length w % words_per_dart ≡ 0) where
  abbrev m : Hypermap
  m = hypermap_of w

  wf : is_hypermap m ≡ true
  wf = table_hypermap w s

  -- THE CHANGE OF FOUR WORDS, twice
  module _ (k : Dimension) (a b : ℕ) (pa : is_present w a ≡ true) (pb : is_present w b ≡ true) where
    abbrev v : Table
    v = swapped k a b w

    once : IsSwapped w k a b
    once = swap_law w s k a b pa pb

    stays : (x : ℕ) → is_present w x ≡ true → is_present v x ≡ true
    stays x p = sym (mem_present v x) ∙ ap (among x) once.holds.darts ∙ mem_present w x ∙ p

    twice : IsSwapped v k a b
    twice = swap_law v once.hypermap k a b (stays a pa) (stays b pb)

    ha : Mem a m.darts
    ha = mem_present w a ∙ pa

    hb : Mem b m.darts
    hb = mem_present w b ∙ pb

    holds_again : Holds (swapped k a b v) m
    holds_again = record {
      darts = twice.holds.darts ∙ once.holds.darts;
      next = λ j x d.
          twice.holds.next j x (rw once.holds.darts d) ∙ ap (swap_in k a b j) (once.holds.next j x d) ∙
          swap_in_twice k a b j (m.next j x);
      back = λ j x d.
          twice.holds.back j x (rw once.holds.darts d) ∙
          once.holds.back j (swap_in k a b j x) (swap_in_inside m.darts k a b ha hb j x d) ∙
          ap (m.back j) (swap_in_twice k a b j x);
    }

    -- no other table of this length holds the hypermap
    swap_back : swapped k a b v ≡ w
    swap_back =
        let l : length w ≡ words_per_dart * capacity w = omega (arith, z) in
        let t = table_law (capacity w) m wf (λ x d. let i = sym (mem_present w x) ∙ d in (low w x i, high w x i)) in
        t.unique _ (twice.size ∙ once.size ∙ l) twice.hypermap holds_again ∙
        sym (t.unique w l s (record { darts = refl; next = λ j x d. refl; back = λ j x d. refl }))

    -- what was together is apart, and the other way
    toggled : (a ≡ b → ⊥) → is_together v k a b ≡ not (is_together w k a b)
    unfolding is_together
    toggled d =
        let n = change k a b m in
        let g = answers_agree n (hypermap_of v) (change_hypermap m k a b wf ha hb) (table_hypermap v once.hypermap)
        (holds_agrees v n once.holds) in
        equal_orbits n (hypermap_of v) (of k) a b (g.same_orbits (of k) a ha) ∙ join_or_cut_law m wf k a b ha hb d

  -- PUT AND TAKE OUT: one dart's words are written twice
  one_dart :
      (x u n : ℕ) → 1 ≤ x → x ≤ capacity w → ((j : ℕ) → j < hypermap_words → word_at w x j ≡ n) →
      with_all x n (with_all x u w) ≡ w
  unfolding word_at
  one_dart x u n l h own =
      let v = with_all x u w in
      let e = all_length w x u l h in
      let g : x ≤ capacity v = rw e h in
      let same : (y : ℕ) → 1 ≤ y → (j : ℕ) → j < hypermap_words → word_at (with_all x n v) y j ≡ word_at w y j =
      λ y i j q. by_cases (eqb y x)
      (λ t. rw (eqb-true y x t) (here v x n l g j q ∙ sym (own j q)))
      (λ t. let d = eqb-false y x t in elsewhere v x n l g j q y i d ∙ elsewhere w x u l h j q y i d) in
      ext_get_or 0 _ w (all_length v x n l g ∙ e) (λ i q.
      let p : i ≡ place (suc (i / words_per_dart)) (i % words_per_dart) = omega arith in
      ap (λ c. get_or (with_all x n v) c 0) p ∙
      same (suc (i / words_per_dart)) (omega arith) (i % words_per_dart) (omega arith) ∙
      ap (λ c. get_or w c 0) (sym p))

  put_back :
      (x : ℕ) → Free w x →
      (command_refusal (with_all x x w) (takes_out x) ≡ 0) × (with_all x 0 (with_all x x w) ≡ w)
  put_back x f =
      let l = f.low in
      let h = f.high in
      let at = here w x x l h in (
        take_out_fits (with_all x x w) x (record {
          present = present_from (with_all x x w) x l (rw (all_length w x x l h) h) (rw (at 0 (omega arith)) l);
          home = λ k. at (next_word k) (next_small k);
        }),
        one_dart x x 0 l h (each_word (λ j. word_at w x j ≡ 0) (empty w s x l h f.absent)),
      )

  take_back :
      (x : ℕ) → Alone w x →
      (command_refusal (with_all x 0 w) (puts x) ≡ 0) × (with_all x x (with_all x 0 w) ≡ w)
  take_back x a =
      let p = a.present in
      let l = low w x p in
      let h = high w x p in
      let at = here w x 0 l h in (
        put_fits (with_all x 0 w) x (record {
          low = l;
          high = rw (all_length w x 0 l h) h;
          absent = refuted _ (λ t. absurd (omega (arith, first_word (with_all x 0 w) x t, at 0 (omega arith))));
        }),
        one_dart x 0 x l h (each_word (λ j. word_at w x j ≡ x) (λ k. (
          a.home k,
          ap (λ y. word_at w y (back_word k)) (sym (a.home k)) ∙ (links w s k x p).back_next,
        ))),
      )

  together_self : (k : Dimension) (a : ℕ) → is_present w a ≡ true → is_together w k a a ≡ true
  unfolding is_together
  together_self k a p = (orbit_law m wf (of k)).1.reflexive a (mem_present w a ∙ p)

pub opposite_law : OppositeLaw
opposite_law w s z (puts x) e = put_back w s z x (put_passed w x e)
opposite_law w s z (takes_out x) e = take_back w s z x (take_out_passed w x e)
opposite_law w s z (joins k a b) e =
    let j = join_passed w k a b e in
    let d : a ≡ b → ⊥ = λ q. clash (together_self w s z k a j.first) (rw (sym q) at j.apart) in (
      cut_fits (swapped k a b w) k a b (record {
        first = stays w s z k a b j.first j.second a j.first;
        second = stays w s z k a b j.first j.second b j.second;
        together = toggled w s z k a b j.first j.second d ∙ ap not j.apart;
        differ = d;
      }),
      swap_back w s z k a b j.first j.second,
    )
opposite_law w s z (cuts k a b) e =
    let j = cut_passed w k a b e in (
      join_fits (swapped k a b w) k a b (record {
        first = stays w s z k a b j.first j.second a j.first;
        second = stays w s z k a b j.first j.second b j.second;
        apart = toggled w s z k a b j.first j.second j.differ ∙ ap not j.together;
      }),
      swap_back w s z k a b j.first j.second,
    )
