-- The conditions that accept a list are those of 2.6 and 2.7, and that the darts of each pair differ.
use mathlib.Core.Path.{◌≡◌, refl, ap, sym, ◌∙◌}
use mathlib.Core.Bool.{true, ◌&&◌}
use mathlib.Core.List.{List, [], ◌∷◌}
use Prim.Native.Nat.{ℕ, suc, ◌%◌, ◌<◌}
use native.Mathlib.Omega.{arith}
use lib.Dec.{ltb, leb, eqb}
use lib.ListN.{length}
use borrow.Author.Tests.{eqb-true, ltb-true}
use Rattle.lists.specs.Lists.{all}
use Rattle.lists.proofs.Bools.{clash, and_left, and_right, and_true}
use Rattle.hypermap.specs.Hypermap.{Hypermap, is_dart, same_edge}
use Rattle.hypermap.specs.Ring.{DoubleLink, is_double_link, unicity, continuity, closure, simplicity, is_ring}
use Rattle.hypermap.specs.Ring.{pairs_differ}
use Rattle.table.specs.Refusals.{no_list, apart, same_tab, tie_twice, gap_twice, path_broken, or_else, unless}
use Rattle.table.specs.Layout.{Table, is_present, hypermap_of}
use Rattle.table.specs.Inner.{WithinCapacity}
use Rattle.table.specs.Commands.{presence_refusal}
use Rattle.table.proofs.Holding.{mem_present}
use Rattle.table.proofs.Stages.{passed, fitting, all_present, present_fits}
use Rattle.table.specs.Limits.{max_ring}
use Rattle.rings.specs.Rings.{links_of, is_list, pairs_together, path_closes, condition_refusal, ring_refusal}
use Rattle.rings.specs.Inner.{Listed}
use Rattle.rings.specs.Laws.{is_ring_of, ConditionsLaw}

-- THE LIST
pub list_even : (ws : List ℕ) → is_list ws ≡ true → (0 < length ws) × (length ws % 2 ≡ 0)
unfolding is_list
list_even ws t =
    let u = and_left (ltb 0 (length ws) && eqb (length ws % 2) 0) (leb (length ws) max_ring) t in (
      ltb-true 0 (length ws) (and_left (ltb 0 (length ws)) (eqb (length ws % 2) 0) u),
      eqb-true (length ws % 2) 0 (and_right (ltb 0 (length ws)) (eqb (length ws % 2) 0) u),
    )

pub some_links : (ws : List ℕ) → is_list ws ≡ true → links_of ws ≡ [] → ⊥
unfolding links_of
some_links [] t e = let h = list_even [] t in omega arith
some_links (a ∷ []) t e = let h = list_even (a ∷ []) t in omega arith
some_links (a ∷ b ∷ ws) t e = let n : suc (length (links_of ws)) ≡ 0 = ap length e in omega arith

-- WORDS AND LINKS
module _ (w : Table) where
  abbrev m : Hypermap
  m = hypermap_of w

  links_darts :
      (ws : List ℕ) → all (is_present w) ws ≡ true → pairs_together m (links_of ws) ≡ true →
      all (is_double_link m) (links_of ws) ≡ true
  unfolding links_of all pairs_together
  links_darts [] p t = refl
  links_darts (a ∷ []) p t = refl
  links_darts (a ∷ b ∷ ws) p t =
      let q = and_right (is_present w a) (is_present w b && all (is_present w) ws) p in
      let i : is_dart m a ≡ true = mem_present w a ∙
      and_left (is_present w a) (is_present w b && all (is_present w) ws) p in
      let j : is_dart m b ≡ true = mem_present w b ∙ and_left (is_present w b) (all (is_present w) ws) q in
      let s = and_left (same_edge m a b) _ t in
      rw (i, j, s) (links_darts ws (and_right (is_present w b) (all (is_present w) ws) q)
      (and_right (same_edge m a b) _ t))

  darts_links :
      (ws : List ℕ) → length ws % 2 ≡ 0 → all (is_double_link m) (links_of ws) ≡ true →
      (all (is_present w) ws ≡ true) × (pairs_together m (links_of ws) ≡ true)
  unfolding links_of all pairs_together
  darts_links [] e t = (refl, refl)
  darts_links (a ∷ []) e t = absurd (omega arith)
  darts_links (a ∷ b ∷ ws) e t =
      let u = and_left (is_double_link m (record { first = a; second = b })) _ t in
      let v = and_left (is_dart m a && is_dart m b) (same_edge m a b) u in
      let i : is_present w a ≡ true = sym (mem_present w a) ∙ and_left (is_dart m a) (is_dart m b) v in
      let j : is_present w b ≡ true = sym (mem_present w b) ∙ and_right (is_dart m a) (is_dart m b) v in
      let s = and_right (is_dart m a && is_dart m b) (same_edge m a b) u in
      let r = darts_links ws (omega arith) (and_right (is_double_link m (record { first = a; second = b })) _ t) in
      (rw (i, j) r.0, rw s r.1)

-- ALL CONDITIONS
pub record Fitting (m : Hypermap) (ls : List DoubleLink) : Type 0 where
  pub differ : pairs_differ ls ≡ true
  pub edges : unicity m ls ≡ true
  pub faces : simplicity m ls ≡ true
  pub path : path_closes m ls ≡ true

ring_from :
    (m : Hypermap) (ls : List DoubleLink) → (ls ≡ [] → ⊥) → all (is_double_link m) ls ≡ true → Fitting m ls →
    is_ring_of m ls ≡ true
unfolding is_ring_of path_closes
ring_from m [] n d f = absurd (n refl)
ring_from m (l ∷ ls) n d f =
    let c = and_left (continuity m l ls) (closure m l ls) f.path in
    let e = and_right (continuity m l ls) (closure m l ls) f.path in
    and_true (is_ring m l ls) (pairs_differ (l ∷ ls)) (rw (d, f.edges, c, e) f.faces) f.differ

pub ring_to :
    (m : Hypermap) (ls : List DoubleLink) → is_ring_of m ls ≡ true → (all (is_double_link m) ls ≡ true) ×
    Fitting m ls
unfolding is_ring_of path_closes
ring_to m [] t = absurd (clash t refl)
ring_to m (l ∷ ls) t =
    let a = all (is_double_link m) (l ∷ ls) in
    let u = unicity m (l ∷ ls) in
    let c = continuity m l ls in
    let e = closure m l ls in
    let s = simplicity m (l ∷ ls) in
    let r = and_left (is_ring m l ls) (pairs_differ (l ∷ ls)) t in
    let r₁ = and_left (a && u && c && e) s r in
    let r₂ = and_left (a && u && c) e r₁ in
    let r₃ = and_left (a && u) c r₂ in (
      and_left a u r₃,
      record {
        differ = and_right (is_ring m l ls) (pairs_differ (l ∷ ls)) t;
        edges = and_right a u r₃;
        faces = and_right (a && u && c && e) s r;
        path = and_true c e (and_right (a && u) c r₂) (and_right (a && u && c) e r₁);
      },
    )

pub record Accepted (w : Table) (ws : List ℕ) : Type 0 where
  pub list : is_list ws ≡ true
  pub darts : all (is_present w) ws ≡ true
  pub together : pairs_together (hypermap_of w) (links_of ws) ≡ true
  pub fit : Fitting (hypermap_of w) (links_of ws)

pub accepted_list : (w : Table) (ws : List ℕ) → ring_refusal w ws ≡ 0 → Accepted w ws
unfolding ring_refusal condition_refusal
accepted_list w ws e =
    let m = hypermap_of w in
    let ls = links_of ws in
    let a = passed (unless (is_list ws) no_list) _ e in
    let b = passed (presence_refusal w ws) (condition_refusal m ls) a.1 in
    let c = passed (unless (pairs_together m ls) apart) _ b.1 in
    let d = passed (unless (pairs_differ ls) same_tab) _ c.1 in
    let f = passed (unless (unicity m ls) tie_twice) _ d.1 in
    let g = passed (unless (simplicity m ls) gap_twice) (unless (path_closes m ls) path_broken) f.1 in
    record {
      list = fitting (is_list ws) no_list (omega arith) a.0;
      darts = all_present w ws b.0;
      together = fitting (pairs_together m ls) apart (omega arith) c.0;
      fit = record {
        differ = fitting (pairs_differ ls) same_tab (omega arith) d.0;
        edges = fitting (unicity m ls) tie_twice (omega arith) f.0;
        faces = fitting (simplicity m ls) gap_twice (omega arith) g.0;
        path = fitting (path_closes m ls) path_broken (omega arith) g.1;
      };
    }

-- what a cut along it asks
pub accepted_listed : (w : Table) (ws : List ℕ) → WithinCapacity w → ring_refusal w ws ≡ 0 → Listed w ws
accepted_listed w ws p e = record { hypermap = p.hypermap; room = p.room; darts = (accepted_list w ws e).darts }

acceptable : (w : Table) (ws : List ℕ) → Accepted w ws → ring_refusal w ws ≡ 0
unfolding ring_refusal condition_refusal or_else unless
acceptable w ws a =
    let f = a.fit in
    rw (a.list, present_fits w ws a.darts, a.together, f.differ, f.edges, f.faces, f.path)

pub conditions_law : ConditionsLaw
conditions_law w ws = (
  λ e. let a = accepted_list w ws e in (
    a.list,
    ring_from (hypermap_of w) (links_of ws) (some_links ws a.list) (links_darts w ws a.darts a.together) a.fit,
  ),
  λ p.
      let r = ring_to (hypermap_of w) (links_of ws) p.1 in
      let d = darts_links w ws (list_even ws p.0).1 r.0 in
      acceptable w ws (record { list = p.0; darts = d.0; together = d.1; fit = r.1 }),
)
