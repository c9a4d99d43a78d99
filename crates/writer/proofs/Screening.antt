-- The screen's answer: numbers of four bytes laid one behind another, and the tape behind them.
use mathlib.Core.Path.{◌≡◌, refl, ap, sym, ◌∙◌}
use mathlib.Core.List.{List, [], ◌∷◌, ◌++◌, map, append_assoc, append-nil}
use Prim.Native.Nat.{ℕ, ◌+◌, ◌*◌, ◌-◌, ◌≤◌}
use native.Mathlib.Omega.{arith}
use lib.IntN.{ℤ, pos, negsuc}
use lib.ListN.{length, take, drop, length-append, length-drop, length-map}
use lib.Seq.{take-length, drop-length, take_all, take_at, drop_at, drop-drop}
use mir.Syntax.{w32}
use borrow.Author.Tests.{le-leb}
use Rattle.std.specs.Array.{IsMapOf}
use Rattle.std.specs.Fn.{Mut, Called}
use Rattle.std.specs.Int.{cast_unsigned}
use Rattle.std.specs.List.{flat_map}
use Rattle.std.specs.Prelude.{Result, Ok, Err}
use Rattle.std.specs.Result.{IsOk}
use Rattle.std.proofs.lemmas.List.{same_lists, get_or-map}
use Rattle.table.specs.Limits.{screen_room, longest_canonical}
use Rattle.table.specs.Layout.{Table, hypermap_of}
use Rattle.table.specs.declared.refusals.Refusal.{Refusal}
use Rattle.table.proofs.Replying.{number_positive}
use Rattle.parts.specs.Counts.{counts_of}
use Rattle.parts.specs.declared.Counts.{Counts}
use Rattle.tape.specs.declared.Run.{Run}
use Rattle.writer.specs.Canonical.{tape_of}
use Rattle.writer.specs.Inner.{Lays, written_in, written_of, written_leaves}
use Rattle.writer.specs.Screens.{screen_bytes, four_bytes, twos_complement, numbers_bytes, ten_numbers, outcome_of}
use Rattle.writer.proofs.Laying.{lays_whole}

-- NUMBERS in bytes: what a function gives of each, and these one behind another
pub mapped_by :
    {F B : Type 0} {g : Mut F (ℕ × Unit {0}) B} {f : F} {xs : List ℕ} {ys : List B} {n : ℕ} (h : ℕ → B) →
    ((p : F) (x : ℕ) (y : B) (q : F) → Called g p (x, tt) y q → y ≡ h x) → length xs ≡ n → IsMapOf g f xs ys n →
    ys ≡ map h xs
mapped_by {xs = xs} {ys = ys} h each long m =
    same_lists ys (map h xs) (m.long ∙ sym long ∙ sym (length-map xs h))
    (λ k d l. let c = m.at k 0 d (omega arith) in each c.0 _ _ c.1 c.2 ∙ sym (get_or-map h xs k 0 d (omega arith)))

pub numbers_flat : (ns : List ℕ) → flat_map (λ bs. bs) (map four_bytes ns) ≡ numbers_bytes ns
unfolding numbers_bytes
numbers_flat [] = refl
numbers_flat (n ∷ ns) = ap (λ bs. four_bytes n ++ bs) (numbers_flat ns)

pub complement_is : (x : ℤ) → cast_unsigned w32 x ≡ twos_complement x
complement_is (pos n) = refl
complement_is (negsuc n) = omega arith

numbers_length : (ns : List ℕ) → length (numbers_bytes ns) ≡ 4 * length ns
unfolding numbers_bytes
numbers_length [] = refl
numbers_length (n ∷ ns) = omega (arith, numbers_length ns)

-- THE ANSWER: the numbers from the start on, and the tape in what is left
behind :
    (hs bs o p t : List ℕ) {n : ℕ} → length hs + length bs ≤ length o → Lays 0 hs o p n →
    t ≡ written_leaves bs (take (length p - n) (drop n p)) →
    take n p ++ (t ++ drop (length p - n) (drop n p)) ≡ (hs ++ bs) ++ drop (length (hs ++ bs)) o
unfolding written_leaves
behind hs bs o p t {n} l f w =
    let e : length hs ≡ n = omega (arith, f.place) in
    let q : p ≡ hs ++ drop n o = rw (← e) (lays_whole f (omega arith)) in
    let a : take n p ≡ hs = rw q (take_at hs (drop n o) n e) in
    let b : drop n p ≡ drop n o = rw q (drop_at hs (drop n o) n e) in
    let m : length p - n ≡ length (drop n o) =
    omega (arith, ap length q, length-append hs (drop n o)) in
    let c : take (length p - n) (drop n p) ≡ drop n o = rw (b, m) (take-length (drop n o)) in
    let d : drop (length p - n) (drop n p) ≡ [] = rw (b, m) (drop-length (drop n o)) in
    let z : length bs ≤ length (drop n o) = omega (arith, length-drop n o) in
    let v : t ≡ bs ++ drop (length bs) (drop n o) = w ∙ rw (c, le-leb _ _ z) in
    let h : n + length bs ≡ length (hs ++ bs) = omega (arith, length-append hs bs) in
    rw (a, d, v, append-nil, drop-drop, h) (sym (append_assoc hs bs _))

pub answer_laid :
    (w : Table) (r : Run) (k : ℕ) (c : Counts) (z : ℕ) (hs o p t : List ℕ) {n : ℕ} → k ≡ r.number →
    c ≡ counts_of (hypermap_of w) → z ≡ twos_complement c.characteristic → screen_room ≤ length o →
    length (tape_of w) ≤ longest_canonical →
    hs ≡
    numbers_bytes
    (k ∷ r.accepted ∷ c.darts ∷ c.edges ∷ c.vertices ∷ c.faces ∷ c.components ∷ z ∷ c.genus ∷
    c.lifts ∷ []) → Lays 0 hs o p n → t ≡ written_leaves (tape_of w) (take (length p - n) (drop n p)) →
    take n p ++ (t ++ drop (length p - n) (drop n p)) ≡
    screen_bytes (outcome_of r w) ++ drop (length (screen_bytes (outcome_of r w))) o
unfolding screen_bytes
answer_laid w r k c z hs o p t q i e l m g f v =
    let ns = ten_numbers r.number r.accepted (counts_of (hypermap_of w)) in
    behind (numbers_bytes ns) (tape_of w) o p t (omega (arith, numbers_length ns)) (rw (g, q, e, i) at f) v

-- the tape has room there
written_ok :
    (bs o : List ℕ) (r : Result ℕ Refusal) → length bs ≤ length o → written_in r ≡ written_of bs o → IsOk r
unfolding written_of
written_ok bs o (Ok n) l e = refl
written_ok bs o (Err r) l e =
    absurd (number_positive r (ap (λ w. w.number) e ∙ rw (le-leb (length bs) (length o) l)))

pub tape_written :
    (bs o p : List ℕ) (n : ℕ) (r : Result ℕ Refusal) → length bs + n ≤ length o → length p ≡ length o →
    written_in r ≡ written_of bs (take (length p - n) (drop n p)) → IsOk r
tape_written bs o p n r l e w =
    let k = take_all (length p - n) (drop n p) (omega (arith, length-drop n p)) in
    written_ok bs (drop n p) r (omega (arith, length-drop n p)) (rw k at w)
