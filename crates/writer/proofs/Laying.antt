-- Bytes laid over a buffer, one part after another.
use mathlib.Core.Path.{◌≡◌, refl, sym, ap, ◌∙◌}
use mathlib.Core.List.{List, [], ◌∷◌, ◌++◌, append-nil, append_assoc}
use Prim.Native.Nat.{ℕ, ◌+◌, ◌-◌, ◌≤◌}
use native.Mathlib.Nat.{add-zero, zero-add}
use native.Mathlib.Numerals.{add-one}
use native.Mathlib.Omega.{arith}
use lib.ListN.{length, set, drop, length-append}
use lib.Seq.{drop-drop, sets, sets-eq, length-sets}
use borrow.Rule.Slice.PartMut.{put_mid}
use Rattle.writer.specs.Inner.{written, HasRoom, Lays}

-- a run of stores
as_sets : (at : ℕ) (bs o : List ℕ) → written at bs o ≡ sets o at bs
unfolding written
as_sets at [] o = refl
as_sets at (b ∷ bs) o = rw add-one (as_sets _ bs (set o at b))

written_then : (at : ℕ) (bs cs o : List ℕ) → written at (bs ++ cs) o ≡ written (at + length bs) cs (written at bs o)
unfolding written
written_then at [] cs o = rw add-zero
written_then at (b ∷ bs) cs o =
    let e : at + 1 + length bs ≡ at + length (b ∷ bs) = omega arith in
    written_then (at + 1) bs cs (set o at b) ∙ ap (λ n. written n cs (written (at + 1) bs (set o at b))) e

pub lays_none : {at : ℕ} {o : List ℕ} → Lays at [] o o at
unfolding written
lays_none = record { laid = refl; place = omega arith }

-- bytes put in place of a part of the buffer
pub lays_bytes :
    {at : ℕ} {bs o : List ℕ} → HasRoom at bs o →
    Lays at bs o (put_mid at (at + length bs - at) o bs) (at + length bs)
lays_bytes {at} {bs} {o} h =
    let k : at + length bs - at ≡ length bs = omega arith in
    record {
      laid = rw (k, drop-drop) (sym (as_sets at bs o ∙ sets-eq bs o at h.room ∙ append_assoc _ bs _));
      place = refl;
    }

pub lays_then :
    {at m n : ℕ} {bs cs o p q : List ℕ} → Lays at bs o p m → Lays m cs p q n → Lays at (bs ++ cs) o q n
lays_then {at} {m} {n} {bs} {cs} {o} {p} {q} l r =
    let e : q ≡ written (at + length bs) cs (written at bs o) = cc (l.laid, l.place, r.laid) in
    record { laid = e ∙ sym (written_then at bs cs o); place = omega (arith, length-append bs cs) }

pub lays_length : {at n : ℕ} {bs o p : List ℕ} → Lays at bs o p n → length p ≡ length o
lays_length {at} {n} {bs} {o} {p} l = ap length (l.laid ∙ as_sets at bs o) ∙ length-sets o at bs

pub lays_whole :
    {n : ℕ} {bs o p : List ℕ} → Lays 0 bs o p n → length bs ≤ length o → p ≡ bs ++ drop (length bs) o
lays_whole {n} {bs} {o} {p} l h =
    l.laid ∙ as_sets 0 bs o ∙ sets-eq bs o 0 (omega arith) ∙ ap (λ k. bs ++ drop k o) (zero-add (length bs))

-- ROOM for the first part, and for what is left when it is laid
pub room_first : {at : ℕ} {o : List ℕ} (bs cs : List ℕ) → HasRoom at (bs ++ cs) o → HasRoom at bs o
room_first bs cs h = record { room = omega (arith, length-append bs cs) }

pub room_then : {at m : ℕ} {bs cs o p : List ℕ} → HasRoom at (bs ++ cs) o → Lays at bs o p m → HasRoom m cs p
room_then {at} {m} {bs} {cs} {o} {p} h l = record { room = omega (arith, length-append bs cs, lays_length l) }

-- A WHOLE that is laid but for what is left
pub record Laying (from : ℕ) (whole left o p : List ℕ) (at : ℕ) : Type 0 where
  pub done : List ℕ
  pub parts : whole ≡ done ++ left
  pub lays : Lays from done o p at
  pub room : HasRoom at left p

pub laying_none : {from : ℕ} {whole o : List ℕ} → HasRoom from whole o → Laying from whole whole o o from
laying_none h = record { done = []; parts = refl; lays = lays_none; room = h }

pub laying_then :
    {from at n : ℕ} {whole bs left o p q : List ℕ} → Laying from whole (bs ++ left) o p at → Lays at bs p q n →
    Laying from whole left o q n
laying_then {from} {at} {n} {whole} {bs} {left} {o} {p} {q} l r = record {
  done = l.done ++ bs;
  parts = l.parts ∙ sym (append_assoc l.done bs left);
  lays = lays_then l.lays r;
  room = room_then l.room r;
}

pub laying_all : {from at : ℕ} {whole o p : List ℕ} → Laying from whole [] o p at → Lays from whole o p at
laying_all {from} {at} {whole} {o} {p} l = rw (l.parts, append-nil) l.lays
