-- No round passes the capacity: a dart that is not refused is one of a sound table, and the law of lengths applies.
use mathlib.Core.Path.{◌≡◌}
use mathlib.Core.List.{[], ◌∷◌}
use Prim.Native.Nat.{ℕ, ◌≤◌}
use native.Mathlib.Omega.{arith}
use lib.ListN.{length}
use Rattle.table.specs.Layout.{Table, capacity}
use Rattle.table.specs.Inner.{kind_of}
use Rattle.table.specs.declared.Orbit.{Orbit}
use Rattle.table.proofs.Walking.{length_law}
use Rattle.table.specs.Limits.{max_capacity}
use Rattle.kernel.specs.Calls.{question_refusal, round_of}
use Rattle.promises.specs.Rounds.{RoundPromise}
use Rattle.kernel.proofs.Judging.{dart_ready}
use Rattle.promises.proofs.Questions.{round}
use Rattle.promises.proofs.Accepted.{list_passed, list_room}

in_capacity :
    (w : Table) (o : Orbit) (x : ℕ) → question_refusal w (x ∷ []) ≡ 0 →
    (length (round_of w o x) ≤ capacity w) × (capacity w ≤ max_capacity)
in_capacity w o x z =
    let r = dart_ready w x z in
    ((length_law w r.at.hypermap (kind_of o) x r.at.here).in_capacity, r.room)

pub round_promise : RoundPromise
round_promise = record {
  most = λ w o x out e.
      rw (round w o x out e).count (in_capacity w o x (list_passed _ (round_of w o x) out e).0);
  room = λ w o x out h.
      list_room (question_refusal w (x ∷ [])) (round_of w o x) out (λ z. omega (arith, (in_capacity w o x z).0));
}
