-- What the form as records needs of `ring_cut`, plain and journaled: a list that is too long is answered as no list is.
use mathlib.Core.Path.{◌≡◌, refl, sym, ap, ◌∙◌}
use mathlib.Core.Bool.{false, and-false}
use native.Mathlib.Omega.{arith}
use mathlib.Core.List.{List, []}
use Prim.Native.Nat.{ℕ, ◌<◌}
use lib.ListN.{length}
use borrow.Author.Tests.{lt-leb}
use Rattle.table.specs.Limits.{max_ring}
use Rattle.table.specs.Refusals.{no_list, or_else, unless}
use Rattle.table.specs.Layout.{Table}
use Rattle.table.specs.Commands.{leaves}
use Rattle.table.specs.Runs.{stopped}
use Rattle.rings.specs.Rings.{is_list, ring_refusal, cut_along, links_of}
use Rattle.tape.specs.Steps.{cuts_ring}
use Rattle.soundness.specs.Soundness.{table_refusal}
use Rattle.journal.specs.Journaling.{journaled_refusal, journaled_on}
use Rattle.kernel.specs.Calls.{ring_call_refusal, ring_call_leaves}
use Rattle.journal_calls.specs.Calls.{State, state_refusal, perform_refusal, perform_reply, reply_by, recorded_in}
use Rattle.journal_calls.specs.Calls.{with_recorded}

long_is_none : (ws : List ℕ) → max_ring < length ws → is_list ws ≡ false
unfolding is_list
long_is_none ws l = rw (lt-leb (length ws) max_ring l) (and-false _)

none_is_none : is_list [] ≡ false
unfolding is_list
none_is_none = refl

refused : (w : Table) (ws : List ℕ) → is_list ws ≡ false → ring_call_refusal w ws ≡ or_else (table_refusal w) no_list
unfolding ring_call_refusal ring_refusal or_else unless
refused w ws e = simp e

unchanged : {S : Type 0} (n : ℕ) (v w : S) → leaves (or_else n no_list) v w ≡ w
unfolding leaves or_else
unchanged n v w = grind arith

refused_leaves : (w : Table) (ws : List ℕ) → is_list ws ≡ false → ring_call_leaves w ws ≡ w
unfolding ring_call_leaves
refused_leaves w ws e =
    ap (λ (n : ℕ). leaves n (cut_along (links_of ws) w) w) (refused w ws e) ∙ unchanged (table_refusal w) _ w

pub long_as_none :
    (w : Table) (ws : List ℕ) → max_ring < length ws →
    (ring_call_refusal w ws ≡ ring_call_refusal w []) × (ring_call_leaves w ws ≡ ring_call_leaves w [])
long_as_none w ws l = (
  refused w ws (long_is_none ws l) ∙ sym (refused w [] none_is_none),
  refused_leaves w ws (long_is_none ws l) ∙ sym (refused_leaves w [] none_is_none),
)

-- THE SAME WITH A JOURNAL
perform_refused :
    (s : State) (ws : List ℕ) → is_list ws ≡ false →
    perform_refusal s (cuts_ring ws) ≡ or_else (state_refusal s) no_list
unfolding perform_refusal journaled_refusal ring_refusal or_else unless
perform_refused s ws e = simp e

refused_reply :
    (s : State) (ws : List ℕ) → is_list ws ≡ false →
    perform_reply s (cuts_ring ws) ≡ stopped (or_else (state_refusal s) no_list) s
refused_reply s ws e =
    ap (λ (n : ℕ). reply_by n (with_recorded s (journaled_on (recorded_in s) (cuts_ring ws))) s)
    (perform_refused s ws e) ∙
    ap (λ (t : State). record { number = or_else (state_refusal s) no_list; accepted = 0; state = t })
    (unchanged (state_refusal s) _ s)

pub journaled_long_as_none :
    (s : State) (ws : List ℕ) → max_ring < length ws → perform_reply s (cuts_ring ws) ≡ perform_reply s (cuts_ring [])
journaled_long_as_none s ws l = refused_reply s ws (long_is_none ws l) ∙ sym (refused_reply s [] none_is_none)
