-- The screen's run: an empty table may be played on, and a run on it leaves one within the capacity.
use Rattle.std.proofs.Common.{◌≡◌, List, ℕ, ◌*◌, ◌≤◌, length, replicate}
use Rattle.table.specs.Limits.{words_per_dart, max_capacity, max_tape, screen_room}
use Rattle.table.specs.Layout.{Table}
use Rattle.tape.specs.Runs.{run_of}
use Rattle.tape.specs.Inner.{Playable}
use Rattle.tape.proofs.Running.{zeros_within, run_keeps_hypermap_law}
use Rattle.writer.specs.Inner.{ScreenRoom}

pub empty_playable :
    (n : ℕ) (bs : List ℕ) → n ≤ max_capacity → length bs ≤ max_tape → Playable (replicate (words_per_dart * n) 0) bs
empty_playable n bs h l = record { table = zeros_within n h; short = l }

pub screen_ready :
    (n : ℕ) (bs o : List ℕ) (w : Table) → n ≤ max_capacity → screen_room ≤ length o →
    w ≡ (run_of (replicate (words_per_dart * n) 0) bs).state → ScreenRoom w o
screen_ready n bs o w h l e =
    let k = zeros_within n h in
    let s = run_keeps_hypermap_law (replicate (words_per_dart * n) 0) bs k.hypermap in
    record { table = record { hypermap = rw e s.0; room = rw (e, s.1) k.room }; room = l }
