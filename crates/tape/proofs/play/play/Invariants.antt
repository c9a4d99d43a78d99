use Rattle.std.proofs.Common.{◌≡◌, length}
use Rattle.tape.proofs.Playing.{Playing}
use Rattle.tape.proofs.play.play.Given as goal

abbrev pub invariant-loop-rest : goal.invariant-loop-rest
invariant-loop-rest g l =
    let m = g.M.Machine in
    Playing m.rule (m.state l.initial.machine) l.tape (m.state l.machine) l.rest l.accepted ×
    (m.names l.machine ≡ m.names l.initial.machine)

abbrev pub decreases-loop-rest : goal.decreases-loop-rest
decreases-loop-rest g l = length l.rest
