use Rattle.std.proofs.Common.{drop}
use Rattle.rings.specs.Inner.{links_in}
use Rattle.journal.proofs.CutEntries.{CutsWritten}
use Rattle.journal.proofs.machine.write_cuts.Given as goal

abbrev pub invariant-loop-first : goal.invariant-loop-first
invariant-loop-first l =
    CutsWritten l.initial.journal l.used l.ring (links_in (drop l.first-index l.links)) l.journal l.n
