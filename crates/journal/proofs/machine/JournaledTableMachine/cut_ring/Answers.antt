use Rattle.std.proofs.Common.{sym}
use Rattle.tape.specs.Steps.{cuts_ring}
use Rattle.journal.proofs.Additions.{ring_accepted, ring_written}
use Rattle.journal.proofs.Running.{made_within, left_within}
use Rattle.journal.proofs.machine.JournaledTableMachine.cut_ring.Goals as goal

pub invariant_of-self : goal.invariant_of-self
invariant_of-self c =
    let a = ring_accepted _ _ _ _ (sym c.in_ok-judge_ring.ensures) in
    record { within = rw c.cut_along.ensures (made_within _ _ _ (cuts_ring _) c.args.self.now.within a) }

pub invariant_of-self-2 : goal.invariant_of-self-2
invariant_of-self-2 c =
    let e = sym c.in_ok-judge_ring.ensures in
    record {
      within =
          left_within _ _ c.args.self.now.within e _
          (ring_written _ _ _ _ e _ c.cut_along.ensures _ c.write_cuts.ensures);
    }
