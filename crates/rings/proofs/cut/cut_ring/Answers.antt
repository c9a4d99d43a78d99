use Rattle.std.proofs.Common.{sym}
use Rattle.rings.proofs.Conditions.{accepted_listed}
use Rattle.rings.proofs.cut.cut_ring.Goals as goal

pub cut_along-requires : goal.cut_along-requires
cut_along-requires c = accepted_listed _ _ c.requires (sym c.in_ok-judge_ring.ensures)
