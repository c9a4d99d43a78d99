use Rattle.std.proofs.Common.{arith}
use Rattle.table.specs.Limits.{max_capacity}
use Rattle.tape.proofs.Running.{zeros_within}
use Rattle.plan.proofs.write_tape.Goals as goal

pub invariant_of-write_run : goal.invariant_of-write_run
invariant_of-write_run g c = record { within = zeros_within max_capacity (omega arith) }
