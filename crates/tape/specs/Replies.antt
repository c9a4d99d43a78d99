-- What the code's answers to a run stand for: the reply that C is given.
use Rattle.std.specs.Prelude.{ℕ, Result, Ok, Err}
use Rattle.table.specs.Replies.{number}
use Rattle.tape.specs.declared.Run.{Run}
use Rattle.tape.specs.declared.Stopped.{Stopped}

-- 0 and how many commands were accepted, or the number of the refusal that stopped it and how many before
abbrev pub run_reply : Result ℕ Stopped → Run
run_reply (Ok k) = record { number = 0; accepted = k }
run_reply (Err s) = record { number = number s.refusal; accepted = s.accepted }
