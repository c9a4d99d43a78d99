-- What the code's answers stand for: the replies that C is given.
use Rattle.std.specs.Prelude.{ℕ, false, Option, Result, Ok, Err, is_some, unwrap_or}
use Rattle.table.specs.Replies.{number}
use Rattle.table.specs.declared.refusals.Refusal.{Refusal}
use Rattle.parts.specs.declared.Counts.{Counts}
use Rattle.kernel.specs.Calls.{refused_totals, totals_of, refused_answer}
use Rattle.kernel.specs.declared.Totals.{Totals}
use Rattle.kernel.specs.declared.Answer.{Answer}

-- the numbers of a report
abbrev pub totals_reply : Result Counts Refusal → Totals
totals_reply (Ok c) = totals_of c
totals_reply (Err r) = refused_totals (number r)

-- a count
abbrev pub count_reply : Result ℕ Refusal → Answer
count_reply (Ok k) = record { number = 0; yes = false; count = k }
count_reply (Err r) = refused_answer (number r)

-- how far one dart is from another round a part that they share
abbrev pub shared_reply : Result (Option ℕ) Refusal → Answer
shared_reply (Ok s) = record { number = 0; yes = is_some s; count = unwrap_or s 0 }
shared_reply (Err r) = refused_answer (number r)
