-- What the code's answer stands for: the reply that C is given.
use Rattle.std.specs.Prelude.{Result, Ok, Err}
use Rattle.table.specs.Replies.{number}
use Rattle.table.specs.declared.refusals.Refusal.{Refusal}
use Rattle.needs.specs.Amounts.{refused_needs}
use Rattle.needs.specs.declared.Amounts.{Amounts}
use Rattle.needs.specs.declared.Needs.{Needs}

abbrev pub needs_in : Result Amounts Refusal → Needs
needs_in (Ok a) =
    record { number = 0; capacity = a.capacity; commands = a.commands; peak = a.peak; words = a.words }
needs_in (Err r) = refused_needs (number r)
