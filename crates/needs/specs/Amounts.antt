-- What the commands of a tape ask for: the least capacity, the peak, and the words that they change. Document 02, Job
-- 1.
use Rattle.std.specs.Prelude.{cond, List, [], ◌∷◌, ◌++◌, ℕ, ◌+◌, ◌*◌, ◌-◌, ltb, eqb, length}
use Rattle.table.specs.Limits.{words_per_change}
use Rattle.table.specs.Commands.{puts, takes_out, named}
use Rattle.rings.specs.Rings.{links_of}
use Rattle.tape.specs.Steps.{TapeCommand, changes, reports, cuts_ring}
use Rattle.tape.specs.Tapes.{Contents}
use Rattle.needs.specs.declared.Needs.{Needs}

-- THE LEAST CAPACITY: the greatest number of a dart that any command names; 0 is no dart's number
abbrev pub named_by : TapeCommand → List ℕ
named_by (changes c) = named c
named_by reports = []
named_by (cuts_ring ws) = ws

unfoldable pub named_in : List TapeCommand → List ℕ
named_in [] = []
named_in (c ∷ cs) = named_by c ++ named_in cs

unfoldable pub larger : (a b : ℕ) → ℕ
larger a b = cond (ltb a b) b a

unfoldable pub greatest : List ℕ → ℕ
greatest [] = 0
greatest (x ∷ xs) = larger x (greatest xs)

-- THE PEAK: the highest of puts less take-outs over all beginnings, at least 0, by the first command. A put raises what
-- the rest reaches by one and a take-out lowers it, though not below the 0 of no command; PeakLaw says it of beginnings
abbrev pub puts_by : TapeCommand → ℕ
puts_by (changes (puts x)) = 1
puts_by c = 0

abbrev pub take_outs_by : TapeCommand → ℕ
take_outs_by (changes (takes_out x)) = 1
take_outs_by c = 0

unfoldable pub peak_of : List TapeCommand → ℕ
peak_of [] = 0
peak_of (c ∷ cs) = puts_by c + peak_of cs - take_outs_by c

-- WORDS: as many for each put, take-out, join, cut and double-link
abbrev pub changes_by : TapeCommand → ℕ
changes_by (changes c) = 1
changes_by reports = 0
changes_by (cuts_ring ws) = length (links_of ws)

unfoldable pub total : (TapeCommand → ℕ) → List TapeCommand → ℕ
total f [] = 0
total f (c ∷ cs) = f c + total f cs

-- ALL OF THEM, for a tape that can be read; else what stops the reading, and zeros
abbrev pub refused_needs : (refusal : ℕ) → Needs
refused_needs n = record { number = n; capacity = 0; commands = 0; peak = 0; words = 0 }

abbrev pub needs_of : List TapeCommand → Needs
needs_of cs = record {
  number = 0;
  capacity = greatest (named_in cs);
  commands = length cs;
  peak = peak_of cs;
  words = words_per_change * total changes_by cs;
}

unfoldable pub needed_by : Contents → Needs
needed_by t = cond (eqb t.refusal 0) (needs_of t.commands) (refused_needs t.refusal)
