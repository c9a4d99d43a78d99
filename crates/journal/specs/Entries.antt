-- The entries of a journal: three words each, a command byte and its operands, 0 for an operand that the command lacks.
-- Document 02, Job 5, where an entry is called a record.
use Rattle.std.specs.Prelude.{Bool, ◌&&◌, ◌||◌, cond, List, [], ◌∷◌, ℕ, suc, ◌+◌, ◌*◌, leb, eqb, get_or, set}
use Rattle.hypermap.specs.Hypermap.{edge, vertex}
use Rattle.table.specs.Limits.{words_per_entry}
use Rattle.table.specs.Commands.{Command, puts, takes_out, joins, cuts}
use Rattle.tape.specs.Tapes.{join_byte, cut_byte}

abbrev pub Journal : Type 0
Journal = List ℕ

pub record Entry : Type 0 where
  pub byte : ℕ
  pub first : ℕ
  pub second : ℕ

abbrev pub entry_of : Command → Entry
entry_of (puts x) = record { byte = 1; first = x; second = 0 }
entry_of (takes_out x) = record { byte = 2; first = x; second = 0 }
entry_of (joins k a b) = record { byte = join_byte k; first = a; second = b }
entry_of (cuts k a b) = record { byte = cut_byte k; first = a; second = b }

-- "A record is no change if its byte is outside 01 to 06 or a lacked operand is not 0"
unfoldable pub is_change : Entry → Bool
is_change e = leb 1 e.byte && leb e.byte 6 && (leb 3 e.byte || eqb e.second 0)

-- and else the change that it is
unfoldable pub command_in : Entry → Command
command_in e =
    cond (eqb e.byte 1) (puts e.first)
    (cond (eqb e.byte 2) (takes_out e.first)
    (cond (eqb e.byte 3) (joins edge e.first e.second)
    (cond (eqb e.byte 4) (cuts edge e.first e.second)
    (cond (eqb e.byte 5) (joins vertex e.first e.second) (cuts vertex e.first e.second)))))

-- IN THE WORDS: entry i
unfoldable pub entry_at : Journal → (i : ℕ) → Entry
entry_at j i =
    record {
      byte = get_or j (words_per_entry * i) 0;
      first = get_or j (words_per_entry * i + 1) 0;
      second = get_or j (words_per_entry * i + 2) 0;
    }

unfoldable pub with_entry : Journal → (i : ℕ) → Entry → Journal
with_entry j i e =
    set (set (set j (words_per_entry * i) e.byte) (words_per_entry * i + 1) e.first) (words_per_entry * i + 2)
    e.second

-- the entries of commands from number i on
unfoldable pub with_entries : Journal → (i : ℕ) → List Command → Journal
with_entries j i [] = j
with_entries j i (c ∷ cs) = with_entries (with_entry j i (entry_of c)) (suc i) cs
