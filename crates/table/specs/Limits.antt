-- The limits of tables, rings, tapes and journals, and the places of a dart's words. Each is named here and nowhere
-- else; src/limits.rt has the same names for the code.
use Rattle.std.specs.Prelude.{ℕ, ◌/◌}

-- TABLES. The words of each dart
abbrev pub words_per_dart : ℕ
words_per_dart = 4

-- and the places of those that hold the hypermap
abbrev pub edge_next : ℕ
edge_next = 0

abbrev pub edge_back : ℕ
edge_back = 1

abbrev pub vertex_next : ℕ
vertex_next = 2

abbrev pub vertex_back : ℕ
vertex_back = 3

-- how many these are: the places below this number
abbrev pub hypermap_words : ℕ
hypermap_words = 4

-- words that one change alters: a put, a take-out, a join, a cut, or the cut of one double-link
abbrev pub words_per_change : ℕ
words_per_change = 4

-- the bytes of a word, and the greatest number that it holds
abbrev pub bytes_per_word : ℕ
bytes_per_word = 2

abbrev pub max_word : ℕ
max_word = 65535

-- the most darts that a table has room for
abbrev pub max_capacity : ℕ
max_capacity = 4096

-- RINGS. The words of a list, its double-links, and the words of a ring on a tape, which counts its double-links in a
-- byte
abbrev pub max_ring : ℕ
max_ring = 4096

abbrev pub max_double_links : ℕ
max_double_links = max_ring / 2

abbrev pub max_tape_ring : ℕ
max_tape_ring = 510

-- TAPES. The bytes of a tape, of the longest canonical tape, and of the buffer that every answer of the screen fits:
-- ten numbers of four bytes and that tape
abbrev pub max_tape : ℕ
max_tape = 65536

abbrev pub longest_canonical : ℕ
longest_canonical = 53238

abbrev pub screen_room : ℕ
screen_room = 53278

-- JOURNALS. The words of an entry, the most entries, a checkpoint that is not set, and how many checkpoints there are
abbrev pub words_per_entry : ℕ
words_per_entry = 3

abbrev pub max_entries : ℕ
max_entries = 4294967294

abbrev pub unset : ℕ
unset = 4294967295

abbrev pub checkpoint_count : ℕ
checkpoint_count = 16
