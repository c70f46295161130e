-- The lines of a game text, and the words of each.
use Rattle.std.specs.Prelude.{ℕ, ℤ, List, [], ◌∷◌, ◌++◌}
use Rattle.std.specs.List.{join_with_byte}
use lib.Chars.{codes}
use Rattle.lab_defs_text.specs.Words.{Bytes}
use Rattle.lab_defs_text.specs.Numbers.{numeral, signed_numeral}
use Rattle.lab_defs_text.specs.Games.{Recall, by_acts, by_seen}

-- a line of a game text
pub data Line : Type 0 where
  head_line : Line
  grid_line : (grid : ℕ) → Line
  horizon_line : (horizon : ℕ) → Line
  memory_line : (recall : Recall) → Line
  token_line : (name : Bytes) → Line
  world_line : (name : Bytes) → Line
  one_line : (actions : List Bytes) → Line
  two_line : (actions : List Bytes) → Line
  row_line : (first second : Bytes) → Line
  to_line : (weight : ℕ) (next own1 own2 public : Bytes) → Line
  end_line : (name : Bytes) (payoff : ℤ) → Line
  root_line : (name : Bytes) → Line
  done_line : Line

-- the word of a kind of memory
abbrev pub recall_word : Recall → Bytes
recall_word by_acts = codes "acts"
recall_word by_seen = codes "seen"

-- the words of a line
abbrev pub words_of : Line → List Bytes
words_of head_line = codes "fosg" ∷ codes "1" ∷ []
words_of (grid_line n) = codes "grid" ∷ numeral n ∷ []
words_of (horizon_line n) = codes "horizon" ∷ numeral n ∷ []
words_of (memory_line r) = codes "memory" ∷ recall_word r ∷ []
words_of (token_line n) = codes "token" ∷ n ∷ []
words_of (world_line n) = codes "world" ∷ n ∷ []
words_of (one_line ns) = codes "one" ∷ ns
words_of (two_line ns) = codes "two" ∷ ns
words_of (row_line a b) = codes "row" ∷ a ∷ b ∷ []
words_of (to_line w n o1 o2 p) = codes "to" ∷ numeral w ∷ n ∷ o1 ∷ o2 ∷ p ∷ []
words_of (end_line n z) = codes "end" ∷ n ∷ signed_numeral z ∷ []
words_of (root_line n) = codes "root" ∷ n ∷ []
words_of done_line = codes "done" ∷ []

-- words with single spaces between them
abbrev pub joined : List Bytes → Bytes
joined ws = join_with_byte 32 ws

-- the bytes of a line, without its line feed
abbrev pub bytes_of : Line → Bytes
bytes_of l = joined (words_of l)

-- lines, each ended by a line feed
abbrev pub text_of : List Line → Bytes
text_of [] = []
text_of (l ∷ ls) = bytes_of l ++ (10 ∷ text_of ls)
