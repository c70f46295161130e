-- A line read from its bytes, or its first fault.
use Rattle.std.specs.Prelude.{ℕ, ◌+◌, min, Bool, true, ◌&&◌, List, [], ◌∷◌, length, Option, Some, None, Result, Ok, Err, ◌==◌, if◌then◌else◌, ℤ, pos, neg_ℤ, int_le}
use Rattle.std.specs.Int.RustNames.{unsigned_abs}
use Rattle.std.specs.Str.{bytes_eq}
use lib.Chars.{codes}
use Rattle.lab_defs_text.specs.Faults.{LineFault, lexical, bad_space_at, bad_name_at, bad_number_at, out_of_range_at, bad_word_at}
use Rattle.lab_defs_text.specs.Steps.{◌>>=◌}
use Rattle.lab_defs_text.specs.Words.{Bytes, words, first_empty, is_name}
use Rattle.lab_defs_text.specs.Numbers.{is_whole, whole_value}
use Rattle.lab_defs_text.specs.Games.{Recall, by_acts, by_seen}
use Rattle.lab_defs_text.specs.Lines.{Line, head_line, grid_line, horizon_line, memory_line, token_line, world_line, one_line, two_line, row_line, to_line, end_line, root_line, done_line, recall_word}

-- the kinds of lines, and the start of a text
pub data Kind : Type 0 where
  start_kind : Kind
  head_kind : Kind
  grid_kind : Kind
  horizon_kind : Kind
  memory_kind : Kind
  token_kind : Kind
  world_kind : Kind
  one_kind : Kind
  two_kind : Kind
  row_kind : Kind
  to_kind : Kind
  end_kind : Kind
  root_kind : Kind
  done_kind : Kind

-- the kind of a line
abbrev pub kind_of : Line → Kind
kind_of head_line = head_kind
kind_of (grid_line n) = grid_kind
kind_of (horizon_line n) = horizon_kind
kind_of (memory_line r) = memory_kind
kind_of (token_line n) = token_kind
kind_of (world_line n) = world_kind
kind_of (one_line ns) = one_kind
kind_of (two_line ns) = two_kind
kind_of (row_line a b) = row_kind
kind_of (to_line w n o1 o2 p) = to_kind
kind_of (end_line n z) = end_kind
kind_of (root_line n) = root_kind
kind_of done_line = done_kind

-- the first word of a kind of line
abbrev pub keyword : Kind → Bytes
keyword start_kind = []
keyword head_kind = codes "fosg"
keyword grid_kind = codes "grid"
keyword horizon_kind = codes "horizon"
keyword memory_kind = codes "memory"
keyword token_kind = codes "token"
keyword world_kind = codes "world"
keyword one_kind = codes "one"
keyword two_kind = codes "two"
keyword row_kind = codes "row"
keyword to_kind = codes "to"
keyword end_kind = codes "end"
keyword root_kind = codes "root"
keyword done_kind = codes "done"

-- the kinds of lines that may follow one of a kind
abbrev pub next_kinds : Kind → List Kind
next_kinds start_kind = head_kind ∷ []
next_kinds head_kind = grid_kind ∷ []
next_kinds grid_kind = horizon_kind ∷ []
next_kinds horizon_kind = memory_kind ∷ []
next_kinds memory_kind = token_kind ∷ []
next_kinds token_kind = token_kind ∷ world_kind ∷ end_kind ∷ []
next_kinds world_kind = one_kind ∷ []
next_kinds one_kind = two_kind ∷ []
next_kinds two_kind = row_kind ∷ []
next_kinds row_kind = to_kind ∷ []
next_kinds to_kind = to_kind ∷ row_kind ∷ world_kind ∷ end_kind ∷ root_kind ∷ []
next_kinds end_kind = world_kind ∷ end_kind ∷ root_kind ∷ []
next_kinds root_kind = done_kind ∷ []
next_kinds done_kind = []

-- the one of some kinds that a word is the first word of
abbrev pub kind_among : List Kind → Bytes → Option Kind
kind_among [] word = None
kind_among (k ∷ ks) word = if bytes_eq word (keyword k) then Some k else kind_among ks word

-- ---- how many words follow the first one

-- the first missing or the first extra word, where n words are wanted after the first one
abbrev pub miscounted : {A : Type 0} → ℕ → List Bytes → Result A LineFault
miscounted n ws = Err (bad_word_at (min n (length ws) + 2))

-- no word
abbrev pub no_words : List Bytes → Result Bool LineFault
no_words [] = Ok true
no_words (w ∷ ws) = miscounted 0 (w ∷ ws)

-- one word
abbrev pub one_word : List Bytes → Result Bytes LineFault
one_word (a ∷ []) = Ok a
one_word ws = miscounted 1 ws

-- two words
abbrev pub two_words : List Bytes → Result (Bytes × Bytes) LineFault
two_words (a ∷ b ∷ []) = Ok (a, b)
two_words ws = miscounted 2 ws

-- five words
abbrev pub five_words : List Bytes → Result (Bytes × Bytes × Bytes × Bytes × Bytes) LineFault
five_words (a ∷ b ∷ c ∷ d ∷ e ∷ []) = Ok (a, b, c, d, e)
five_words ws = miscounted 5 ws

-- one word or more
abbrev pub some_words : List Bytes → Result (List Bytes) LineFault
some_words [] = miscounted 1 []
some_words (w ∷ ws) = Ok (w ∷ ws)

-- ---- the word at a place

-- a word that is fixed
abbrev pub fixed_at : ℕ → Bytes → Bytes → Result Bool LineFault
fixed_at place wanted word = if bytes_eq word wanted then Ok true else Err (bad_word_at place)

-- a kind of memory
abbrev pub recall_at : ℕ → Bytes → Result Recall LineFault
recall_at place word =
    if bytes_eq word (recall_word by_acts) then Ok by_acts else if bytes_eq word (recall_word by_seen) then Ok by_seen else Err (bad_word_at place)

-- a name
abbrev pub name_at : ℕ → Bytes → Result Bytes LineFault
name_at place word = if is_name word then Ok word else Err (lexical (bad_name_at place))

-- names, the first of them at the place
abbrev pub names_at : ℕ → List Bytes → Result (List Bytes) LineFault
names_at place [] = Ok []
names_at place (w ∷ ws) = name_at place w >>= λ x. names_at (place + 1) ws >>= λ xs. Ok (x ∷ xs)

-- a whole number from lo to hi
abbrev pub whole_at : ℕ → ℤ → ℤ → Bytes → Result ℤ LineFault
whole_at place lo hi word =
    if is_whole word then (if int_le lo (whole_value word) && int_le (whole_value word) hi then Ok (whole_value word) else Err (lexical (out_of_range_at place)))
    else Err (lexical (bad_number_at place))

-- a natural number from lo to hi
abbrev pub number_at : ℕ → ℕ → ℕ → Bytes → Result ℕ LineFault
number_at place lo hi word = whole_at place (pos lo) (pos hi) word >>= λ z. Ok (unsigned_abs z)

-- a payoff
abbrev pub payoff_word : ℕ → Bytes → Result ℤ LineFault
payoff_word place word = whole_at place (neg_ℤ (pos 1048576)) (pos 1048576) word

-- ---- a line

-- the line of a kind that has these words after its first one: first their number is looked at, then each word
abbrev pub rest_at : Kind → List Bytes → Result Line LineFault
rest_at start_kind ws = Err (bad_word_at 1)
rest_at head_kind ws = one_word ws >>= λ a. fixed_at 2 (codes "1") a >>= λ x. Ok head_line
rest_at grid_kind ws = one_word ws >>= λ a. number_at 2 1 4096 a >>= λ n. Ok (grid_line n)
rest_at horizon_kind ws = one_word ws >>= λ a. number_at 2 1 32 a >>= λ n. Ok (horizon_line n)
rest_at memory_kind ws = one_word ws >>= λ a. recall_at 2 a >>= λ r. Ok (memory_line r)
rest_at token_kind ws = one_word ws >>= λ a. name_at 2 a >>= λ n. Ok (token_line n)
rest_at world_kind ws = one_word ws >>= λ a. name_at 2 a >>= λ n. Ok (world_line n)
rest_at one_kind ws = some_words ws >>= λ ns. names_at 2 ns >>= λ xs. Ok (one_line xs)
rest_at two_kind ws = some_words ws >>= λ ns. names_at 2 ns >>= λ xs. Ok (two_line xs)
rest_at row_kind ws = two_words ws >>= λ a. name_at 2 a.0 >>= λ x. name_at 3 a.1 >>= λ y. Ok (row_line x y)
rest_at to_kind ws =
    five_words ws >>= λ a. number_at 2 1 1048576 a.0 >>= λ w. name_at 3 a.1 >>= λ n. name_at 4 a.2 >>= λ x. name_at 5 a.3 >>= λ y. name_at 6 a.4 >>= λ p. Ok (to_line w n x y p)
rest_at end_kind ws = two_words ws >>= λ a. name_at 2 a.0 >>= λ n. payoff_word 3 a.1 >>= λ z. Ok (end_line n z)
rest_at root_kind ws = one_word ws >>= λ a. name_at 2 a >>= λ n. Ok (root_line n)
rest_at done_kind ws = no_words ws >>= λ x. Ok done_line

-- the line whose first word has a kind, or none
abbrev pub of_kind : Option Kind → List Bytes → Result Line LineFault
of_kind None ws = Err (bad_word_at 1)
of_kind (Some k) ws = rest_at k ws

-- the line with these words, after a line of a kind
abbrev pub words_at : Kind → List Bytes → Result Line LineFault
words_at last [] = Err (bad_word_at 1)
words_at last (w ∷ ws) = of_kind (kind_among (next_kinds last) w) ws

-- the line that has these bytes, after a line of a kind
abbrev pub line_at : Kind → Bytes → Result Line LineFault
line_at last bytes = if first_empty 1 (words bytes) == 0 then words_at last (words bytes) else Err (lexical (bad_space_at (first_empty 1 (words bytes))))
