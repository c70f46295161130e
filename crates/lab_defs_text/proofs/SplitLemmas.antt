-- Words without spaces and line feeds, joined and split again.
use Rattle.std.proofs.Common.{◌≡◌, ℕ, ◌<◌, ◌≤◌, Bool, true, false, not, eqb, List, [], ◌∷◌, ◌++◌, length, refl, ap, ◌∙◌, arith, append_assoc}
use Rattle.std.specs.Prelude.{◌&&◌, nat_lt, nat_le, ◌==◌, map}
use Rattle.std.specs.List.{list_all, slice_split, join_with_byte}
use Rattle.std.specs.Char.{is_ascii_digit}
use Rattle.std.specs.Str.{bytes_eq}
use Rattle.std.proofs.lemmas.Bool.{and_parts, and_from, ltb-true, lt-ltb, ne_eqb, not_from_false, not-true}
use Rattle.std.proofs.lemmas.Bool.Decides.{nat_tests}
use Rattle.std.proofs.lemmas.Slice.Eq.{bytes_eq-Decides}
use lib.Chars.{codes}
use Rattle.lab_defs_text.proofs.ListLemmas.{all_weaker, all_append}
use Rattle.lab_defs_text.specs.Words.{Bytes, lines, words, is_name_byte, is_name}
use Rattle.lab_defs_text.specs.Lines.{Line, head_line, grid_line, horizon_line, memory_line, token_line, world_line, one_line, two_line, row_line, to_line, end_line, root_line, done_line, words_of, bytes_of, text_of}

-- equal bytes by the test
pub bytes_eq_is : (a b : List ℕ) → bytes_eq a b ≡ true → a ≡ b
bytes_eq_is a b e = (bytes_eq-Decides a b).0 e

-- bytes equal themselves by the test
pub bytes_eq_refl : (a : List ℕ) → bytes_eq a a ≡ true
bytes_eq_refl a = (bytes_eq-Decides a a).1 refl

-- a byte of ASCII that leaves a mark
abbrev pub is_graphic : ℕ → Bool
is_graphic c = nat_lt 32 c && nat_lt c 127

-- at least one byte, each of which leaves a mark
abbrev pub is_word : List ℕ → Bool
is_word w = nat_lt 0 (length w) && list_all is_graphic w

-- all are words
abbrev pub are_words : List (List ℕ) → Bool
are_words ws = list_all is_word ws

-- the bytes of names leave a mark
name_byte_graphic : (c : ℕ) → is_name_byte c ≡ true → is_graphic c ≡ true
name_byte_graphic c e = grind (arith, nat_tests)

-- digits leave a mark
digit_graphic : (c : ℕ) → is_ascii_digit c ≡ true → is_graphic c ≡ true
digit_graphic c e = grind (arith, nat_tests)

-- digits, some at all, are a word
pub digits_are_word : (w : List ℕ) → 0 < length w → list_all is_ascii_digit w ≡ true → is_word w ≡ true
digits_are_word w h e = and_from (nat_lt 0 (length w)) (list_all is_graphic w) (lt-ltb 0 (length w) h) (all_weaker is_ascii_digit is_graphic digit_graphic w e)

-- a sign before a word makes a word
pub minus_is_word : (w : List ℕ) → is_word w ≡ true → is_word (45 ∷ w) ≡ true
minus_is_word w e = and_from (nat_lt 0 (length (45 ∷ w))) (list_all is_graphic w) (lt-ltb 0 (length (45 ∷ w)) (omega arith)) (and_parts (nat_lt 0 (length w)) (list_all is_graphic w) e).1

-- a name is a word
pub name_is_word : (w : List ℕ) → is_name w ≡ true → is_word w ≡ true
name_is_word w e =
    let a = and_parts (nat_lt 0 (length w)) (nat_le (length w) 32 && list_all is_name_byte w) e in
    let b = and_parts (nat_le (length w) 32) (list_all is_name_byte w) a.1 in
    and_from (nat_lt 0 (length w)) (list_all is_graphic w) a.0 (all_weaker is_name_byte is_graphic name_byte_graphic w b.1)

-- names are words
pub names_are_words : (ns : List (List ℕ)) → list_all is_name ns ≡ true → are_words ns ≡ true
names_are_words ns e = all_weaker is_name is_word name_is_word ns e

-- ---- splitting

-- a number equals itself by the test
eq_self : (y : ℕ) → eqb y y ≡ true
eq_self y = grind (arith, nat_tests)

-- a byte that leaves a mark is neither a space nor a line feed
graphic_is_not : (c y : ℕ) → is_graphic c ≡ true → y ≤ 32 → eqb c y ≡ false
graphic_is_not c y e h = ne_eqb c y (λ same. let lt = ltb-true 32 c (and_parts (nat_lt 32 c) (nat_lt c 127) e).0 in absurd (omega arith))

-- bytes that leave marks are one piece
split_none : (y : ℕ) (cs : List ℕ) → y ≤ 32 → list_all is_graphic cs ≡ true → slice_split (λ c. c == y) cs ≡ cs ∷ []
split_none y [] h e = refl
split_none y (c ∷ cs) h e =
    let a = and_parts (is_graphic c) (list_all is_graphic cs) e in
    rw (graphic_is_not c y a.0 h, split_none y cs h a.1) refl

-- bytes that leave marks are the first piece before what separates
split_at : (y : ℕ) (cs ds : List ℕ) → y ≤ 32 → list_all is_graphic cs ≡ true → slice_split (λ c. c == y) (cs ++ y ∷ ds) ≡ cs ∷ slice_split (λ c. c == y) ds
split_at y [] ds h e = rw (eq_self y) refl
split_at y (c ∷ cs) ds h e =
    let a = and_parts (is_graphic c) (list_all is_graphic cs) e in
    rw (graphic_is_not c y a.0 h, split_at y cs ds h a.1) refl

-- the bytes of a word leave a mark
word_graphic : (w : List ℕ) → is_word w ≡ true → list_all is_graphic w ≡ true
word_graphic w e = (and_parts (nat_lt 0 (length w)) (list_all is_graphic w) e).1

-- words, one at least, that are joined by single spaces are split again
pub split_joined : (w : List ℕ) (ws : List (List ℕ)) → are_words (w ∷ ws) ≡ true → words (join_with_byte 32 (w ∷ ws)) ≡ w ∷ ws
split_joined w [] e = split_none 32 w (omega arith) (word_graphic w (and_parts (is_word w) true e).0)
split_joined w (v ∷ vs) e =
    let a = and_parts (is_word w) (are_words (v ∷ vs)) e in
    split_at 32 w (join_with_byte 32 (v ∷ vs)) (omega arith) (word_graphic w a.0) ∙ ap (λ (x : List (List ℕ)). w ∷ x) (split_joined v vs a.1)

-- ---- line feeds

-- a byte that is no line feed
abbrev pub no_feed : ℕ → Bool
no_feed c = not (eqb c 10)

-- a byte that leaves a mark is no line feed
graphic_no_feed : (c : ℕ) → is_graphic c ≡ true → no_feed c ≡ true
graphic_no_feed c e = not_from_false (eqb c 10) (graphic_is_not c 10 e (omega arith))

-- what holds of each byte of some words and of the space holds of each byte of them joined
pub joined_all : (p : ℕ → Bool) (ws : List (List ℕ)) → p 32 ≡ true → list_all (list_all p) ws ≡ true → list_all p (join_with_byte 32 ws) ≡ true
joined_all p [] s e = refl
joined_all p (w ∷ []) s e = (and_parts (list_all p w) true e).0
joined_all p (w ∷ v ∷ vs) s e =
    let a = and_parts (list_all p w) (list_all (list_all p) (v ∷ vs)) e in
    all_append p w (32 ∷ join_with_byte 32 (v ∷ vs)) a.0 (and_from (p 32) (list_all p (join_with_byte 32 (v ∷ vs))) s (joined_all p (v ∷ vs) s a.1))

-- words that are joined have no line feed
pub joined_no_feed : (ws : List (List ℕ)) → are_words ws ≡ true → list_all no_feed (join_with_byte 32 ws) ≡ true
joined_no_feed ws e = joined_all no_feed ws refl (all_weaker is_word (list_all no_feed) (λ w h. all_weaker is_graphic no_feed graphic_no_feed w (word_graphic w h)) ws e)

-- bytes without a line feed, and then one, are the first line
pub split_feed : (cs ds : List ℕ) → list_all no_feed cs ≡ true → lines (cs ++ 10 ∷ ds) ≡ cs ∷ lines ds
split_feed [] ds e = refl
split_feed (c ∷ cs) ds e =
    let a = and_parts (no_feed c) (list_all no_feed cs) e in
    rw (not-true (eqb c 10) a.0, split_feed cs ds a.1) refl

-- ---- lines of words

-- whether the words of a line are words
abbrev pub has_words : Line → Bool
has_words l = are_words (words_of l)

-- the lines of a text are its lines
pub lines_text : (ls : List Line) (rest : Bytes) → list_all has_words ls ≡ true → lines (text_of ls ++ rest) ≡ map bytes_of ls ++ lines rest
lines_text [] rest e = refl
lines_text (l ∷ ls) rest e =
    let a = and_parts (has_words l) (list_all has_words ls) e in
    ap lines (append_assoc (bytes_of l) (10 ∷ text_of ls) rest)
    ∙ split_feed (bytes_of l) (text_of ls ++ rest) (joined_no_feed (words_of l) a.0)
    ∙ ap (λ (x : List Bytes). bytes_of l ∷ x) (lines_text ls rest a.1)

-- some words that are joined are split again
joined_back : (ws : List Bytes) → nat_lt 0 (length ws) ≡ true → are_words ws ≡ true → words (join_with_byte 32 ws) ≡ ws
joined_back [] h e = absurd cc
joined_back (w ∷ ws) h e = split_joined w ws e

-- each line has a word
some_words : (l : Line) → nat_lt 0 (length (words_of l)) ≡ true
some_words head_line = refl
some_words (grid_line n) = refl
some_words (horizon_line n) = refl
some_words (memory_line r) = refl
some_words (token_line n) = refl
some_words (world_line n) = refl
some_words (one_line ns) = lt-ltb 0 (length (codes "one" ∷ ns)) (omega arith)
some_words (two_line ns) = lt-ltb 0 (length (codes "two" ∷ ns)) (omega arith)
some_words (row_line a b) = refl
some_words (to_line w n o1 o2 p) = refl
some_words (end_line n z) = refl
some_words (root_line n) = refl
some_words done_line = refl

-- the words of a line are its words
pub words_line : (l : Line) → has_words l ≡ true → words (bytes_of l) ≡ words_of l
words_line l e = joined_back (words_of l) (some_words l) e

-- likewise of lines
pub words_lines : (ls : List Line) → list_all has_words ls ≡ true → map words (map bytes_of ls) ≡ map words_of ls
words_lines [] e = refl
words_lines (l ∷ ls) e =
    let a = and_parts (has_words l) (list_all has_words ls) e in
    rw (words_line l a.0, words_lines ls a.1) refl

-- ---- bytes

-- a byte's number is below 256
abbrev pub is_byte : ℕ → Bool
is_byte c = nat_lt c 256

-- a byte that leaves a mark is below 256
graphic_byte : (c : ℕ) → is_graphic c ≡ true → is_byte c ≡ true
graphic_byte c e = grind (arith, nat_tests)

-- a line of words has bytes below 256
pub line_bytes : (l : Line) → has_words l ≡ true → list_all is_byte (bytes_of l) ≡ true
line_bytes l e = joined_all is_byte (words_of l) refl (all_weaker is_word (list_all is_byte) (λ w h. all_weaker is_graphic is_byte graphic_byte w (word_graphic w h)) (words_of l) e)

-- likewise a text of such lines
pub text_bytes : (ls : List Line) → list_all has_words ls ≡ true → list_all is_byte (text_of ls) ≡ true
text_bytes [] e = refl
text_bytes (l ∷ ls) e =
    let a = and_parts (has_words l) (list_all has_words ls) e in
    all_append is_byte (bytes_of l) (10 ∷ text_of ls) (line_bytes l a.0) (text_bytes ls a.1)
