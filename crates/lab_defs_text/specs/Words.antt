-- Lines, words and names.
use Rattle.std.specs.Prelude.{ℕ, ◌+◌, List, [], ◌∷◌, ◌++◌, Bool, true, not, ◌&&◌, ◌||◌, ◌==◌, nat_lt, nat_le, length}
use Rattle.std.specs.Char.{is_ascii_alphanumeric}
use Rattle.std.specs.List.{list_all, list_any, slice_split}
use Rattle.std.specs.Str.{bytes_eq}

-- a word, a name or a text, as its bytes
abbrev pub Bytes : Type 0
Bytes = List ℕ

-- the pieces between line feeds: the lines, and after them what no line feed ends
abbrev pub lines : Bytes → List Bytes
lines bytes = slice_split (λ c. c == 10) bytes

-- the pieces between single spaces
abbrev pub words : Bytes → List Bytes
words line = slice_split (λ c. c == 32) line

-- the place of the first empty piece, the first of them having the place n; 0 where none is empty
abbrev pub first_empty : ℕ → List Bytes → ℕ
first_empty n [] = 0
first_empty n ([] ∷ ws) = n
first_empty n ((c ∷ cs) ∷ ws) = first_empty (n + 1) ws

-- a letter or digit of ASCII, or one of `_ - . /`
abbrev pub is_name_byte : ℕ → Bool
is_name_byte c = is_ascii_alphanumeric c || (c == 95 || (c == 45 || (c == 46 || c == 47)))

-- a name has from 1 to 32 bytes of names
abbrev pub is_name : Bytes → Bool
is_name word = nat_lt 0 (length word) && (nat_le (length word) 32 && list_all is_name_byte word)

-- whether a name is among others
abbrev pub stands_in : Bytes → List Bytes → Bool
stands_in name others = list_any (bytes_eq name) others

-- no name is among those before it
abbrev pub apart_after : List Bytes → List Bytes → Bool
apart_after before [] = true
apart_after before (n ∷ ns) = not (stands_in n before) && apart_after (before ++ n ∷ []) ns

-- at least one name, each a name, none twice
abbrev pub are_names : List Bytes → Bool
are_names ns = nat_lt 0 (length ns) && (list_all is_name ns && apart_after [] ns)
