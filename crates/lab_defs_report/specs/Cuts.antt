-- The lines of an input cut after the line that ends its game, within the limits.
use Rattle.std.specs.Prelude.{ℕ, ◌+◌, ◌-◌, List, [], ◌∷◌, ◌++◌, length, Bool, true, false, ◌&&◌, nat_lt, nat_le, if◌then◌else◌, Option, Some, None}
use Rattle.std.specs.Str.{bytes_eq}
use lib.Chars.{codes}
use Rattle.lab_defs_text.specs.Words.{Bytes}
use Rattle.lab_defs_report.specs.Refusals.{Refusal, refused}

-- ---- limits

-- the most bytes of a line, of the lines of a game, and of what follows them
abbrev pub line_limit : ℕ
line_limit = 1048576

-- the most bytes of the lines of a game, line feeds counted
abbrev pub game_limit : ℕ
game_limit = 16777216

-- the most bytes after the lines of a game
abbrev pub commands_limit : ℕ
commands_limit = 67108864

-- the code of a limit that a line passes, `left` bytes being allowed: its own limit comes first at the same byte
abbrev pub passed_limit : (code : Bytes) (left bytes ended : ℕ) → Option Bytes
passed_limit code left bytes ended =
    if nat_lt line_limit bytes && nat_le line_limit left then Some (codes "LineTooLong") else if nat_lt left (bytes + ended) then Some code else None

-- ---- the lines of a game

-- an input cut after the first line that is `done`, or why it was not: refused, or not read so far
pub data Cut : Type 0 where
  cut_at : (text : Bytes) (done_line : ℕ) (behind : List Bytes) → Cut
  cut_refused : Refusal → Cut
  cut_open : Cut

-- what an input is where it ends in a line that no line feed ends
abbrev pub unfinished : Bool → ℕ → Bytes → Cut
unfinished false n l = cut_open
unfinished true n [] = cut_refused (refused n (codes "CutShort") [])
unfinished true n (c ∷ cs) = cut_refused (refused n (codes "NoNewline") [])

-- a cut, unless a limit is passed first
abbrev pub or_refused : ℕ → Option Bytes → Cut → Cut
or_refused n None c = c
or_refused n (Some code) c = cut_refused (refused n code [])

-- the pieces between line feeds from line n on, after a text of lines; `ended` says whether the input ends with them
abbrev pub cut_from : Bool → ℕ → Bytes → List Bytes → Cut
cut_from ended n text [] = cut_open
cut_from ended n text (l ∷ []) = or_refused n (passed_limit (codes "GameTooLong") (game_limit - length text) (length l) 0) (unfinished ended n l)
cut_from ended n text (l ∷ m ∷ ms) =
    or_refused n (passed_limit (codes "GameTooLong") (game_limit - length text) (length l) 1)
    (if bytes_eq l (codes "done") then cut_at (text ++ l ++ (10 ∷ [])) n (m ∷ ms) else cut_from ended (n + 1) (text ++ l ++ (10 ∷ [])) (m ∷ ms))

-- whether a byte follows the text
abbrev pub goes_on : List Bytes → Bool
goes_on [] = false
goes_on ([] ∷ []) = false
goes_on _ = true
