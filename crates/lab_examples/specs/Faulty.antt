-- Texts that are not games, each by one line of a small game, and a game whose rows are out of order.
use Rattle.std.specs.Prelude.{ℕ, List, [], ◌∷◌, ◌++◌, ◌-◌, pos, negsuc, take, drop, Result, Ok}
use lib.Chars.{codes}
use Rattle.lab_defs_text.specs.Words.{Bytes}
use Rattle.lab_defs_text.specs.Games.{GameModel, by_seen, a_world, an_end}
use Rattle.lab_defs_text.specs.Faults.{TextFault}
use Rattle.lab_defs_text.specs.Steps.{◌>>=◌}
use Rattle.lab_defs_text.specs.Texts.{canonical}
use Rattle.lab_defs_text.specs.Readings.{game_of}
use Rattle.lab_examples.specs.Inputs.{text}

-- the lines of a game whose rows are out of order
abbrev pub toss_lines : List Bytes
toss_lines = codes "fosg 1" ∷ codes "grid 2" ∷ codes "horizon 4" ∷ codes "memory seen" ∷ codes "token -" ∷ codes "token red"
    ∷ codes "world toss" ∷ codes "one h t" ∷ codes "two ."
    ∷ codes "row t ." ∷ codes "to 3 win - red -" ∷ codes "to 1 lose - - red" ∷ codes "row h ." ∷ codes "to 1 toss red - -"
    ∷ codes "end win 1" ∷ codes "end lose -1" ∷ codes "root toss" ∷ codes "done" ∷ []

-- the game of those lines
abbrev pub toss : GameModel
toss = record {
  grid = 2;
  horizon = 4;
  recall = by_seen;
  tokens = codes "-" ∷ codes "red" ∷ [];
  names = codes "toss" ∷ codes "win" ∷ codes "lose" ∷ [];
  places = a_world (record {
    one = codes "h" ∷ codes "t" ∷ [];
    two = codes "." ∷ [];
    rows =
        (record { weight = 1; next = 0; own1 = 1; own2 = 0; public = 0 } ∷ [])
        ∷ (record { weight = 3; next = 1; own1 = 0; own2 = 1; public = 0 } ∷ record { weight = 1; next = 2; own1 = 0; own2 = 0; public = 1 } ∷ []) ∷ [];
  })
      ∷ an_end (pos 1) ∷ an_end (negsuc 0) ∷ [];
  root = 0;
}

-- lines with another one in place of line n
abbrev pub replaced : ℕ → Bytes → List Bytes → List Bytes
replaced n line ls = take (n - 1) ls ++ (line ∷ drop n ls)

-- the text of the lines with another one in place of line n
abbrev pub with_line_as : ℕ → Bytes → Bytes
with_line_as n line = text (replaced n line toss_lines)

-- the text of the first n lines
abbrev pub first_lines : ℕ → Bytes
first_lines n = text (take n toss_lines)

-- the text of the lines without those from m to n
abbrev pub without_lines : ℕ → ℕ → Bytes
without_lines m n = text (take (m - 1) toss_lines ++ drop n toss_lines)

-- the canonical text of the game that a text is of
abbrev pub reprinted : Bytes → Result Bytes TextFault
reprinted bytes = game_of bytes >>= λ g. Ok (canonical g)

-- the canonical text of the game
abbrev pub toss_in_order : Bytes
toss_in_order = text (take 9 toss_lines ++ (take 2 (drop 12 toss_lines) ++ (take 3 (drop 9 toss_lines) ++ drop 14 toss_lines)))
