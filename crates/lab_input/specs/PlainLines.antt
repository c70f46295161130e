-- Whole lines before the end of a game, and a reader that gives them.
use Rattle.std.specs.Prelude.{◌≡◌, ◌≤◌, ℕ, ◌+◌, List, [], ◌∷◌, ◌++◌, length, Bool, not, ◌&&◌, IsTrue}
use Rattle.std.specs.List.{list_all}
use Rattle.std.specs.Str.{bytes_eq}
use lib.Chars.{codes}
use Rattle.lab_io.specs.Reading.{Reader, no_feed}
use Rattle.lab_io.specs.declared.line_reader.TheConstants.{READ_AHEAD}
use Rattle.lab_defs_text.specs.Words.{Bytes}

-- lines, each with its line feed
abbrev pub ended_lines : List Bytes → Bytes
ended_lines [] = []
ended_lines (l ∷ ls) = l ++ (10 ∷ ended_lines ls)

-- whether bytes are a line, and one that ends no game
abbrev pub is_plain : Bytes → Bool
is_plain l = no_feed l && not (bytes_eq l (codes "done"))

-- the bytes are so many whole lines, none of them `done`
pub record ArePlainLines (bytes : Bytes) (count : ℕ) : Type 0 where
  pub each : List Bytes
  pub whole : bytes ≡ ended_lines each
  pub counts : length each ≡ count
  pub plain : IsTrue (list_all is_plain each)

-- a reader gave so many lines, none of them `done`, of those that it had ahead, and they are added to a text
pub record GivesLines (old new : Reader) (text_old text_new : Bytes) (count : ℕ) : Type 0 where
  pub given : Bytes
  pub lines : ArePlainLines given count
  pub text : text_new ≡ text_old ++ given
  pub ahead : old.ahead ≡ given ++ new.ahead
  pub short : length given ≤ READ_AHEAD
  pub paid : new.allowance + length given ≡ old.allowance
  pub live : new.live ≡ old.live
