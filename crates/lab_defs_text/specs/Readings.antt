-- The game that a text is of, or the first fault of the text.
use Rattle.std.specs.Prelude.{Result}
use Rattle.lab_defs_text.specs.Faults.{TextFault}
use Rattle.lab_defs_text.specs.Steps.{◌>>=◌}
use Rattle.lab_defs_text.specs.Words.{Bytes}
use Rattle.lab_defs_text.specs.Games.{GameModel}
use Rattle.lab_defs_text.specs.Drafts.{parts_of}
use Rattle.lab_defs_text.specs.Assembly.{assembled}

-- the game that the lines of a text declare
abbrev pub game_of : Bytes → Result GameModel TextFault
game_of bytes = parts_of bytes >>= assembled
