-- The parts of a text that a step adds.
use Rattle.std.specs.Prelude.{List, [], ◌∷◌, ◌++◌, length, map, IsTrue}
use Rattle.lab_defs_text.specs.Words.{Bytes}
use Rattle.lab_defs_text.specs.Lines.{Line}
use Rattle.lab_defs_text.specs.Texts.{place_lines, places_lines, place_ok, row_order}
use Rattle.lab_world.specs.declared.game.Game.{Game}
use Rattle.lab_world.specs.declared.place.Place.{Place}
use Rattle.lab_world.specs.Models.{place_model}
use Rattle.lab_world.specs.Wholes.{place_fits}
use Rattle.lab_world.specs.Games.{game_model}

-- words with a space before each
abbrev pub spaced : List Bytes → Bytes
spaced [] = []
spaced (w ∷ ws) = 32 ∷ (w ++ spaced ws)

-- the place fits into the game
pub record Fits (g : Game) (p : Place) : Type 0 where
  pub ok : IsTrue (place_ok (game_model g) (place_model g.actions p))
  pub known : IsTrue (place_fits (length g.actions) p)

-- the lines of a place, its rows in order of their numbers
abbrev pub place_part : Game → Bytes → Place → List Line
place_part g name p = place_lines (game_model g) name (place_model g.actions p) (row_order (place_model g.actions p))

-- the lines of places with these names
abbrev pub places_part : Game → List Bytes → List Place → List Line
places_part g names ps = places_lines (game_model g) names (map (place_model g.actions) ps) (map row_order (map (place_model g.actions) ps))
