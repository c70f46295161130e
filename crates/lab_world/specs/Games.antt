-- The model of a game.
use Rattle.lab_defs_text.specs.Games as model
use Rattle.lab_world.specs.declared.game.Game.{Game}
use Rattle.lab_world.specs.Models.{parts_model}

-- the game as the definitions have it
abbrev pub game_model : Game → model.GameModel
game_model g = parts_model g.grid g.horizon g.recall g.tokens g.names g.actions g.places g.root
