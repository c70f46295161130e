-- What is counted of a game.
use Rattle.std.specs.Prelude.{ℕ, length}
use Rattle.lab_defs_text.specs.Games.{GameModel}
use Rattle.lab_defs_game.specs.Histories.{histories}
use Rattle.lab_defs_game.specs.Sets.{sets, most_decisions}
use Rattle.lab_defs_game.specs.Chance.{scale}
use Rattle.lab_defs_game.specs.Nodes.{nodes}

-- histories, nodes, sets of each seat, the most decisions of each seat on one history, and the scale of chances
pub record Counts : Type 0 where
  pub histories : ℕ
  pub nodes : ℕ
  pub sets1 : ℕ
  pub sets2 : ℕ
  pub most1 : ℕ
  pub most2 : ℕ
  pub scale : ℕ

-- the counts of a game
abbrev pub counts_of : GameModel → Counts
counts_of g = record {
  histories = length (histories g);
  nodes = length (nodes g);
  sets1 = length (sets g 1);
  sets2 = length (sets g 2);
  most1 = most_decisions g 1;
  most2 = most_decisions g 2;
  scale = scale g;
}
