-- What a session has of its game, whatever the strategies.
use Rattle.std.specs.Prelude.{ℕ, ◌≡◌}
use Rattle.lab_defs_text.specs.Games.{GameModel}
use Rattle.lab_defs_game.specs.Accepted.{IsAccepted}
use Rattle.lab_defs_game.specs.Forms.{form_of, game_actions}
use Rattle.lab_defs_game.specs.Seats.{grid_of}
use Rattle.lab_defs_value.specs.Expectation.{uniform_of}
use Rattle.lab_form.specs.Forms.{FormValue, form_model}
use Rattle.lab_tree.specs.Trees.{TreeValue, tree_of}
use Rattle.lab_tree.specs.TreeForms.{tree_form}
use Rattle.lab_table.specs.Tables.{TableValue, AreWeights}

-- a table of a seat of a game, on its grid
pub record IsTableFor (g : GameModel) (seat : ℕ) (t : TableValue) : Type 0 where
  pub actions : t.actions ≡ game_actions g seat
  pub weights : AreWeights (grid_of g seat) (game_actions g seat) t.weights

-- the one that splits evenly
abbrev pub even_table : GameModel → ℕ → TableValue
even_table g seat = record { actions = game_actions g seat; weights = uniform_of g seat }

-- a tree, a form and two tables are those of a game that can be played: the tables split evenly
pub record IsBoard (g : GameModel) (t : TreeValue) (f : FormValue) (one two : TableValue) : Type 0 where
  pub accepted : IsAccepted g
  pub tree : t ≡ tree_of g
  pub form : f ≡ tree_form (tree_of g)
  pub model : form_model f ≡ form_of g
  pub even1 : one ≡ even_table g 1
  pub even2 : two ≡ even_table g 2
