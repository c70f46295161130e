use Rattle.lab_tree.proofs.SubgameLaws.{tree_subgame_law}
use Rattle.lab_tree.proofs.laws.subgames.Goals as goal

pub returns : goal.returns
returns c = tree_subgame_law
