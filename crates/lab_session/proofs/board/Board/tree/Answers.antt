use Rattle.std.proofs.Common.{ap, ◌∙◌}
use Rattle.lab_tree.specs.Trees.{tree_of}
use Rattle.lab_session.proofs.board.Board.tree.Goals as goal

pub returns : goal.returns
returns c = c.self.invariant.tree ∙ ap tree_of c.self.view_is
