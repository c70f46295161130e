use Rattle.std.proofs.Common.{ap, ◌∙◌}
use Rattle.lab_defs_report.specs.States.{State}
use Rattle.lab_tree.specs.Trees.{tree_of}
use Rattle.lab_session.proofs.session.Session.tree.Goals as goal

pub returns : goal.returns
returns c = c.tree.ensures ∙ ap (λ (s : State). tree_of s.game) c.self.view_is
