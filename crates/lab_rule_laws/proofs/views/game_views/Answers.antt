use Rattle.lab_rule_laws.proofs.GameViews.{game_view_law}
use Rattle.lab_rule_laws.proofs.ViewRules.{view_rule_law}
use Rattle.lab_rule_laws.proofs.views.game_views.Goals as goal

pub returns-clause-there : goal.returns-clause-there
returns-clause-there c = game_view_law

pub returns-clause-rules : goal.returns-clause-rules
returns-clause-rules c = view_rule_law
