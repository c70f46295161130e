use Rattle.lab_rule_laws.proofs.RuleSubgames.{subgame_value_law}
use Rattle.lab_rule_laws.proofs.rules.subgame_values.Goals as goal

pub returns : goal.returns
returns c = subgame_value_law
