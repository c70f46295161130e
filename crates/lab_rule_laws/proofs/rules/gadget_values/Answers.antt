use Rattle.lab_rule_laws.proofs.RuleGadgets.{gadget_value_law}
use Rattle.lab_rule_laws.proofs.RuleNodes.{game_gadget_value_law}
use Rattle.lab_rule_laws.proofs.rules.gadget_values.Goals as goal

pub returns-clause-forms : goal.returns-clause-forms
returns-clause-forms c = gadget_value_law

pub returns-clause-games : goal.returns-clause-games
returns-clause-games c = game_gadget_value_law
