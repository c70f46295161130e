use Rattle.lab_rule_laws.proofs.RulePaths.{allowance_law, rule_law}
use Rattle.lab_rule_laws.proofs.rules.rule_laws.Goals as goal

pub returns-clause-allowances : goal.returns-clause-allowances
returns-clause-allowances c = allowance_law

pub returns-clause-keeps : goal.returns-clause-keeps
returns-clause-keeps c = rule_law
