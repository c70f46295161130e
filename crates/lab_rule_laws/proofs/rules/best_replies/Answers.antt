use Rattle.lab_rule_laws.proofs.ReplyValues.{first_greatest_law, best_replies_law}
use Rattle.lab_rule_laws.proofs.rules.best_replies.Goals as goal

pub returns-clause-first : goal.returns-clause-first
returns-clause-first c = first_greatest_law

pub returns-clause-best : goal.returns-clause-best
returns-clause-best c = best_replies_law
