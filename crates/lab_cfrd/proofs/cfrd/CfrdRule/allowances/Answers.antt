use Rattle.std.proofs.Common.{length, ◌∙◌}
use Rattle.lab_rule.proofs.CallerLemmas.{nothing_allowed}
use Rattle.lab_cfrd.proofs.cfrd.CfrdRule.allowances.Goals as goal

pub returns : goal.returns
returns c = c.allow_nothing.ensures ∙ nothing_allowed (length c.args.out.now) c.args._view.now.roots c.requires
