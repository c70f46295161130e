use Rattle.std.proofs.Common.{sym, subst}
use Rattle.lab_rule.specs.Rules.{AreAllowances}
use Rattle.lab_rule.specs.Views.{view_model}
use Rattle.lab_rule.proofs.CallerLemmas.{allowances_are, valid}
use Rattle.lab_rule_tests.proofs.run.run.Goals as goal

pub gadget-requires-clause-sizes : goal.gadget-requires-clause-sizes
gadget-requires-clause-sizes g c =
    let v = c.args.view.now in
    subst AreAllowances (sym c.allowances.ensures) (allowances_are _ (g.met.R.Rule.bounded c.args.rule.now (view_model v) (valid v)))
