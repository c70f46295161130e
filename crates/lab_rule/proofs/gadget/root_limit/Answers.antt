use Rattle.std.proofs.Common.{◌+◌, ◌-◌, length, arith}
use Rattle.lab_rule.proofs.ViewLemmas.{bound_small, roots_low}
use Rattle.lab_rule.proofs.gadget.root_limit.Goals as goal

pub raised-requires-clause-bound : goal.raised-requires-clause-bound
raised-requires-clause-bound c =
    let v = c.args.view.now in
    let low = roots_low v in
    bound_small v (length v.sets.now - v.roots + c.args.root) (omega (arith, low, c.requires.root))
