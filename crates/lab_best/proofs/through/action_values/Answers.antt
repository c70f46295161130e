use Rattle.std.proofs.Common.{arith, length, sym, ◌∙◌}
use Rattle.lab_best.proofs.BackedSizes.{all_within}
use Rattle.lab_form.specs.Forms.{sets_of}
use Rattle.lab_best.specs.Values.{strategy_in}
use Rattle.lab_best.proofs.FormLemmas.{keeper_grid, replies_length}
use Rattle.lab_best.proofs.KeptLemmas.{nothing_known}
use Rattle.lab_best.proofs.through.action_values.Goals as goal

pub returns-clause-sizes : goal.returns-clause-sizes
returns-clause-sizes c =
    all_within (strategy_in c.args.form.now c.args.keeper c.args.d c.args.weights.now) c.args.values.now c.back_up.new.out c.args.set.0 c.args.first (length c.args.out.now)
    (c.requires.values ∙ sym (replies_length c.args.form.now c.args.keeper c.args.d c.args.weights.now)) c.back_up.ensures.small c.back_up.ensures.values

pub back_up-requires-clause-kept : goal.back_up-requires-clause-kept
back_up-requires-clause-kept c =
    nothing_known c.args.d (sets_of c.args.form.now c.args.keeper) c.args.weights.now 8 c.nothing_kept-kept.result c.nothing_kept-kept.ensures (keeper_grid c.args.form.now c.args.keeper c.args.d c.requires.keeper c.requires.small) (omega arith)
