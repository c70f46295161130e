use Rattle.std.proofs.Common.{◌+◌, ◌≤◌, length, get_or, arith, ◌∙◌}
use Rattle.lab_table.proofs.PlaceLemmas.{no_set, end_within, sums_is, deciding_weights}
use Rattle.lab_table.proofs.check.sums_at.Goals as goal

pub slice_bounds-sum_is-end : goal.slice_bounds-sum_is-end
slice_bounds-sum_is-end c =
    let two : 2 ≤ (get_or c.args.sets.now c.args.set no_set).actions = omega (arith, c.if-actions-lt2.false) in
    let within : (get_or c.args.sets.now c.args.set no_set).first_weight + (get_or c.args.sets.now c.args.set no_set).actions ≤ length c.args.weights.now =
    omega (arith, end_within c.args.sets.now c.args.set no_set c.requires.order c.requires.there, deciding_weights _ two, c.requires.count) in
    within

pub returns-else-actions-lt2 : goal.returns-else-actions-lt2
returns-else-actions-lt2 c =
    c.sum_is.ensures ∙ sums_is c.args.d c.args.sets.now c.args.weights.now c.args.set no_set c.requires.order c.requires.there (omega (arith, c.if-actions-lt2.false))
