use Rattle.std.proofs.Common.{◌*◌, ◌≤◌, ◌^◌, pos, unsigned_abs, sym, ap, ◌∙◌, subst}
use Rattle.std.proofs.lemmas.Int.{unsigned_abs-mul}
use Rattle.lab_defs_game.specs.Seats.{other}
use Rattle.lab_best.specs.Rows.{row_factors}
use Rattle.lab_best.proofs.SizeLemmas.{to_seat_size, weight_small, product_small, worth_small, grid_least}
use Rattle.lab_best.proofs.worth.row_worth.Goals as goal

pub to_opponent-requires : goal.to_opponent-requires
to_opponent-requires c =
    let factors = row_factors c.args.keeper c.args.paths.now.sets.now c.args.row.now in
    worth_small (unsigned_abs c.args.row.now.worth.0) (c.args.d ^ factors) c.requires.small.size (grid_least c.args.d factors c.requires.played.least)

pub weigh-requires-clause-weight : goal.weigh-requires-clause-weight
weigh-requires-clause-weight c =
    weight_small (unsigned_abs c.args.row.now.worth.0) (c.args.d ^ row_factors c.args.keeper c.args.paths.now.sets.now c.args.row.now) c.requires.small.size c.row_weight-weight.result c.row_weight-weight.ensures.within

pub weigh-requires-clause-product : goal.weigh-requires-clause-product
weigh-requires-clause-product c =
    let small = product_small (unsigned_abs c.args.row.now.worth.0) (c.args.d ^ row_factors c.args.keeper c.args.paths.now.sets.now c.args.row.now) c.requires.small.size c.row_weight-weight.result c.row_weight-weight.ensures.within in
    subst (λ n. n * c.row_weight-weight.result ≤ 2 ^ 77) (sym (ap unsigned_abs c.to_opponent.ensures ∙ to_seat_size (other c.args.keeper) c.args.row.now.worth.0)) small

pub returns-clause-within : goal.returns-clause-within
returns-clause-within c =
    let small = product_small (unsigned_abs c.args.row.now.worth.0) (c.args.d ^ row_factors c.args.keeper c.args.paths.now.sets.now c.args.row.now) c.requires.small.size c.row_weight-weight.result c.row_weight-weight.ensures.within in
    subst (λ n. n ≤ 2 ^ 77) (sym (ap unsigned_abs c.weigh.ensures ∙ unsigned_abs-mul c.to_opponent.result.0 (pos c.row_weight-weight.result) ∙ ap (λ n. n * c.row_weight-weight.result) (ap unsigned_abs c.to_opponent.ensures ∙ to_seat_size (other c.args.keeper) c.args.row.now.worth.0))) small
