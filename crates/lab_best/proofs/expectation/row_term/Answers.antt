use Rattle.std.proofs.Common.{◌*◌, ◌≤◌, ◌^◌, pos, unsigned_abs, sym, ap, ◌∙◌, subst, mul-le-mul}
use Rattle.std.specs.Prelude.{slice_index}
use Rattle.std.proofs.lemmas.Int.{unsigned_abs-mul}
use Rattle.lab_best.specs.Rows.{row_factors}
use Rattle.lab_best.proofs.SizeLemmas.{product_small}
use Rattle.lab_best.proofs.expectation.row_term.Goals as goal

pub weigh-requires-clause-product : goal.weigh-requires-clause-product
weigh-requires-clause-product c =
    product_small (unsigned_abs c.args.row.now.worth.0) (slice_index c.args.grids 0 ^ row_factors 1 c.args.paths_one.now.sets.now c.args.row.now * slice_index c.args.grids 1 ^ row_factors 2 c.args.paths_two.now.sets.now c.args.row.now) c.requires.small.size
    (c.row_weight-weight_one.result * c.row_weight-weight_two.result) (mul-le-mul c.row_weight-weight_one.ensures.within c.row_weight-weight_two.ensures.within)

pub returns-clause-within : goal.returns-clause-within
returns-clause-within c =
    let worth = c.args.row.now.worth.0 in
    let both = c.row_weight-weight_one.result * c.row_weight-weight_two.result in
    let small = product_small (unsigned_abs worth) (slice_index c.args.grids 0 ^ row_factors 1 c.args.paths_one.now.sets.now c.args.row.now * slice_index c.args.grids 1 ^ row_factors 2 c.args.paths_two.now.sets.now c.args.row.now) c.requires.small.size
    both (mul-le-mul c.row_weight-weight_one.ensures.within c.row_weight-weight_two.ensures.within) in
    subst (λ n. n ≤ 2 ^ 77) (sym (ap unsigned_abs c.weigh.ensures ∙ unsigned_abs-mul worth (pos both))) small
