use Rattle.std.proofs.Common.{◌≡◌, length, ap, ◌∙◌, arith}
use Rattle.lab_defs_value.specs.Tables.{weight_count}
use Rattle.lab_sizes.proofs.SizeWeights.{few_weights}
use Rattle.lab_session.proofs.board.Board.weight_count.Goals as goal

pub returns-clause-few : goal.returns-clause-few
returns-clause-few c =
    let count : length c.weights.result.now ≡ weight_count c.args.self.now c.args.seat = ap length c.weights.ensures.weights ∙ c.even_split.ensures.is.weights.count in
    omega (arith, count, few_weights c.args.self.now c.even_split.ensures.accepted c.args.seat)

pub overflow_cast-result : goal.overflow_cast-result
overflow_cast-result c =
    let count : length c.weights.result.now ≡ weight_count c.args.self.now c.args.seat = ap length c.weights.ensures.weights ∙ c.even_split.ensures.is.weights.count in
    omega (arith, count, few_weights c.args.self.now c.even_split.ensures.accepted c.args.seat)
