use Rattle.std.proofs.Common.{◌≡◌, ◌≤◌, ◌^◌, length, map, ap, ◌∙◌, sym, subst}
use Rattle.std.specs.Prelude.{unsigned_abs, All}
use Rattle.std.specs.List.{range_with_len}
use Rattle.lab_defs_game.specs.Seats.{IsSeat}
use Rattle.lab_defs_value.specs.Bounds.{at, through}
use Rattle.lab_best.specs.Values.{strategy_in, numbers}
use Rattle.lab_bounds.specs.Tables.{BoundsValue, bounded_in}
use Rattle.lab_bounds.proofs.BackedSizes.{sum_within, backed_within, range_within}
use Rattle.lab_bounds.proofs.bounds.BoundTable.write_through.Goals as goal

pub action_values-requires-clause-sizes : goal.action_values-requires-clause-sizes
action_values-requires-clause-sizes c =
    let same : numbers c.as_slice.result.now ≡ c.args.self.now.bounds = ap numbers c.as_slice.ensures.value ∙ ap (λ (b : BoundsValue). b.bounds) c.self.view_is in
    sum_within c.as_slice.result.now (subst (λ zs. length zs ≤ 2 ^ 16) (sym same) c.requires.of.few)
    (subst (λ zs. All (λ z. unsigned_abs z ≤ 2 ^ 100) zs) (sym same) c.requires.of.sizes)

pub returns-clause-values : goal.returns-clause-values
returns-clause-values c =
    let f = c.args.form.now in
    let range = range_with_len c.args.first (length c.args.out.now) in
    let same : numbers c.as_slice.result.now ≡ c.args.self.now.bounds = ap numbers c.as_slice.ensures.value ∙ ap (λ (b : BoundsValue). b.bounds) c.self.view_is in
    c.action_values.ensures.values
    ∙ ap (λ (b : BoundsValue). map (through (strategy_in f b.keeper c.args.d c.weights.result.now) (at (numbers c.as_slice.result.now)) c.args.set.0) range) c.self.view_is
    ∙ ap (λ ws. map (through (strategy_in f c.args.self.now.keeper c.args.d ws) (at (numbers c.as_slice.result.now)) c.args.set.0) range) c.weights.ensures.weights
    ∙ ap (λ zs. map (through (bounded_in f c.args.d c.args.table.now c.args.self.now) (at zs) c.args.set.0) range) same

pub returns-clause-sizes : goal.returns-clause-sizes
returns-clause-sizes c =
    let h = through (bounded_in c.args.form.now c.args.d c.args.table.now c.args.self.now) (at c.args.self.now.bounds) c.args.set.0 in
    range_within h (2 ^ 117) c.args.first (length c.args.out.now) c.action_values.new.out (returns-clause-values c)
    (backed_within c.args.form.now c.args.d c.args.table.now c.args.self.now (subst (λ (b : BoundsValue). IsSeat b.keeper) c.self.view_is c.self.invariant) c.requires.of c.args.set.0)
