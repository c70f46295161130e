use Rattle.std.proofs.Common.{◌≡◌, ◌++◌, length, take, drop, subst, arith}
use Rattle.std.proofs.lemmas.Grind.{common_steps}
use Rattle.lab_defs_value.specs.Bounds.{at, Tight}
use Rattle.lab_best.specs.Values.{strategy_in, numbers}
use Rattle.lab_bounds.proofs.bounds.BoundTable.fresh.Goals as goal

pub returns-clause-tight : goal.returns-clause-tight
returns-clause-tight c =
    let out = c.best_table.new.out in
    let whole : out ≡ take c.in-Ok.bounds.len (out ++ drop (length out) c.in-Ok.bounds.items) = grind (arith, common_steps) in
    subst (λ ws. Tight (strategy_in c.args.form.now c.args.keeper c.args.d c.args.table.now.weights) (at (numbers ws))) whole
    (subst (λ ws. Tight (strategy_in c.args.form.now c.args.keeper c.args.d ws) (at (numbers out))) c.weights.ensures.weights c.best_table.ensures.tight)
