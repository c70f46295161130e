use Rattle.std.proofs.Common.{◌≡◌, pos, ◌+ℤ◌, ◌-ℤ◌, get_or, sym, ap, ◌∙◌, arith}
use Rattle.lab_defs_value.specs.Rounding.{share_size, even_part}
use Rattle.lab_reach.proofs.ReachLemmas.{allow, is_above, allow_small}
use Rattle.lab_rule.proofs.CallerLemmas.{no_path_set, no_path_step}
use Rattle.lab_reach.proofs.reach.+allowance.Goals as goal

pub bounds-view-number : goal.bounds-view-number
bounds-view-number t c = (is_above c.args.view.now c.args.place c.in-Some.number c.in-Some.at c.requires c.in-Some.is).step

pub allowance-requires : goal.allowance-requires
allowance-requires t c =
    let a = is_above c.args.view.now c.args.place c.in-Some.number c.in-Some.at c.requires c.in-Some.is in
    (omega (arith, a.lower, c.decreases), omega (arith, a.lower, c.requires))

pub bounds-view-from : goal.bounds-view-from
bounds-view-from t c =
    let a = is_above c.args.view.now c.args.place c.in-Some.number c.in-Some.at c.requires c.in-Some.is in
    omega (arith, a.lower, c.requires)

pub pool-whole-requires-clause-bound : goal.pool-whole-requires-clause-bound
pool-whole-requires-clause-bound t c = (is_above c.args.view.now c.args.place c.in-Some.number c.in-Some.at c.requires c.in-Some.is).bound

pub pool-whole-requires-clause-through : goal.pool-whole-requires-clause-through
pool-whole-requires-clause-through t c = (is_above c.args.view.now c.args.place c.in-Some.number c.in-Some.at c.requires c.in-Some.is).through

pub pool-whole-requires-clause-kept : goal.pool-whole-requires-clause-kept
pool-whole-requires-clause-kept t c = (is_above c.args.view.now c.args.place c.in-Some.number c.in-Some.at c.requires c.in-Some.is).kept

pub even_part-requires-clause-place : goal.even_part-requires-clause-place
even_part-requires-clause-place t c = (is_above c.args.view.now c.args.place c.in-Some.number c.in-Some.at c.requires c.in-Some.is).part

pub returns-clause-value : goal.returns-clause-value
returns-clause-value t c =
    let v = c.args.view.now in
    let a = is_above v c.args.place c.in-Some.number c.in-Some.at c.requires c.in-Some.is in
    let step = get_or v.steps.now c.in-Some.number no_path_step in
    let before = get_or v.sets.now step.from no_path_set in
    c.even_part.ensures ∙ ap (λ n. even_part n step.count c.in-Some.at) (c.pool-whole.ensures.pool ∙ ap (λ n. share_size (pos n +ℤ (before.bound.0 -ℤ step.through.0))) c.allowance.ensures.value) ∙ sym a.value

pub returns-clause-small : goal.returns-clause-small
returns-clause-small t c =
    let v = c.args.view.now in
    let a = is_above v c.args.place c.in-Some.number c.in-Some.at c.requires c.in-Some.is in
    let step = get_or v.steps.now c.in-Some.number no_path_step in
    let before = get_or v.sets.now step.from no_path_set in
    let value : c.even_part.result ≡ allow v c.args.place =
    c.even_part.ensures ∙ ap (λ n. even_part n step.count c.in-Some.at) (c.pool-whole.ensures.pool ∙ ap (λ n. share_size (pos n +ℤ (before.bound.0 -ℤ step.through.0))) c.allowance.ensures.value) ∙ sym a.value in
    let small = allow_small v c.args.place c.requires in
    omega (arith, value, small)
