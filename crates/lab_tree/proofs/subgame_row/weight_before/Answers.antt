use Rattle.std.proofs.Common.{◌*◌, ◌-◌, ◌^◌, min, sym, ap, ◌∙◌, arith}
use Rattle.lab_tree.specs.Subforms.{weight_before}
use Rattle.lab_tree.proofs.SubformLemmas.{weight_more}
use Rattle.lab_tree.proofs.subgame_row.weight_before.Goals as goal

pub loop-step-preserved : goal.loop-step-preserved
loop-step-preserved c =
    let m = 2 ^ 128 - 1 in
    let more = weight_more c.args.sets.now c.args.span c.args.weights.now c.step_before-step.result c.in-Some.at m c.loop-step.weight c.factor_before.result c.saturating_mul-weight.result
    c.step_before-step.ensures.path c.factor_before.ensures c.saturating_mul-weight.ensures in
    record {
      there = c.step_before-step.ensures.there;
      within = omega (arith, c.saturating_mul-weight.ensures);
      same = more ∙ ap (λ o. min (c.loop-step.weight * weight_before c.args.sets.now c.args.span c.args.weights.now o) m) (sym c.in-Some.is) ∙ c.loop-step.invariant.same;
    }
