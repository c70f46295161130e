use Rattle.std.proofs.Common.{ap, subst, arith}
use Rattle.lab_defs_game.specs.Forms.{deciding}
use Rattle.lab_form.specs.Columns.{place_of_step}
use Rattle.lab_form.specs.Forms.{actions_in, whole_path, IsStepBelow}
use Rattle.lab_rule.proofs.StepLemmas.{decisions_push}
use Rattle.lab_rule.proofs.factors.decisions.Goals as goal

pub loop-step-preserved : goal.loop-step-preserved
loop-step-preserved c =
    let sets = c.args.sets.now in
    let there = c.step_before-step.ensures.there in
    let path = ap (deciding (actions_in sets)) c.step_before-step.ensures.path in
    let push = decisions_push sets (whole_path sets c.step_before-step.result) c.in-Some.at (subst (IsStepBelow sets) c.in-Some.is c.loop-step.invariant.there).0 in
    let here = ap (λ o. deciding (actions_in sets) (whole_path sets o)) c.in-Some.is in
    let place = ap place_of_step c.in-Some.is in
    record {
      there = there;
      few = omega (arith, c.loop-step.invariant.few, place, c.step_before-step.ensures.earlier, c.decision-count.ensures.one);
      same = omega (arith, c.loop-step.invariant.same, here, path, push, c.decision-count.ensures.value);
    }
