use Rattle.std.proofs.Common.{ap, arith}
use Rattle.lab_form.specs.Columns.{place_of_step}
use Rattle.lab_tree.specs.Subforms.{decisions_inside}
use Rattle.lab_tree.proofs.SubformLemmas.{inside_push}
use Rattle.lab_tree.proofs.subgame_row.decisions_inside.Goals as goal

pub loop-step-preserved : goal.loop-step-preserved
loop-step-preserved c =
    let push = inside_push c.args.sets.now c.args.span c.step_before-step.result c.in-Some.at c.step_before-step.ensures.path in
    let here = ap (decisions_inside c.args.sets.now c.args.span) c.in-Some.is in
    let place = ap place_of_step c.in-Some.is in
    record {
      there = c.step_before-step.ensures.there;
      few = omega (arith, c.loop-step.invariant.few, place, c.step_before-step.ensures.earlier, c.decision_inside-count.ensures.one);
      same = omega (arith, c.loop-step.invariant.same, here, push, c.decision_inside-count.ensures.value);
    }
