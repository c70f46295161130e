use Rattle.std.proofs.Common.{get_or, None, sym, ap, ◌∙◌, subst}
use Rattle.lab_form.specs.declared.items.FormSet.{FormSet}
use Rattle.lab_form.specs.Forms.{IsStepBelow}
use Rattle.lab_form.specs.Decisions.{last_set}
use Rattle.lab_form.proofs.SetLemmas.{set_decided, set_passed}
use Rattle.lab_form.proofs.decision.last_set.Goals as goal

abbrev zeros : FormSet
zeros = record { parent = None; actions = 0; first_weight = 0 }

pub returns-then-sets-id-lt2 : goal.returns-then-sets-id-lt2
returns-then-sets-id-lt2 c =
    let there = subst (IsStepBelow c.args.sets.now) c.in-Some.is c.requires.step in
    ap (λ ns. get_or ns c.in-Some.id.0 0) c.requires.over
    ∙ sym (ap (last_set c.args.sets.now) c.in-Some.is ∙ set_passed c.args.sets.now (c.in-Some.id, c.in-Some.field-0-1) zeros c.requires.order there.0 c.if-sets-id-lt2.true)

pub returns : goal.returns
returns c =
    let there = subst (IsStepBelow c.args.sets.now) c.in-Some.is c.requires.step in
    sym (ap (last_set c.args.sets.now) c.in-Some.is ∙ set_decided c.args.sets.now (c.in-Some.id, c.in-Some.field-0-1) zeros c.requires.order there.0 c.if-sets-id-lt2.false)
