use Rattle.std.proofs.Common.{get_or, None, sym, ap, ◌∙◌, subst}
use Rattle.lab_form.specs.declared.items.FormSet.{FormSet}
use Rattle.lab_form.specs.Forms.{IsStepBelow}
use Rattle.lab_form.specs.Decisions.{short_decision}
use Rattle.lab_form.proofs.DecisionLemmas.{decided, passed}
use Rattle.lab_form.proofs.decision.last_decision.Goals as goal

abbrev zeros : FormSet
zeros = record { parent = None; actions = 0; first_weight = 0 }

pub returns-then-set-lt2 : goal.returns-then-set-lt2
returns-then-set-lt2 c =
    let there = subst (IsStepBelow c.args.sets.now) c.in-Some.is c.requires.step in
    ap (λ ns. get_or ns c.in-Some.id.0 0) c.requires.above
    ∙ sym (ap (short_decision c.args.sets.now) c.in-Some.is ∙ passed c.args.sets.now (c.in-Some.id, c.in-Some.action) zeros c.requires.order there.0 c.if-set-lt2.true)

pub returns : goal.returns
returns c =
    let there = subst (IsStepBelow c.args.sets.now) c.in-Some.is c.requires.step in
    c.number.ensures
    ∙ sym (ap (short_decision c.args.sets.now) c.in-Some.is ∙ decided c.args.sets.now (c.in-Some.id, c.in-Some.action) zeros c.requires.order there.0 c.if-set-lt2.false)
