use Rattle.std.proofs.Common.{rules, ◌≡◌, ℕ, ◌+◌, ◌<◌, ◌^◌, Some, length, cond, ap, ◌∙◌, sym, arith}
use Rattle.std.proofs.lemmas.List.{length-map}
use Rattle.std.proofs.lemmas.Bool.{le-leb, lt-leb}
use Rattle.lab_form.specs.Forms.{sets_model}
use Rattle.lab_form.proofs.CallerLemmas.{model_length}
use Rattle.lab_tree.specs.TreeForms.{form_set, form_sets}
use Rattle.lab_tree.proofs.TreeFormLemmas.{set_next, more_decisions, decisions_short}
use Rattle.lab_tree.proofs.decisions.decision_count.Goals as goal

pub decisions_before-before-requires-clause-below : goal.decisions_before-before-requires-clause-below
decisions_before-before-requires-clause-below c = (set_next c.args.sets.now (length c.args.counts.now) _ c.requires.sets c.requires.below).parent

pub overflow_add-result : goal.overflow_add-result
overflow_add-result c =
    let sets = form_sets c.args.sets.now in
    let more = more_decisions c.args.sets.now (length c.args.counts.now) _ c.decisions_before-before.result c.requires.sets c.requires.below c.decisions_before-before.ensures in
    let one = ap (λ b. c.decisions_before-before.result + cond b 1 0) (sym (le-leb 2 _ c.if-set-ge2.true)) ∙ more in
    let fits : c.decisions_before-before.result + 1 < 2 ^ 32 = omega (arith, one, decisions_short (sets_model sets) (Some (record { set = length c.args.counts.now; action = 0 })), model_length sets, length-map c.args.sets.now form_set, c.requires.few) in
    search rules

pub returns-then-set-ge2 : goal.returns-then-set-ge2
returns-then-set-ge2 c =
    let more = more_decisions c.args.sets.now (length c.args.counts.now) _ c.decisions_before-before.result c.requires.sets c.requires.below c.decisions_before-before.ensures in
    ap (λ b. c.decisions_before-before.result + cond b 1 0) (sym (le-leb 2 _ c.if-set-ge2.true)) ∙ more

pub returns-else-set-ge2 : goal.returns-else-set-ge2
returns-else-set-ge2 c =
    let more = more_decisions c.args.sets.now (length c.args.counts.now) _ c.decisions_before-before.result c.requires.sets c.requires.below c.decisions_before-before.ensures in
    none c.decisions_before-before.result ∙ ap (λ b. c.decisions_before-before.result + cond b 1 0) (sym (lt-leb 2 _ c.if-set-ge2.false)) ∙ more
  where
    none : (n : ℕ) → n ≡ n + 0
    none n = omega arith
