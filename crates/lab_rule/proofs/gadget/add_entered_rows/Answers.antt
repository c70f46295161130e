use Rattle.std.proofs.Common.{◌<◌, map, length, sym, subst, arith}
use Rattle.std.proofs.lemmas.List.{get_or-map, length-map}
use Rattle.lab_form.specs.Forms.{FormValue, IsNextRow}
use Rattle.lab_rule.specs.Names.{rule_model}
use Rattle.lab_rule.specs.Gadgets.{entered_row}
use Rattle.lab_rule.proofs.FactorLemmas.{no_row}
use Rattle.lab_rule.proofs.gadget.add_entered_rows.Goals as goal

pub add_row-requires-clause-next : goal.add_row-requires-clause-next
add_row-requires-clause-next c =
    let f = c.args.form.now in
    let rows = c.args.rows.now in
    let i = c.loop-row.row-index in
    let made = entered_row (rule_model c.args.name) c.args.opponent c.args.roots in
    let long : i < length (map made rows) = omega (arith, length-map rows made, c.loop-row-test.true) in
    let there = subst (IsNextRow f.sets1 f.sets2) (get_or-map made rows i no_row (made no_row) c.loop-row-test.true) (c.requires.there i (made no_row) long) in
    subst (λ (f : FormValue). IsNextRow f.sets1 f.sets2 c.entered_row.result) (sym c.loop-row.invariant)
    (subst (IsNextRow f.sets1 f.sets2) (sym c.entered_row.ensures) there)
