use Rattle.std.proofs.Common.{◌≤◌, ◌<◌, ◌^◌, map, length, sym, subst, arith}
use Rattle.std.specs.Prelude.{unsigned_abs}
use Rattle.std.proofs.lemmas.List.{get_or-map, length-map}
use Rattle.lab_form.specs.declared.items.FormRow.{FormRow}
use Rattle.lab_form.specs.Forms.{FormValue, IsNextRow}
use Rattle.lab_tree.specs.TreeForms.{form_sets}
use Rattle.lab_tree.specs.Subforms.{inner_row, parts_with}
use Rattle.lab_tree.proofs.TreeFormLemmas.{no_row, row_next}
use Rattle.lab_tree.proofs.subgame.add_inner_rows.Goals as goal

pub inner_row-next-requires-clause-last1 : goal.inner_row-next-requires-clause-last1
inner_row-next-requires-clause-last1 c =
    (row_next (form_sets c.args.one.now.sets.now) (form_sets c.args.two.now.sets.now) c.args.rows.now c.loop-row.row-index 0 0 no_row c.requires.last c.loop-row-test.true).one

pub inner_row-next-requires-clause-last2 : goal.inner_row-next-requires-clause-last2
inner_row-next-requires-clause-last2 c =
    (row_next (form_sets c.args.one.now.sets.now) (form_sets c.args.two.now.sets.now) c.args.rows.now c.loop-row.row-index 0 0 no_row c.requires.last c.loop-row-test.true).two

pub inner_row-next-requires-clause-small : goal.inner_row-next-requires-clause-small
inner_row-next-requires-clause-small c =
    let one = c.args.one.now in
    let two = c.args.two.now in
    let made = inner_row (parts_with c.args.keeper c.args.weights.now one.sets.now one.span one.most two.sets.now two.span two.most) in
    let i = c.loop-row.row-index in
    let long : i < length (map made c.args.rows.now) = omega (arith, length-map c.args.rows.now made, c.loop-row-test.true) in
    subst (λ (r : FormRow). unsigned_abs r.worth.0 ≤ 2 ^ 64) (get_or-map made c.args.rows.now i no_row (made no_row) c.loop-row-test.true) (c.requires.small i (made no_row) long)

pub add_row-requires-clause-next : goal.add_row-requires-clause-next
add_row-requires-clause-next c =
    let one = c.args.one.now in
    let two = c.args.two.now in
    let f = c.args.form.now in
    let made = inner_row (parts_with c.args.keeper c.args.weights.now one.sets.now one.span one.most two.sets.now two.span two.most) in
    let i = c.loop-row.row-index in
    let long : i < length (map made c.args.rows.now) = omega (arith, length-map c.args.rows.now made, c.loop-row-test.true) in
    let there = subst (IsNextRow f.sets1 f.sets2) (get_or-map made c.args.rows.now i no_row (made no_row) c.loop-row-test.true) (c.requires.there i (made no_row) long) in
    subst (λ (f : FormValue). IsNextRow f.sets1 f.sets2 c.inner_row-next.result) (sym c.loop-row.invariant)
    (subst (IsNextRow f.sets1 f.sets2) (sym c.inner_row-next.ensures) there)
