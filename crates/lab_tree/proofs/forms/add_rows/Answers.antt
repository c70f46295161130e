use Rattle.std.proofs.Common.{get_or, sym, subst, ◌∙◌}
use Rattle.std.specs.Prelude.{slice_index}
use Rattle.lab_form.specs.Forms.{FormValue, IsNextRow}
use Rattle.lab_tree.specs.TreeForms.{form_row, last_set}
use Rattle.lab_tree.proofs.TreeFormLemmas.{no_row, row_next, last_counted, counted_is, rows_more}
use Rattle.lab_tree.proofs.forms.add_rows.Goals as goal

pub next_row-next-requires-clause-there1 : goal.next_row-next-requires-clause-there1
next_row-next-requires-clause-there1 c =
    let f = c.args.form.now in
    let there = row_next f.sets1 f.sets2 c.args.rows.now c.loop-row.row-index 0 0 no_row c.requires.there c.loop-row-test.true in
    last_counted f.sets1 c.args.counts1.now (last_set (get_or c.args.rows.now c.loop-row.row-index no_row) 1).0.0 c.requires.counts1 there.one.0

pub next_row-next-requires-clause-there2 : goal.next_row-next-requires-clause-there2
next_row-next-requires-clause-there2 c =
    let f = c.args.form.now in
    let there = row_next f.sets1 f.sets2 c.args.rows.now c.loop-row.row-index 0 0 no_row c.requires.there c.loop-row-test.true in
    last_counted f.sets2 c.args.counts2.now (last_set (get_or c.args.rows.now c.loop-row.row-index no_row) 2).0.0 c.requires.counts2 there.two.0

pub add_row-requires-clause-next : goal.add_row-requires-clause-next
add_row-requires-clause-next c =
    let f = c.args.form.now in
    let row = get_or c.args.rows.now c.loop-row.row-index no_row in
    let there = row_next f.sets1 f.sets2 c.args.rows.now c.loop-row.row-index 0 0 no_row c.requires.there c.loop-row-test.true in
    let made = c.next_row-next.ensures ∙ counted_is f.sets1 f.sets2 c.args.counts1.now c.args.counts2.now (slice_index c.args.most 0) (slice_index c.args.most 1) row c.requires.counts1 c.requires.counts2 there in
    subst (λ (f : FormValue). IsNextRow f.sets1 f.sets2 c.next_row-next.result) (sym c.loop-row.invariant)
    (subst (IsNextRow f.sets1 f.sets2) (sym made)
    (row_next f.sets1 f.sets2 c.args.rows.now c.loop-row.row-index (slice_index c.args.most 0) (slice_index c.args.most 1) no_row c.requires.there c.loop-row-test.true))

pub loop-row-preserved : goal.loop-row-preserved
loop-row-preserved c =
    let f = c.args.form.now in
    let i = c.loop-row.row-index in
    let row = get_or c.args.rows.now i no_row in
    let there = row_next f.sets1 f.sets2 c.args.rows.now i 0 0 no_row c.requires.there c.loop-row-test.true in
    let made = c.next_row-next.ensures ∙ counted_is f.sets1 f.sets2 c.args.counts1.now c.args.counts2.now (slice_index c.args.most 0) (slice_index c.args.most 1) row c.requires.counts1 c.requires.counts2 there in
    c.add_row.ensures
    ∙ rows_more f c.loop-row.form (form_row f.sets1 f.sets2 (slice_index c.args.most 0) (slice_index c.args.most 1)) c.args.rows.now i no_row c.next_row-next.result c.loop-row-test.true c.loop-row.invariant made
