use Rattle.std.proofs.Common.{◌≡◌, map, take}
use Rattle.std.specs.Prelude.{slice_index}
use Rattle.lab_tree.specs.TreeForms.{form_row, with_rows}
use Rattle.lab_tree.proofs.forms.add_rows.Given as goal

abbrev pub invariant-loop-row : goal.invariant-loop-row
invariant-loop-row l =
    l.form ≡ with_rows l.fn.form (map (form_row l.fn.form.sets1 l.fn.form.sets2 (slice_index l.most 0) (slice_index l.most 1)) (take l.row-index l.rows))
