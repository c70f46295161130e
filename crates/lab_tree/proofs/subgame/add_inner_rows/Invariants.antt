use Rattle.std.proofs.Common.{◌≡◌, map, take}
use Rattle.lab_tree.specs.TreeForms.{with_rows}
use Rattle.lab_tree.specs.Subforms.{inner_row, parts_with}
use Rattle.lab_tree.proofs.subgame.add_inner_rows.Given as goal

abbrev pub invariant-loop-row : goal.invariant-loop-row
invariant-loop-row l =
    l.form ≡ with_rows l.fn.form (map (inner_row (parts_with l.keeper l.weights l.one.sets.now l.one.span l.one.most l.two.sets.now l.two.span l.two.most)) (take l.row-index l.rows))
