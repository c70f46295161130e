use Rattle.std.proofs.Common.{◌≡◌, map, take}
use Rattle.lab_rule.specs.Names.{rule_model}
use Rattle.lab_rule.specs.Gadgets.{with_rows, entered_row}
use Rattle.lab_rule.proofs.gadget.add_entered_rows.Given as goal

abbrev pub invariant-loop-row : goal.invariant-loop-row
invariant-loop-row l = l.form ≡ with_rows l.fn.form (map (entered_row (rule_model l.name) l.opponent l.roots) (take l.row-index l.rows))
