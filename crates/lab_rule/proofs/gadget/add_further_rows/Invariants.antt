use Rattle.std.proofs.Common.{◌≡◌, ◌++◌}
use Rattle.lab_defs_game.specs.Seats.{other}
use Rattle.lab_defs_value.specs.Replies.{factors_in}
use Rattle.lab_defs_value.specs.Views.{root_limit}
use Rattle.lab_rule.specs.Names.{rule_model}
use Rattle.lab_rule.specs.Rules.{sizes_of}
use Rattle.lab_rule.specs.Views.{view_model}
use Rattle.lab_rule.specs.Gadgets.{with_rows, further_rows}
use Rattle.lab_rule.proofs.gadget.add_further_rows.Given as goal

abbrev pub invariant-loop-root : goal.invariant-loop-root
invariant-loop-root l =
    l.form ≡ with_rows l.fn.form (l.fn.form.rows ++ further_rows (rule_model l.name) (other l.view.keeper) (factors_in (view_model l.view).form (other l.view.keeper)) (root_limit (view_model l.view) (sizes_of l.allowances)) l.root)
