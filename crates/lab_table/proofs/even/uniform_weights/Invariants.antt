use Rattle.std.proofs.Common.{◌≡◌, ◌++◌, drop}
use Rattle.lab_defs_value.specs.Tables.{uniform_table}
use Rattle.lab_form.specs.Forms.{actions_in}
use Rattle.lab_table.proofs.even.uniform_weights.Given as goal

abbrev pub invariant-loop-i : goal.invariant-loop-i
invariant-loop-i l = l.weights.items ++ uniform_table l.d (actions_in (drop l.i l.sets)) ≡ uniform_table l.d (actions_in l.sets)
