use Rattle.std.proofs.Common.{◌≡◌, ◌++◌, drop, replicate, pos}
use Rattle.lab_defs_value.specs.Rounding.{rounded}
use Rattle.lab_table.proofs.even.push_even.Given as goal

abbrev pub invariant-loop-action : goal.invariant-loop-action
invariant-loop-action l = l.weights.items ++ drop l.action (rounded l.d (replicate l.actions (pos 0))) ≡ l.fn.weights.items ++ rounded l.d (replicate l.actions (pos 0))
