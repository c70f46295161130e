use Rattle.std.proofs.Common.{◌≡◌, take}
use Rattle.lab_rule.specs.Gadgets.{with_sets}
use Rattle.lab_rule.proofs.gadget.copy_sets.Given as goal

abbrev pub invariant-loop-set : goal.invariant-loop-set
invariant-loop-set l = l.form ≡ with_sets l.fn.form l.seat (take l.set-index l.sets)
