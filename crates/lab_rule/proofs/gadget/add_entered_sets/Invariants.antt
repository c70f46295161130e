use Rattle.std.proofs.Common.{◌≡◌, take}
use Rattle.lab_rule.specs.Names.{rule_model}
use Rattle.lab_rule.specs.Gadgets.{with_sets, opponent_sets}
use Rattle.lab_rule.proofs.gadget.add_entered_sets.Given as goal

abbrev pub invariant-loop-number : goal.invariant-loop-number
invariant-loop-number l = l.form ≡ with_sets l.fn.form l.seat (opponent_sets (rule_model l.name) l.roots (take l.number l.sets))
