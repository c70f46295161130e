use Rattle.std.proofs.Common.{◌≡◌, map, take}
use Rattle.lab_tree.specs.TreeForms.{with_sets}
use Rattle.lab_tree.specs.Subforms.{inner_set, first_of}
use Rattle.lab_tree.proofs.subgame.add_sets.Given as goal

abbrev pub invariant-loop-set : goal.invariant-loop-set
invariant-loop-set l = l.form ≡ with_sets l.fn.form l.seat (map (inner_set l.span (first_of l.inside)) (take l.set-index l.inside))
