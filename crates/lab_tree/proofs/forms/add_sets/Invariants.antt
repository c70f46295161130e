use Rattle.std.proofs.Common.{◌≡◌, take}
use Rattle.lab_world.specs.Seats.{seat_number}
use Rattle.lab_tree.specs.TreeForms.{form_sets, with_sets}
use Rattle.lab_tree.proofs.forms.add_sets.Given as goal

abbrev pub invariant-loop-set : goal.invariant-loop-set
invariant-loop-set l = l.form ≡ with_sets l.fn.form (seat_number l.seat) (form_sets (take l.set-index l.sets))
