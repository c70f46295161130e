use Rattle.std.proofs.Common.{ℕ, ◌≡◌, ◌<◌, true}
use Rattle.lab_form.specs.Forms.{actions_in}
use Rattle.lab_table.specs.Tables.{sums_to}
use Rattle.lab_table.proofs.check.first_wrong.Given as goal

abbrev pub invariant-loop-i : goal.invariant-loop-i
invariant-loop-i l = (earlier : ℕ) → earlier < l.i → sums_to l.d (actions_in l.sets) l.weights earlier ≡ true
