use Rattle.std.proofs.Common.{◌≡◌, map}
use Rattle.std.specs.List.{range_with_len}
use Rattle.lab_defs_game.specs.Forms.{decisions_to}
use Rattle.lab_form.specs.Forms.{sets_model}
use Rattle.lab_tree.specs.TreeForms.{form_sets}
use Rattle.lab_tree.proofs.decisions.decision_counts.Given as goal

abbrev pub invariant-loop : goal.invariant-loop
invariant-loop l = l.counts.items ≡ map (decisions_to (sets_model (form_sets l.sets))) (range_with_len 0 l.counter)
