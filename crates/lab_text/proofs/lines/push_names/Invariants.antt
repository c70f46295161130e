use Rattle.std.proofs.Common.{◌≡◌, ◌++◌, drop}
use Rattle.lab_world.specs.Models.{action_list}
use Rattle.lab_text.specs.Parts.{spaced}
use Rattle.lab_text.proofs.lines.push_names.Given as goal

abbrev pub invariant-loop-id : goal.invariant-loop-id
invariant-loop-id l =
    l.text.items ++ spaced (action_list l.actions (drop l.id-index l.ids)) ≡ l.fn.text.items ++ spaced (action_list l.actions l.ids)
