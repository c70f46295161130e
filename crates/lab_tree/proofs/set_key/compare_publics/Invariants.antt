use Rattle.std.proofs.Common.{◌≡◌, drop, map}
use Rattle.lab_defs_game.specs.Keys.{list_cmp}
use Rattle.lab_defs_game.specs.Sets.{publics}
use Rattle.lab_unfold.specs.Items.{item_model}
use Rattle.lab_tree.proofs.set_key.compare_publics.Given as goal

abbrev pub invariant-loop-i : goal.invariant-loop-i
invariant-loop-i l = list_cmp (publics (map item_model (drop l.i l.one))) (publics (map item_model (drop l.i l.two))) ≡ list_cmp (publics (map item_model l.one)) (publics (map item_model l.two))
