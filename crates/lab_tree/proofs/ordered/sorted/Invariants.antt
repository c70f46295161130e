use Rattle.std.proofs.Common.{◌≡◌}
use Rattle.lab_defs_game.specs.Keys.{in_order, merged}
use Rattle.lab_tree.proofs.ordered.sorted.Given as goal

abbrev pub invariant-loop-key : goal.invariant-loop-key
invariant-loop-key g l = merged g.K.Ord.cmp l.set.keys l.key-iterator.rest.items ≡ in_order g.K.Ord.cmp l.fn.keys.items
