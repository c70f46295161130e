use Rattle.std.proofs.Common.{◌≡◌, map}
use Rattle.std.specs.List.{range_with_len}
use Rattle.lab_world.specs.Games.{game_model}
use Rattle.lab_tree.specs.SetValues.{ranked_set}
use Rattle.lab_tree.proofs.set_parts.set_ids.Given as goal

abbrev pub invariant-loop-number : goal.invariant-loop-number
invariant-loop-number l = l.ids.items ≡ map (ranked_set (game_model l.game) l.firsts l.ranks) (range_with_len 0 l.number)
