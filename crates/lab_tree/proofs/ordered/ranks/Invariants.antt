use Rattle.std.proofs.Common.{◌≡◌, length}
use Rattle.lab_tree.specs.Ranks.{AreRanks}
use Rattle.lab_tree.proofs.ordered.ranks.Given as goal

abbrev pub invariant-loop-place : goal.invariant-loop-place
invariant-loop-place g l = record {
  count : length l.ranks.items ≡ l.count;
  ranks : AreRanks l.order l.ranks.items l.place;
}
