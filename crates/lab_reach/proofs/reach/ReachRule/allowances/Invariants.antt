use Rattle.std.proofs.Common.{◌≡◌, ◌+◌, ◌-◌, map, take, length}
use Rattle.std.specs.List.{range_with_len}
use Rattle.lab_rule.specs.Rules.{worths_of}
use Rattle.lab_reach.proofs.ReachLemmas.{allow}
use Rattle.lab_reach.proofs.reach.ReachRule.allowances.Given as goal

abbrev pub invariant-loop-root : goal.invariant-loop-root
invariant-loop-root l = record {
  long : length l.out ≡ l.view.roots;
  written : take l.root l.out ≡ worths_of (map (λ i. allow l.view (length l.view.sets.now - l.view.roots + i)) (range_with_len 0 l.root));
}
