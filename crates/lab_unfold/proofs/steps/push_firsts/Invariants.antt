use Rattle.std.proofs.Common.{◌≡◌, ◌≤◌, ◌+◌, ◌-◌, ◌++◌, length}
use Rattle.lab_unfold.specs.Children.{first_children}
use Rattle.lab_unfold.proofs.steps.push_firsts.Given as goal

abbrev pub invariant-loop-place1 : goal.invariant-loop-place1
invariant-loop-place1 l = record {
  so_far : l.items.items ++ first_children l.parent l.depth l.world l.place1 (length l.world.one - l.place1) ≡ l.fn.items.items ++ first_children l.parent l.depth l.world 0 (length l.world.one);
  few : length l.items.items ≤ 65536;
  count : length l.fn.items.items + l.place1 ≤ length l.items.items;
}
