use Rattle.std.proofs.Common.{◌≡◌, ◌≤◌, ◌+◌, ◌-◌, ◌++◌, length}
use Rattle.lab_unfold.specs.Children.{second_children}
use Rattle.lab_unfold.proofs.steps.push_seconds.Given as goal

abbrev pub invariant-loop-place2 : goal.invariant-loop-place2
invariant-loop-place2 l = record {
  so_far : l.items.items ++ second_children l.parent l.depth l.world l.place1 l.place2 (length l.world.two - l.place2) ≡ l.fn.items.items ++ second_children l.parent l.depth l.world l.place1 0 (length l.world.two);
  few : length l.items.items ≤ 65536;
  count : length l.fn.items.items + l.place2 ≤ length l.items.items;
}
