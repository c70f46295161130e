use Rattle.std.proofs.Common.{◌≡◌, ◌≤◌, ◌+◌, ◌++◌, length, drop}
use Rattle.lab_unfold.specs.Children.{row_children}
use Rattle.lab_unfold.proofs.steps.push_row.Given as goal

abbrev pub invariant-loop-outcome : goal.invariant-loop-outcome
invariant-loop-outcome l = record {
  so_far : l.items.items ++ row_children l.parent l.depth l.place1 l.place2 l.outcome (drop l.outcome l.outcomes) ≡ l.fn.items.items ++ row_children l.parent l.depth l.place1 l.place2 0 l.outcomes;
  few : length l.items.items ≤ 65536;
  count : length l.fn.items.items + l.outcome ≡ length l.items.items;
}
