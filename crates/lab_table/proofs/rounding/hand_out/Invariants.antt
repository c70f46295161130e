use Rattle.std.proofs.Common.{◌≡◌, ◌≤◌, ◌++◌, length, take, drop}
use Rattle.std.specs.List.{All}
use Rattle.lab_table.specs.Sizes.{sizes, gained}
use Rattle.lab_table.proofs.rounding.hand_out.Given as goal

abbrev pub invariant-loop-i : goal.invariant-loop-i
invariant-loop-i l = record {
  len : length l.out ≡ length l.shares;
  few : l.left ≤ l.units;
  so_far : take l.i l.out ++ gained l.whole l.left (sizes (drop l.i l.shares)) (drop l.i l.out) ≡ gained l.whole l.units (sizes l.shares) l.fn.out;
  rest : All (λ p. p ≤ l.d) (drop l.i l.out);
}
