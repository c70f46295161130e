use Rattle.std.proofs.Common.{◌≡◌, ◌≤◌, ◌-◌, ◌++◌, map, length, take, drop}
use Rattle.std.specs.List.{All}
use Rattle.lab_math.specs.Sums.{sum_over}
use Rattle.lab_defs_value.specs.Rounding.{part}
use Rattle.lab_table.specs.Sizes.{sizes}
use Rattle.lab_table.proofs.rounding.parts.Given as goal

abbrev pub invariant-loop-i : goal.invariant-loop-i
invariant-loop-i l = record {
  len : length l.out ≡ length l.shares;
  so_far : take l.i l.out ++ map (part l.d (length l.shares) l.whole) (sizes (drop l.i l.shares)) ≡ map (part l.d (length l.shares) l.whole) (sizes l.shares);
  within : All (λ p. p ≤ l.d) (take l.i l.out);
  few : l.left ≤ 4096;
  left : l.left - sum_over (part l.d (length l.shares) l.whole) (sizes (drop l.i l.shares)) ≡ l.d - sum_over (part l.d (length l.shares) l.whole) (sizes l.shares);
  rest : sum_over (λ s. s) (sizes (drop l.i l.shares)) ≤ l.whole;
}
