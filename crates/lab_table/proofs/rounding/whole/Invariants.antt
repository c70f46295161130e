use Rattle.std.proofs.Common.{◌≡◌, ◌+◌, drop}
use Rattle.lab_math.specs.Sums.{sum_over}
use Rattle.lab_table.specs.Sizes.{sizes}
use Rattle.lab_table.proofs.rounding.whole.Given as goal

abbrev pub invariant-loop-i : goal.invariant-loop-i
invariant-loop-i l = l.total + sum_over (λ s. s) (sizes (drop l.i l.shares)) ≡ sum_over (λ s. s) (sizes l.shares)
