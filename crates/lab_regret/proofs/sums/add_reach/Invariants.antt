use Rattle.std.proofs.Common.{ℕ, ◌≡◌, ◌+◌, ◌<◌, ◌≤◌, pos, ◌+ℤ◌, length}
use Rattle.std.specs.Prelude.{slice_index}
use Rattle.lab_defs_value.specs.Bounds.{at}
use Rattle.lab_regret.specs.Kept.{numbers}
use Rattle.lab_regret.proofs.sums.add_reach.Given as goal

abbrev pub invariant-loop-k : goal.invariant-loop-k
invariant-loop-k l = record {
  places : length l.sums ≡ length l.fn.sums;
  done : (k : ℕ) → k < l.k → at (numbers l.sums) (0 + k) ≡ at (numbers l.fn.sums) k +ℤ pos (slice_index l.reach (k + 1));
  after : (k : ℕ) → l.k ≤ k → at (numbers l.sums) k ≡ at (numbers l.fn.sums) k;
}
