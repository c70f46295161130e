use Rattle.std.proofs.Common.{◌≡◌, ℕ, ◌+◌, ◌<◌, ◌≤◌, ◌^◌, ◌+ℤ◌, length, unsigned_abs}
use Rattle.lab_math.specs.Sums.{total, sum_over}
use Rattle.lab_math.proofs.Members.{In}
use Rattle.lab_defs_value.specs.Bounds.{at}
use Rattle.lab_best.specs.Parts.{part_at, children_value}
use Rattle.lab_best.specs.Rows.{set_at}
use Rattle.lab_best.specs.Values.{numbers}
use Rattle.lab_best.proofs.through.add_children.Given as goal

abbrev pub invariant-loop-child : goal.invariant-loop-child
invariant-loop-child l = record {
  next : (goal.iterator-loop-child).can_next l.child-iterator;
  ends : (goal.iterator-loop-child).is_finite l.child-iterator;
  places : length l.out ≡ length l.fn.out;
  there : (n : ℕ) → In n l.child-iterator → n < length l.sets;
  values : (i : ℕ) → i < length l.out → at (numbers l.out) i +ℤ total (λ n. part_at l.first (set_at l.sets n).parent (at (numbers l.values) n) i) l.child-iterator
      ≡ at (numbers l.fn.out) i +ℤ children_value l.sets (at (numbers l.values)) l.fn.set.0 (l.first + i);
  sizes : (i : ℕ) → i < length l.out → unsigned_abs (at (numbers l.out) i) + sum_over (λ n. unsigned_abs (at (numbers l.values) n)) l.child-iterator ≤ 2 ^ 126;
}
