use Rattle.std.proofs.Common.{◌≡◌, ◌*◌, ◌≤◌, ◌^◌, length, take, unsigned_abs}
use Rattle.std.specs.Prelude.{slice_index}
use Rattle.lab_math.specs.Sums.{total}
use Rattle.lab_best.specs.Rows.{row_term}
use Rattle.lab_best.specs.Kept.{AreKept}
use Rattle.lab_best.proofs.expectation.expect.Given as goal

abbrev pub invariant-loop-number : goal.invariant-loop-number
invariant-loop-number l = record {
  value : l.sum.0 ≡ total (row_term (slice_index l.grids 0) (slice_index l.grids 1) l.form.sets1 l.form.sets2 l.one l.two) (take l.number l.form.rows);
  one : AreKept (slice_index l.grids 0) l.form.sets1 l.one l.kept_one;
  two : AreKept (slice_index l.grids 1) l.form.sets2 l.two l.kept_two;
  within : l.number ≤ length l.form.rows;
  small : unsigned_abs l.sum.0 ≤ l.number * 2 ^ 77;
}
