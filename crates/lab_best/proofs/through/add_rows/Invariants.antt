use Rattle.std.proofs.Common.{◌≡◌, ℕ, ◌+◌, ◌*◌, ◌<◌, ◌≤◌, ◌^◌, ◌+ℤ◌, length, get_or, unsigned_abs}
use Rattle.lab_math.specs.Sums.{total}
use Rattle.lab_math.proofs.Members.{In}
use Rattle.lab_defs_game.specs.Seats.{other}
use Rattle.lab_defs_value.specs.Bounds.{at, through_rows}
use Rattle.lab_form.specs.Forms.{last_of}
use Rattle.lab_best.specs.Parts.{part_at}
use Rattle.lab_best.specs.Rows.{row_worth}
use Rattle.lab_best.specs.Values.{strategy_in, numbers}
use Rattle.lab_best.proofs.ThroughLemmas.{no_row}
use Rattle.lab_best.specs.Kept.{AreKept}
use Rattle.lab_best.proofs.through.add_rows.Given as goal

abbrev pub invariant-loop-number : goal.invariant-loop-number
invariant-loop-number l = record {
  next : (goal.iterator-loop-number).can_next l.number-iterator;
  ends : (goal.iterator-loop-number).is_finite l.number-iterator;
  places : length l.out ≡ length l.fn.out;
  there : (n : ℕ) → In n l.number-iterator → n < length l.rows;
  values : (i : ℕ) → i < length l.out
      → at (numbers l.out) i +ℤ total (λ n. part_at l.first (last_of (get_or l.rows n no_row) (other l.keeper)) (row_worth l.keeper l.d l.paths.sets.now l.weights (get_or l.rows n no_row)) i) l.number-iterator
      ≡ at (numbers l.fn.out) i +ℤ through_rows (strategy_in l.form l.keeper l.d l.weights) l.fn.set.0 (l.first + i);
  kept : AreKept l.d l.paths.sets.now l.weights l.kept;
  sizes : (i : ℕ) → i < length l.out → unsigned_abs (at (numbers l.out) i) + length l.number-iterator * 2 ^ 77 ≤ 2 ^ 126 + 2 ^ 94;
}
