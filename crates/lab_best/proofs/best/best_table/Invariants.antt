use Rattle.std.proofs.Common.{◌≡◌, ◌<◌, ◌≤◌, ◌^◌, length, unsigned_abs}
use Rattle.std.specs.List.{All}
use Rattle.lab_defs_game.specs.Seats.{other}
use Rattle.lab_defs_value.specs.Parents.{IsForm}
use Rattle.lab_form.specs.Forms.{sets_of, form_model}
use Rattle.lab_best.specs.Values.{strategy_in, numbers, AreBest}
use Rattle.lab_best.specs.Kept.{AreKept}
use Rattle.lab_best.proofs.best.best_table.Given as goal

abbrev pub invariant-loop-number : goal.invariant-loop-number
invariant-loop-number l = record {
  places : length l.out ≡ length (sets_of l.form (other l.keeper));
  within : l.number ≤ length l.out;
  sound : l.number < length l.out → IsForm (form_model l.form) (other l.keeper);
  best : AreBest (strategy_in l.form l.keeper l.d l.weights) l.number (numbers l.out);
  kept : AreKept l.d (sets_of l.form l.keeper) l.weights l.kept;
  sizes : All (λ w. unsigned_abs w.0 ≤ 2 ^ 94) l.out;
}

abbrev pub decreases-loop-number : goal.decreases-loop-number
decreases-loop-number l = l.number
