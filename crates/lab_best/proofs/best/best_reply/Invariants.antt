use Rattle.std.proofs.Common.{◌≡◌, ℕ, ◌<◌, ◌≤◌, ◌^◌, length, slice_index, unsigned_abs}
use Rattle.std.specs.List.{All}
use Rattle.lab_defs_game.specs.Seats.{other}
use Rattle.lab_defs_value.specs.Parents.{IsForm}
use Rattle.lab_form.specs.Forms.{sets_of, form_model}
use Rattle.lab_best.specs.Values.{strategy_in, numbers, AreBest, IsFirstBest}
use Rattle.lab_best.specs.Kept.{AreKept}
use Rattle.lab_best.proofs.best.best_reply.Given as goal

abbrev pub invariant-loop-number : goal.invariant-loop-number
invariant-loop-number l = record {
  places : length l.values ≡ length (sets_of l.form (other l.keeper));
  action_places : length l.actions ≡ length (sets_of l.form (other l.keeper));
  within : l.number ≤ length l.values;
  sound : l.number < length l.values → IsForm (form_model l.form) (other l.keeper);
  best : AreBest (strategy_in l.form l.keeper l.d l.weights) l.number (numbers l.values);
  first : (J : ℕ) → l.number ≤ J → J < length l.actions → IsFirstBest (strategy_in l.form l.keeper l.d l.weights) J (slice_index l.actions J);
  kept : AreKept l.d (sets_of l.form l.keeper) l.weights l.kept;
  sizes : All (λ w. unsigned_abs w.0 ≤ 2 ^ 94) l.values;
}

abbrev pub decreases-loop-number : goal.decreases-loop-number
decreases-loop-number l = l.number
