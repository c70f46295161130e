use Rattle.std.proofs.Common.{◌≡◌, ◌-◌, ◌<◌, ◌≤◌, ◌^◌, ◌⊎◌, slice_index}
use Rattle.lab_defs_game.specs.Seats.{other}
use Rattle.lab_defs_value.specs.Bounds.{at, through}
use Rattle.lab_defs_value.specs.Parents.{IsForm}
use Rattle.lab_defs_value.specs.Laws.{worth_sizes}
use Rattle.lab_form.specs.Forms.{sets_of, form_model}
use Rattle.lab_table.specs.Tables.{seat_actions}
use Rattle.lab_best.specs.Parts.{IsFirstGreatest}
use Rattle.lab_best.specs.Values.{strategy_in, numbers}
use Rattle.lab_best.specs.Kept.{AreKept}
use Rattle.lab_best.proofs.greatest.best_at.Given as goal

abbrev pub invariant-loop-first : goal.invariant-loop-first
invariant-loop-first l = record {
  all : l.actions ≡ slice_index (seat_actions l.form (other l.keeper)) l.set.0;
  within : l.first ≤ l.actions;
  greatest : (l.first ≡ 0) ⊎ IsFirstGreatest l.first (through (strategy_in l.form l.keeper l.d l.weights) (at (numbers l.values)) l.set.0) l.best.0.0 l.best.1;
  kept : AreKept l.d (sets_of l.form l.keeper) l.weights l.kept;
  sound : 0 < l.first → IsForm (form_model l.form) (other l.keeper);
  small : 0 < l.first → worth_sizes (strategy_in l.form l.keeper l.d l.weights) ≤ 2 ^ 94;
}

abbrev pub decreases-loop-first : goal.decreases-loop-first
decreases-loop-first l = l.actions - l.first
