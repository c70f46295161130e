-- What is known of the best-response value at a set of a form once all its actions were looked at.
use Rattle.std.proofs.Common.{◌≡◌, ℕ, ◌+◌, ◌^◌, ◌<◌, ◌≤◌, ◌⊎◌, inl, inr, ℤ, List, length, None, unsigned_abs, sym, ap, ◌∙◌, subst, arith}
use Rattle.std.specs.Prelude.{slice_index}
use Rattle.std.proofs.lemmas.List.{get_or-map}
use Rattle.lab_defs_game.specs.Seats.{other}
use Rattle.lab_defs_value.specs.Parents.{IsForm}
use Rattle.lab_defs_value.specs.Laws.{worth_sizes}
use Rattle.lab_defs_value.specs.Replies.{reply_sets}
use Rattle.lab_defs_value.specs.BestValues.{best_response_value}
use Rattle.lab_defs_value.specs.Bounds.{at, through}
use Rattle.lab_form.specs.declared.items.FormSet.{FormSet}
use Rattle.lab_form.specs.Forms.{FormValue, AreSets, sets_of, form_model}
use Rattle.lab_form.proofs.CallerLemmas.{form_actions}
use Rattle.lab_table.specs.Tables.{seat_actions}
use Rattle.lab_best.specs.Parts.{IsFirstGreatest}
use Rattle.lab_best.specs.Values.{strategy_in, AreBest, IsFirstBest}
use Rattle.lab_best.proofs.FormLemmas.{replies_length}
use Rattle.lab_best.proofs.BestLemmas.{greatest_is_best, best_small}

-- the form is sound, this is the best-response value, this the first action that backs it up, and the value is small
pub record IsFound (f : FormValue) (keeper grid : ℕ) (weights : List ℕ) (J : ℕ) (b : ℤ) (a : ℕ) : Type 0 where
  pub sound : IsForm (form_model f) (other keeper)
  pub best : b ≡ best_response_value (strategy_in f keeper grid weights) J
  pub first : IsFirstBest (strategy_in f keeper grid weights) J a
  pub small : unsigned_abs b ≤ 2 ^ 94

-- the greatest of what all actions of a set back up is found, by the best-response values of the sets after it
pub best_found : (f : FormValue) (keeper grid : ℕ) (weights : List ℕ) (ns : List ℤ) (J : ℕ) (b : ℤ) (a first : ℕ) → AreSets (sets_of f (other keeper)) → J < length (sets_of f (other keeper)) → AreBest (strategy_in f keeper grid weights) (J + 1) ns
    → (first ≡ 0) ⊎ IsFirstGreatest first (through (strategy_in f keeper grid weights) (at ns) J) b a → (0 < first → IsForm (form_model f) (other keeper)) → (0 < first → worth_sizes (strategy_in f keeper grid weights) ≤ 2 ^ 94)
    → first ≡ slice_index (seat_actions f (other keeper)) J → IsFound f keeper grid weights J b a
best_found f keeper grid weights ns J b a first order there later greatest sound small all = at_first greatest
  where
    some : 0 < first
    some =
        let none : FormSet = record { parent = None; actions = 0; first_weight = 0 } in
        omega (arith, (order J none there).some, all, get_or-map (λ (s : FormSet). s.actions) (sets_of f (other keeper)) J none 0 there)

    at_first : (first ≡ 0) ⊎ IsFirstGreatest first (through (strategy_in f keeper grid weights) (at ns) J) b a → IsFound f keeper grid weights J b a
    at_first (inl e) = absurd (omega (arith, e, some))
    at_first (inr g) =
        let s = strategy_in f keeper grid weights in
        let ok = sound some in
        let l : J < length (reply_sets s) = omega (arith, there, replies_length f keeper grid weights) in
        let count : first ≡ slice_index (reply_sets s) J = all ∙ ap (λ ns. slice_index ns J) (sym (form_actions f (other keeper))) in
        let r = greatest_is_best s ok ns J l later b a (subst (λ n. IsFirstGreatest n (through s (at ns) J) b a) count g) in
        record {
          sound = ok;
          best = r.0;
          first = r.1;
          small = subst (λ z. unsigned_abs z ≤ 2 ^ 94) (sym r.0) (best_small s ok J l (small some));
        }
