-- Forms as sets and rows are added.
use Rattle.std.proofs.Common.{◌≡◌, ℕ, ℤ, zero, suc, ◌<◌, ◌≤◌, List, [], ◌∷◌, ◌++◌, Bool, true, false, cond, eqb, map, take, length, get_or, refl, ap, ◌∙◌, arith}
use Rattle.lab_defs_game.specs.Seats.{other}
use Rattle.lab_defs_value.specs.Allowances.{Rule}
use Rattle.lab_form.specs.declared.items.FormSet.{FormSet}
use Rattle.lab_form.specs.declared.items.FormRow.{FormRow}
use Rattle.lab_form.specs.Forms.{FormValue, sets_of, weight_count, with_set, empty_form, AreSets}
use Rattle.lab_rule.specs.Gadgets.{with_sets, with_rows, opponent_sets, entered_row, further_rows}
use Rattle.lab_rule.proofs.StepLemmas.{no_set}
use Rattle.lab_rule.proofs.GadgetRows.{sets_value, gadget_value}

-- the sets of a seat once they are given
pub sets_with : (f : FormValue) (seat : ℕ) (sets : List FormSet) → sets_of (with_sets f seat sets) seat ≡ sets
sets_with f seat sets = at (eqb seat 1)
  where
    given : Bool → FormValue
    given b = cond b (record { sets1 = sets; sets2 = f.sets2; rows = f.rows; set_room = f.set_room; row_room = f.row_room }) (record { sets1 = f.sets1; sets2 = sets; rows = f.rows; set_room = f.set_room; row_room = f.row_room })

    at : (b : Bool) → cond b (given b).sets1 (given b).sets2 ≡ sets
    at true = refl
    at false = refl

-- the room stays
pub room_with : (f : FormValue) (seat : ℕ) (sets : List FormSet) → (with_sets f seat sets).set_room ≡ f.set_room
room_with f seat sets = at (eqb seat 1)
  where
    given : Bool → FormValue
    given b = cond b (record { sets1 = sets; sets2 = f.sets2; rows = f.rows; set_room = f.set_room; row_room = f.row_room }) (record { sets1 = f.sets1; sets2 = sets; rows = f.rows; set_room = f.set_room; row_room = f.row_room })

    at : (b : Bool) → (given b).set_room ≡ f.set_room
    at true = refl
    at false = refl

-- one more set after those that are given
pub with_push : (f : FormValue) (seat : ℕ) (sets : List FormSet) (s : FormSet) → with_set (with_sets f seat sets) seat s ≡ with_sets f seat (sets ++ s ∷ [])
with_push f seat sets s = at (eqb seat 1)
  where
    given : Bool → List FormSet → FormValue
    given b sets = cond b (record { sets1 = sets; sets2 = f.sets2; rows = f.rows; set_room = f.set_room; row_room = f.row_room }) (record { sets1 = f.sets1; sets2 = sets; rows = f.rows; set_room = f.set_room; row_room = f.row_room })

    at : (b : Bool) → cond b (record { sets1 = (given b sets).sets1 ++ s ∷ []; sets2 = (given b sets).sets2; rows = (given b sets).rows; set_room = (given b sets).set_room; row_room = (given b sets).row_room })
        (record { sets1 = (given b sets).sets1; sets2 = (given b sets).sets2 ++ s ∷ []; rows = (given b sets).rows; set_room = (given b sets).set_room; row_room = (given b sets).row_room }) ≡ given b (sets ++ s ∷ [])
    at true = refl
    at false = refl

-- what is given anew
pub with_again : (f : FormValue) (seat : ℕ) (sets more : List FormSet) → with_sets (with_sets f seat sets) seat more ≡ with_sets f seat more
with_again f seat sets more = at (eqb seat 1)
  where
    given : Bool → FormValue → List FormSet → FormValue
    given b f sets = cond b (record { sets1 = sets; sets2 = f.sets2; rows = f.rows; set_room = f.set_room; row_room = f.row_room }) (record { sets1 = f.sets1; sets2 = sets; rows = f.rows; set_room = f.set_room; row_room = f.row_room })

    at : (b : Bool) → given b (given b f sets) more ≡ given b f more
    at true = refl
    at false = refl

-- the weights of the first sets are among those of all
weights_taken : (sets : List FormSet) (i : ℕ) → weight_count (take i sets) ≤ weight_count sets
weights_taken [] zero = omega arith
weights_taken [] (suc i) = omega arith
weights_taken (s ∷ sets) zero = omega arith
weights_taken (s ∷ sets) (suc i) = let rest = weights_taken sets i in omega (arith, rest)

-- so the place of a set's first weight is
pub first_weight_low : (sets : List FormSet) (i : ℕ) → AreSets sets → i < length sets → (get_or sets i no_set).first_weight ≤ weight_count sets
first_weight_low sets i ok l = let few = weights_taken sets i in let first = (ok i no_set l).first in omega (arith, few, first)

-- ---- the whole form

-- the sets of both seats, one after the other
pub sets_written : (rule : Rule) (f a b c d : FormValue) (keeper o roots set_room row_room : ℕ) (own others first : List FormSet) → o ≡ other keeper → own ≡ sets_of f keeper → others ≡ sets_of f o → a ≡ empty_form set_room row_room
    → b ≡ with_sets a keeper own → c ≡ with_sets b o first → d ≡ with_sets c o (opponent_sets rule roots others) → d ≡ sets_value rule f keeper roots set_room row_room
sets_written rule f a b c d keeper o roots set_room row_room own others first eo es et ea eb ec ed =
    ed ∙ ap (λ (g : FormValue). with_sets g o (opponent_sets rule roots others)) ec ∙ with_again b o first (opponent_sets rule roots others)
    ∙ ap (λ (g : FormValue). with_sets g o (opponent_sets rule roots others)) (eb ∙ ap (λ (g : FormValue). with_sets g keeper own) ea ∙ ap (with_sets (empty_form set_room row_room) keeper) es)
    ∙ ap (λ (ss : List FormSet). with_sets (with_sets (empty_form set_room row_room) keeper (sets_of f keeper)) o (opponent_sets rule roots ss)) et
    ∙ ap (λ k. with_sets (with_sets (empty_form set_room row_room) keeper (sets_of f keeper)) k (opponent_sets rule roots (sets_of f k))) eo

-- and the rows
pub rows_written : (rule : Rule) (f d e g : FormValue) (keeper o roots factors : ℕ) (limits : ℕ → ℤ) (set_room row_room : ℕ) (rows : List FormRow) → o ≡ other keeper → rows ≡ f.rows → d ≡ sets_value rule f keeper roots set_room row_room
    → e ≡ with_rows d (map (entered_row rule o roots) rows) → g ≡ with_rows e (e.rows ++ further_rows rule (other keeper) factors limits roots) → g ≡ gadget_value rule f keeper roots factors limits set_room row_room
rows_written rule f d e g keeper o roots factors limits set_room row_room rows eo er ed ee eg =
    eg ∙ ap (λ (h : FormValue). with_rows h (h.rows ++ further_rows rule (other keeper) factors limits roots)) ee
    ∙ ap (λ (h : FormValue). with_rows h (map (entered_row rule o roots) rows ++ further_rows rule (other keeper) factors limits roots)) ed
    ∙ ap (λ (rs : List FormRow). with_rows (sets_value rule f keeper roots set_room row_room) (map (entered_row rule o roots) rs ++ further_rows rule (other keeper) factors limits roots)) er
    ∙ ap (λ k. with_rows (sets_value rule f keeper roots set_room row_room) (map (entered_row rule k roots) f.rows ++ further_rows rule (other keeper) factors limits roots)) eo
