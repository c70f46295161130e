-- A gadget is a form for both seats.
use Rattle.std.proofs.Common.{◌≡◌, ℕ, zero, suc, ◌+◌, ◌<◌, ◌≤◌, List, [], ◌∷◌, length, map, Bool, true, false, cond, eqb, None, refl, sym, subst, arith}
use Rattle.std.specs.Prelude.{ℤ, slice_index}
use Rattle.std.specs.List.{All, AllByRecursion, range_with_len}
use Rattle.std.proofs.lemmas.List.Elements.{recursion_from_All, All-from_recursion}
use Rattle.lab_math.proofs.Elements.{all_map}
use Rattle.lab_defs_game.specs.Paths.{SetAction}
use Rattle.lab_defs_game.specs.Forms.{FormSet, Row, Form, sets_of, actions_in, parent_at, path_of}
use Rattle.lab_defs_game.specs.Seats.{other}
use Rattle.lab_defs_value.specs.Parents.{IsForm}
use Rattle.lab_defs_value.specs.Allowances.{Rule}
use Rattle.lab_defs_value.specs.Gadgets.{gadget_sets, terminate_step, entered_path, sets_entered, with_path, terminate_row, gadget}
use Rattle.lab_defs_value.specs.MatchingLaws.{FollowsRoots, GadgetFormLaw}
use Rattle.lab_defs_value.proofs.Chains.{IsPath, AreBelow, paths_follow, form_from}
use Rattle.lab_defs_value.proofs.GadgetSets.{keeps_path, has_path, ends_alone, keeper_sets, opponent_sets}
use Rattle.lab_defs_value.proofs.Entries.{entered_some, entered_below, entered_ok, ending_ok}
use Rattle.lab_defs_value.proofs.RoundedTables.{all_both_parts}

-- what holds of each image of a number holds of all
pub all_images : {X : Type 0} (P : X → Type 0) (h : ℕ → X) (s n : ℕ) → ((i : ℕ) → s ≤ i → i < s + n → P (h i)) → AllByRecursion P (map h (range_with_len s n))
all_images P h s zero e = tt
all_images P h s (suc n) e = (e s (omega arith) (omega arith), all_images P h (s + 1) n (λ i ge l. e i (omega (arith, ge)) (omega (arith, l))))

-- a path that goes from parents to children among some sets
abbrev IsGood : List FormSet → List SetAction → Type 0
IsGood sets = IsPath (actions_in sets) (parent_at sets) None

-- a form, by what the sets of the seat are
form_by : (h : Form) (seat : ℕ) (sets : List FormSet) → sets ≡ sets_of h seat → ((J : ℕ) → J < length (actions_in sets) → 1 ≤ slice_index (actions_in sets) J) → AreBelow sets
    → AllByRecursion (λ (z : Row). IsGood sets (path_of z seat)) h.rows → IsForm h seat
form_by h seat sets e some below paths =
    form_from h seat (subst (λ ss. (J : ℕ) → J < length (actions_in ss) → 1 ≤ slice_index (actions_in ss) J) e some) (subst AreBelow e below)
    (subst (λ ss. All (λ (z : Row). IsGood ss (path_of z seat)) h.rows) e (All-from_recursion (λ (z : Row). IsGood sets (path_of z seat)) h.rows paths))

-- what holds of the first rows of a gadget and of its further ones holds of all
rows_of : (P : Row → Type 0) (rule : Rule) (opponent roots factors : ℕ) (limits : ℕ → ℤ) (f : Form) →
    let H = λ (z : Row). with_path opponent (entered_path rule (length (gadget_sets rule roots)) (path_of z opponent)) z in
    (Q : Row → Type 0) → ((z : Row) → Q z → P (H z)) → AllByRecursion Q f.rows → ((i : ℕ) → i < roots → P (terminate_row rule opponent factors i (limits i)))
    → AllByRecursion P (gadget rule opponent roots factors limits f).rows
rows_of P rule opponent roots factors limits f Q first all last =
    let H = λ (z : Row). with_path opponent (entered_path rule (length (gadget_sets rule roots)) (path_of z opponent)) z in
    let further = λ (i : ℕ). terminate_row rule opponent factors i (limits i) in
    all_both_parts P (map H f.rows) (map further (range_with_len 0 roots)) (all_map Q P H f.rows first all) (all_images P further 0 roots (λ i ge l. last i (omega (arith, l))))

-- for the keeper it is a form where the subgame is one
keeper_form : (rule : Rule) (keeper roots factors : ℕ) (limits : ℕ → ℤ) (f : Form) → IsForm f keeper → IsForm (gadget rule (other keeper) roots factors limits f) keeper
keeper_form rule keeper roots factors limits f ok =
    let o = other keeper in
    let b = eqb keeper 1 in
    let sets = sets_of f keeper in
    let IsOne = λ (z : Row). IsGood sets (path_of z keeper) in
    form_by (gadget rule o roots factors limits f) keeper sets (sym (keeper_sets b rule roots f)) ok.some_action ok.parents
    (rows_of IsOne rule o roots factors limits f IsOne
    (λ z h. subst (IsGood sets) (sym (keeps_path b (entered_path rule (length (gadget_sets rule roots)) (path_of z o)) z)) h)
    (recursion_from_All IsOne f.rows (paths_follow f keeper ok))
    (λ i l. subst (IsGood sets) (sym (ends_alone b rule factors i (limits i))) tt))

-- the opponent's path of a further row
pub ends_at : (b : Bool) (rule : Rule) (factors i : ℕ) (limit : ℤ) → path_of (terminate_row rule (cond b 2 1) factors i limit) (cond b 2 1) ≡ terminate_step rule i ∷ []
ends_at true rule factors i limit = refl
ends_at false rule factors i limit = refl

-- for the opponent too, where it enters the subgame at root sets
opponent_form : (rule : Rule) (keeper roots factors : ℕ) (limits : ℕ → ℤ) (f : Form) → IsForm f (other keeper) → 1 ≤ roots → FollowsRoots f (other keeper) roots
    → IsForm (gadget rule (other keeper) roots factors limits f) (other keeper)
opponent_form rule keeper roots factors limits f ok some first =
    let o = other keeper in
    let b = eqb keeper 1 in
    let n = length (gadget_sets rule roots) in
    let old = sets_of f o in
    let sets = sets_entered rule roots old in
    form_by (gadget rule o roots factors limits f) o sets (sym (opponent_sets b rule roots f)) (entered_some rule roots old some ok.some_action) (entered_below rule roots old first ok.parents)
    (rows_of (λ (z : Row). IsGood sets (path_of z o)) rule o roots factors limits f (λ (z : Row). IsGood old (path_of z o))
    (λ z h. subst (IsGood sets) (sym (has_path b (entered_path rule n (path_of z o)) z)) (entered_ok rule roots old first (path_of z o) h))
    (recursion_from_All (λ (z : Row). IsGood old (path_of z o)) f.rows (paths_follow f o ok))
    (λ i l. subst (IsGood sets) (sym (ends_at b rule factors i (limits i))) (ending_ok rule roots old first i l)))

-- the law of gadgets as forms
pub gadget_form_law : GadgetFormLaw
gadget_form_law rule keeper roots factors limits f = (keeper_form rule keeper roots factors limits f, opponent_form rule keeper roots factors limits f)
