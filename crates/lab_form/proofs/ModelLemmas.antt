-- Forms of the program, as the definitions have them.
use Rattle.std.proofs.Common.{◌≡◌, ℕ, zero, suc, ◌<◌, ◌≤◌, Bool, true, false, cond, eqb, List, take, length, get_or, Option, Some, None, refl, sym, ap, ◌∙◌, subst, arith}
use Rattle.std.specs.Option.{option_map}
use Rattle.std.proofs.lemmas.List.{get_or-map, get_or-take, length-map, length-take-le, take-map}
use Rattle.std.proofs.lemmas.List.Elements.{All-map}
use Rattle.lab_defs_game.specs.Paths.{last_step}
use Rattle.lab_defs_game.specs.Forms as model
use Rattle.lab_defs_game.proofs.GameLemmas.{last_after_push}
use Rattle.lab_defs_value.specs.Parents as value
use Rattle.lab_form.specs.declared.items.SetId.{SetId}
use Rattle.lab_form.specs.declared.items.FormSet.{FormSet}
use Rattle.lab_form.specs.declared.items.FormRow.{FormRow}
use Rattle.lab_form.specs.Forms.{FormValue, IsStepBelow, AreSets, AreRows, IsNextRow, sets_of, last_of, actions_in, taken_model, sets_model, whole_path, row_model, form_model}
use Rattle.lab_form.proofs.PathLemmas.{chain_step, model_length, model_actions, model_parent, parents_below}

-- ---- steps and paths

-- a step at the first sets is one at a number of sets
pub step_there : (i : ℕ) (sets : List FormSet) (step : Option (SetId × ℕ)) → i ≤ length sets → IsStepBelow (take i sets) step → value.IsStepBelow (actions_in sets) i (option_map taken_model step)
step_there i sets None l b = tt
step_there i sets (Some t) l b =
    let w : t.0.0 < i = subst (λ n. t.0.0 < n) (length-take-le i sets l) b.0 in
    (w, subst (λ n. t.1 < n) (ap (λ ns. get_or ns t.0.0 0) (sym (take-map (λ (s : FormSet). s.actions) i sets)) ∙ get_or-take i (actions_in sets) t.0.0 0 w) b.1)

-- so is a step at the sets
step_below : (sets : List FormSet) (step : Option (SetId × ℕ)) → IsStepBelow sets step → value.IsStepBelow (actions_in sets) (length sets) (option_map taken_model step)
step_below sets None b = tt
step_below sets (Some t) b = b

-- parents are actions at earlier sets
pub model_below : (sets : List FormSet) → AreSets sets → (J : ℕ) → J < length (model.actions_in (sets_model sets)) → value.IsStepBelow (model.actions_in (sets_model sets)) J (model.parent_at (sets_model sets) J)
model_below sets ok J l =
    let none : FormSet = record { parent = None; actions = 0; first_weight = 0 } in
    let there : J < length sets = subst (λ n. J < n) (ap length (model_actions sets) ∙ length-map sets (λ (s : FormSet). s.actions)) l in
    let o = (get_or sets J none).parent in
    subst (λ ns. value.IsStepBelow ns J (model.parent_at (sets_model sets) J)) (sym (model_actions sets))
    (subst (value.IsStepBelow (actions_in sets) J) (sym (model_parent sets J none there)) (step_there J sets o (omega (arith, there)) (ok J none there).parent))

-- the last step of a path is the step that it was made for
pub whole_path_last : (sets : List FormSet) → AreSets sets → (step : Option (SetId × ℕ)) → IsStepBelow sets step → last_step (whole_path sets step) ≡ option_map taken_model step
whole_path_last sets ok None b = at (length (sets_model sets))
  where
    at : (n : ℕ) → last_step (model.chain_within (sets_model sets) n None) ≡ None
    at zero = refl
    at (suc n) = refl
whole_path_last sets ok (Some t) b =
    ap last_step (chain_step (sets_model sets) (taken_model t) (parents_below sets ok) (omega (arith, b.0, model_length sets)))
    ∙ last_after_push None (model.chain (sets_model sets) (model.parent_at (sets_model sets) t.0.0)) (taken_model t)

-- and the path is the chain of parents of its last step
pub whole_path_chain : (sets : List FormSet) → AreSets sets → (step : Option (SetId × ℕ)) → IsStepBelow sets step → value.IsChain (sets_model sets) (whole_path sets step)
whole_path_chain sets ok step b =
    let last = whole_path_last sets ok step b in
    record {
      there =
          subst (value.IsStepBelow (model.actions_in (sets_model sets)) (length (sets_model sets))) (sym last)
          (subst (λ ns. value.IsStepBelow ns (length (sets_model sets)) (option_map taken_model step)) (sym (model_actions sets))
          (subst (λ n. value.IsStepBelow (actions_in sets) n (option_map taken_model step)) (sym (model_length sets)) (step_below sets step b)));
      parents = ap (model.chain (sets_model sets)) (sym last);
    }

-- ---- forms

-- the sets of a seat
pub form_sets : (f : FormValue) (seat : ℕ) → model.sets_of (form_model f) seat ≡ sets_model (sets_of f seat)
form_sets f seat = at (eqb seat 1)
  where
    at : (b : Bool) → cond b (sets_model f.sets1) (sets_model f.sets2) ≡ sets_model (cond b f.sets1 f.sets2)
    at true = refl
    at false = refl

-- their numbers of actions
pub form_actions : (f : FormValue) (seat : ℕ) → model.actions_of (form_model f) seat ≡ actions_in (sets_of f seat)
form_actions f seat = ap model.actions_in (form_sets f seat) ∙ model_actions (sets_of f seat)

-- the path of a seat on a row
pub row_path : (f : FormValue) (seat : ℕ) (r : FormRow) → model.path_of (row_model f.sets1 f.sets2 r) seat ≡ whole_path (sets_of f seat) (last_of r seat)
row_path f seat r = at (eqb seat 1)
  where
    at : (b : Bool) → cond b (whole_path f.sets1 (get_or r.last 0 None)) (whole_path f.sets2 (get_or r.last 1 None)) ≡ whole_path (cond b f.sets1 f.sets2) (cond b (get_or r.last 0 None) (get_or r.last 1 None))
    at true = refl
    at false = refl

-- the last step of a seat on a row is there
pub seat_step : (f : FormValue) (seat : ℕ) (r : FormRow) → IsNextRow f.sets1 f.sets2 r → IsStepBelow (sets_of f seat) (last_of r seat)
seat_step f seat r next = at (eqb seat 1)
  where
    at : (b : Bool) → IsStepBelow (cond b f.sets1 f.sets2) (cond b (get_or r.last 0 None) (get_or r.last 1 None))
    at true = next.one
    at false = next.two

-- a form of the program is well made as a seat sees it
pub form_is : (f : FormValue) (seat : ℕ) → AreSets (sets_of f seat) → AreRows f.sets1 f.sets2 f.rows → value.IsForm (form_model f) seat
form_is f seat ok rows =
    let sets = sets_of f seat in
    let some : (J : ℕ) → J < length (model.actions_in (sets_model sets)) → 1 ≤ get_or (model.actions_in (sets_model sets)) J 0 = λ J l.
    let none : FormSet = record { parent = None; actions = 0; first_weight = 0 } in
    let there : J < length sets = subst (λ n. J < n) (ap length (model_actions sets) ∙ length-map sets (λ (s : FormSet). s.actions)) l in
    subst (λ n. 0 < n) (sym (ap (λ ns. get_or ns J 0) (model_actions sets) ∙ get_or-map (λ (s : FormSet). s.actions) sets J none 0 there)) (ok J none there).some in
    record {
      some_action = subst (λ (ss : List model.FormSet). (J : ℕ) → J < length (model.actions_in ss) → 1 ≤ get_or (model.actions_in ss) J 0) (sym (form_sets f seat)) some;
      parents = subst (λ (ss : List model.FormSet). (J : ℕ) → J < length (model.actions_in ss) → value.IsStepBelow (model.actions_in ss) J (model.parent_at ss J)) (sym (form_sets f seat)) (model_below sets ok);
      paths = All-map (λ (z : model.Row). value.IsChain (model.sets_of (form_model f) seat) (model.path_of z seat)) (row_model f.sets1 f.sets2) f.rows
          (λ i d l.
          let r = get_or f.rows i d in
          subst (λ (ss : List model.FormSet). value.IsChain ss (model.path_of (row_model f.sets1 f.sets2 r) seat)) (sym (form_sets f seat))
          (subst (value.IsChain (sets_model sets)) (sym (row_path f seat r)) (whole_path_chain sets ok (last_of r seat) (seat_step f seat r (rows i d l)))));
    }
