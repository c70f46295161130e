-- Paths of a form, step by step.
use Rattle.std.proofs.Common.{◌≡◌, ℕ, ◌+◌, ◌<◌, ◌≤◌, List, [], ◌∷◌, ◌++◌, cond, take, length, get_or, Option, Some, None, ap, ◌∙◌, subst, sym, arith}
use Rattle.std.specs.Prelude.{nat_le}
use Rattle.std.proofs.lemmas.List.{get_or-map, get_or-take, length-take-le}
use Rattle.lab_defs_game.specs.Forms as model
use Rattle.lab_defs_game.specs.Paths.{SetAction}
use Rattle.lab_defs_game.proofs.FormLemmas.{count_push}
use Rattle.lab_form.specs.declared.items.SetId.{SetId}
use Rattle.lab_form.specs.declared.items.FormSet.{FormSet}
use Rattle.lab_form.specs.Forms.{actions_in, sets_model, taken_model, whole_path, IsStepBelow, AreSets}
use Rattle.lab_form.specs.Columns.{place_of_step}
use Rattle.lab_rule.specs.Factors.{decision_at}
use Rattle.lab_form.proofs.CallerLemmas.{chain_step, model_length, model_parent, parents_below}

-- what is read where there is no set
abbrev pub no_set : FormSet
no_set = record { parent = None; actions = 0; first_weight = 0 }

-- the number of actions of a set
pub actions_at : (sets : List FormSet) (i : ℕ) (d : FormSet) → i < length sets → get_or (actions_in sets) i 0 ≡ (get_or sets i d).actions
actions_at sets i d l = get_or-map (λ (s : FormSet). s.actions) sets i d 0 l

-- a step among the first sets is one among all, and its set comes before
pub step_earlier : (sets : List FormSet) (i : ℕ) (o : Option (SetId × ℕ)) → i ≤ length sets → IsStepBelow (take i sets) o → IsStepBelow sets o × (place_of_step o ≤ i)
step_earlier sets i None le b = (tt, omega arith)
step_earlier sets i (Some t) le b =
    let low : t.0.0 < i = omega (arith, b.0, length-take-le i sets le) in
    let short : t.0.0 < length (take i sets) = b.0 in
    let same : get_or (actions_in (take i sets)) t.0.0 0 ≡ get_or (actions_in sets) t.0.0 0 =
    actions_at (take i sets) t.0.0 no_set short ∙ ap (λ (s : FormSet). s.actions) (get_or-take i sets t.0.0 no_set low) ∙ sym (actions_at sets t.0.0 no_set (omega (arith, low, le))) in
    ((omega (arith, low, le), subst (λ n. t.1 < n) same b.1), omega (arith, low))

-- the parent of a set is a step that is there, at an earlier set
pub parent_there : (sets : List FormSet) (i : ℕ) (d : FormSet) → AreSets sets → i < length sets → IsStepBelow sets (get_or sets i d).parent × (place_of_step (get_or sets i d).parent ≤ i)
parent_there sets i d ok l = step_earlier sets i (get_or sets i d).parent (omega (arith, l)) (ok i d l).parent

-- the path that ends with a step is that which ends with the parent of its set, with the step
pub path_push : (sets : List FormSet) (t : SetId × ℕ) (d : FormSet) → AreSets sets → t.0.0 < length sets → whole_path sets (Some t) ≡ whole_path sets (get_or sets t.0.0 d).parent ++ taken_model t ∷ []
path_push sets t d ok l =
    chain_step (sets_model sets) (taken_model t) (parents_below sets ok) (omega (arith, l, model_length sets))
    ∙ ap (λ o. model.chain (sets_model sets) o ++ taken_model t ∷ []) (model_parent sets t.0.0 d l)

-- one more decision where the set of a step decides
pub decisions_push : (sets : List FormSet) (path : List SetAction) (t : SetId × ℕ) → t.0.0 < length sets
    → model.deciding (actions_in sets) (path ++ taken_model t ∷ []) ≡ model.deciding (actions_in sets) path + decision_at sets t.0.0
decisions_push sets path t l =
    count_push (λ (u : SetAction). model.decides (actions_in sets) u.set) path (taken_model t)
    ∙ ap (λ n. model.deciding (actions_in sets) path + cond (nat_le 2 n) 1 0) (actions_at sets t.0.0 no_set l)
