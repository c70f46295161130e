-- What the code reads of a view.
use Rattle.std.proofs.Common.{◌≡◌, ℕ, ◌<◌, ◌≤◌, ◌^◌, List, length, get_or, None, ap, ◌∙◌, sym, subst, arith, pos}
use Rattle.std.specs.Prelude.{unsigned_abs}
use Rattle.std.specs.Option.{option_map}
use Rattle.std.proofs.lemmas.List.{get_or-map, length-map}
use Rattle.lab_defs_game.specs.Forms as model
use Rattle.lab_defs_game.specs.Seats.{other}
use Rattle.lab_defs_value.specs.Views as views
use Rattle.lab_form.specs.declared.items.FormSet.{FormSet}
use Rattle.lab_form.specs.Forms.{sets_of, taken_model, form_model}
use Rattle.lab_form.proofs.CallerLemmas.{model_parent, form_sets, form_actions}
use Rattle.lab_rule.specs.declared.path.PathSet.{PathSet}
use Rattle.lab_rule.specs.declared.path.PathStep.{PathStep}
use Rattle.lab_rule.specs.declared.view.View.{View}
use Rattle.lab_rule.specs.Paths.{path_set_model, path_step_model}
use Rattle.lab_rule.specs.Views.{view_model}
use Rattle.lab_rule.specs.Gadgets.{RootsFirst}
use Rattle.lab_rule.proofs.StepLemmas.{no_set}
use Rattle.lab_rule.proofs.ViewProps.{view_is}

-- what is read past the end of a path, and of its steps
abbrev pub no_path_set : PathSet
no_path_set = record { set = record { 0 = 0 }; bound = record { 0 = pos 0 }; follows = None }

abbrev pub no_path_step : PathStep
no_path_step = record { from = 0; action = 0; through = record { 0 = pos 0 }; count = 0 }

-- a view holds
pub valid : (v : View) → views.IsView (view_model v)
valid v = view_is (view_model v) v.valid

-- a set of the path, and a step, as the definitions have them
pub path_set_is : (v : View) (i : ℕ) → i < length v.sets.now → views.path_set (view_model v) i ≡ path_set_model (get_or v.sets.now i no_path_set)
path_set_is v i l = get_or-map path_set_model v.sets.now i no_path_set (path_set_model no_path_set) l

pub path_step_is : (v : View) (k : ℕ) → k < length v.steps.now → views.path_step (view_model v) k ≡ path_step_model (get_or v.steps.now k no_path_step)
path_step_is v k l = get_or-map path_step_model v.steps.now k no_path_step (path_step_model no_path_step) l

-- there are as many
pub sets_many : (v : View) → length (view_model v).sets ≡ length v.sets.now
sets_many v = length-map v.sets.now path_set_model

pub steps_many : (v : View) → length (view_model v).steps ≡ length v.steps.now
steps_many v = length-map v.steps.now path_step_model

-- no bound is too large
pub bound_small : (v : View) (i : ℕ) → i < length v.sets.now → unsigned_abs (get_or v.sets.now i no_path_set).bound.0 ≤ 2 ^ 117
bound_small v i l =
    subst (λ (s : views.PathSet). unsigned_abs s.bound ≤ 2 ^ 117) (path_set_is v i l) ((valid v).bounds i (path_set_model no_path_set) (omega (arith, l, sets_many v)))

-- the root sets are among those of the path
pub roots_low : (v : View) → v.roots ≤ length v.sets.now
roots_low v = let low = (valid v).roots in omega (arith, low, sets_many v)

-- only the first sets of the opponent follow none
pub roots_first : (v : View) → RootsFirst v.roots (sets_of v.form.now (other v.keeper))
roots_first v i l e =
    let f = v.form.now in
    let o = other v.keeper in
    let sets = sets_of f o in
    let there : i < length (model.actions_of (form_model f) o) = subst (λ n. i < n) (sym (ap length (form_actions f o) ∙ length-map sets (λ (s : FormSet). s.actions))) l in
    let none : model.parent_of (form_model f) o i ≡ None = ap (λ (ss : List model.FormSet). model.parent_at ss i) (form_sets f o) ∙ model_parent sets i no_set l ∙ ap (option_map taken_model) e in
    ((valid v).first i there).0 none
