-- What a rule promises: which numbers it allows, what they keep, and how large its gadget is.
use Rattle.std.specs.Prelude.{◌≡◌, ℕ, ◌+◌, ◌*◌, ◌^◌, ◌<◌, ◌≤◌, ℤ, pos, ◌≤ℤ◌, List, length, map, All}
use Rattle.lab_defs_game.specs.Seats.{other}
use Rattle.lab_defs_game.specs.Forms as model
use Rattle.lab_defs_value.specs.Rounding.{share_size}
use Rattle.lab_defs_value.specs.Tables.{first_weight}
use Rattle.lab_defs_value.specs.Views.{View, path_set, root_limit, backed_up_to}
use Rattle.lab_form.specs.Forms.{FormValue, sets_of, weight_count}
use Rattle.lab_units.specs.declared.worth.Worth.{Worth}

-- ---- numbers

-- numbers as worths
abbrev pub worths_of : List ℕ → List Worth
worths_of numbers = map (λ n. record { 0 = pos n }) numbers

-- worths, none below 0, as numbers
abbrev pub sizes_of : List Worth → List ℕ
sizes_of worths = map (λ w. share_size w.0) worths

-- worths that may be allowances: from 0 to 2^123
abbrev pub AreAllowances : List Worth → Type 0
AreAllowances worths = All (λ w. (pos 0 ≤ℤ w.0) × (w.0 ≤ℤ pos (2 ^ 123))) worths

-- ---- the law of rules

-- allowances keep the bounds: where each root set's value is at most its bound and allowance together, the value that is backed up to the first set of the path is at most its bound
abbrev pub KeepsBounds : View → List ℕ → Type 0
KeepsBounds v allowances = (W : ℕ → ℤ) → ((i : ℕ) → i < v.roots → W i ≤ℤ root_limit v allowances i) → backed_up_to v W 0 ≤ℤ (path_set v 0).bound

-- ---- gadgets

-- a form has room for a gadget: for the keeper's sets, for the opponent's with one more for each root set and one more, and for the rows with one more for each root set; and no number of the gadget is too large for 32 bits
pub record HasRoom (subgame : FormValue) (keeper roots : ℕ) (f : FormValue) : Type 0 where
  pub keepers : length (sets_of subgame keeper) ≤ f.set_room
  pub opponents : length (sets_of subgame (other keeper)) + roots + 1 ≤ f.set_room
  pub rows : length subgame.rows + roots ≤ f.row_room
  pub few : f.set_room < 2 ^ 32
  pub weights : weight_count (sets_of subgame (other keeper)) + 2 * roots < 2 ^ 32

-- how many weights a seat has in a form
abbrev pub weights_in : model.Form → ℕ → ℕ
weights_in f seat = first_weight (model.actions_of f seat) (length (model.actions_of f seat))

-- a gadget on a view: the keeper's sets as they are, at most one more set of the opponent for each root set and one more, at most one more row for each root set, and at most two more weights of the opponent for each root set
pub record IsGadgetOf (v : View) (gadget : model.Form) : Type 0 where
  pub keepers : model.sets_of gadget v.keeper ≡ model.sets_of v.form v.keeper
  pub opponents : length (model.sets_of gadget (other v.keeper)) ≤ length (model.sets_of v.form (other v.keeper)) + v.roots + 1
  pub rows : length gadget.rows ≤ length v.form.rows + v.roots
  pub weights : weights_in gadget (other v.keeper) ≤ weights_in v.form (other v.keeper) + 2 * v.roots
