-- Forms, as the program has them: with parents and last sets in place of whole paths.
use Rattle.std.specs.Prelude.{ℕ, ◌^◌, ◌≡◌, ◌<◌, ◌≤◌, List, [], ◌∷◌, ◌++◌, length, map, take, slice_index, slice_index_or, Option, Some, None, ⊤, if◌then◌else◌, ◌==◌}
use Rattle.std.specs.Option.{option_map}
use Rattle.lab_math.specs.Sums.{sum_over}
use Rattle.lab_defs_game.specs.Paths.{SetAction}
use Rattle.lab_defs_game.specs.Forms as model
use Rattle.lab_defs_value.specs.Tables.{weights_of}
use Rattle.lab_form.specs.declared.items.SetId.{SetId}
use Rattle.lab_form.specs.declared.items.FormSet.{FormSet}
use Rattle.lab_form.specs.declared.items.FormRow.{FormRow}

-- the sets of each seat, the rows, and for how many sets of a seat and for how many rows there is room
pub record FormValue : Type 0 where
  pub sets1 : List FormSet
  pub sets2 : List FormSet
  pub rows : List FormRow
  pub set_room : ℕ
  pub row_room : ℕ

-- the sets of a seat
abbrev pub sets_of : FormValue → ℕ → List FormSet
sets_of f seat = if seat == 1 then f.sets1 else f.sets2

-- the numbers of actions of sets
abbrev pub actions_in : List FormSet → List ℕ
actions_in sets = map (λ s. s.actions) sets

-- how many weights these sets have in all: as many as actions, where they decide
abbrev pub weight_count : List FormSet → ℕ
weight_count sets = sum_over weights_of (actions_in sets)

-- ---- what a form keeps

-- a step that is there: an action of a set before this number
abbrev pub IsStepBelow : List FormSet → Option (SetId × ℕ) → Type 0
IsStepBelow sets None = ⊤
IsStepBelow sets (Some t) = (t.0.0 < length sets) × (t.1 < slice_index_or (actions_in sets) t.0.0 0)

-- a set that may come next after these: it has an action, what it follows is there, and its weights come next
pub record IsNextSet (sets : List FormSet) (s : FormSet) : Type 0 where
  pub some : 0 < s.actions
  pub parent : IsStepBelow sets s.parent
  pub first : s.first_weight ≡ weight_count sets

-- each set may come after those before it
abbrev pub AreSets : List FormSet → Type 0
AreSets sets = (i : ℕ) (d : FormSet) → i < length sets → IsNextSet (take i sets) (slice_index_or sets i d)

-- each set says the place of its first weight in 32 bits
abbrev pub AreShort : List FormSet → Type 0
AreShort sets = (i : ℕ) (d : FormSet) → i < length sets → (slice_index_or sets i d).first_weight < 2 ^ 32

-- the last step of a seat on a row
abbrev pub last_of : FormRow → ℕ → Option (SetId × ℕ)
last_of r seat = if seat == 1 then slice_index_or r.last 0 None else slice_index_or r.last 1 None

-- a row whose last steps are there
pub record IsNextRow (sets1 sets2 : List FormSet) (r : FormRow) : Type 0 where
  pub one : IsStepBelow sets1 (last_of r 1)
  pub two : IsStepBelow sets2 (last_of r 2)

-- all rows are such
abbrev pub AreRows : (sets1 sets2 : List FormSet) → List FormRow → Type 0
AreRows sets1 sets2 rows = (i : ℕ) (d : FormRow) → i < length rows → IsNextRow sets1 sets2 (slice_index_or rows i d)

-- a form: no more sets of a seat and no more rows than there is room for, parents before children, weights in order, and rows whose last steps are there
pub record IsFormValue (f : FormValue) : Type 0 where
  pub room1 : length f.sets1 ≤ f.set_room
  pub room2 : length f.sets2 ≤ f.set_room
  pub room : length f.rows ≤ f.row_room
  pub sets1 : AreSets f.sets1
  pub sets2 : AreSets f.sets2
  pub rows : AreRows f.sets1 f.sets2 f.rows

-- ---- what a form becomes

-- an empty form with room
abbrev pub empty_form : (sets rows : ℕ) → FormValue
empty_form sets rows = record { sets1 = []; sets2 = []; rows = []; set_room = sets; row_room = rows }

-- a form with one more set of a seat
abbrev pub with_set : FormValue → ℕ → FormSet → FormValue
with_set f seat s =
    if seat == 1 then record { sets1 = f.sets1 ++ s ∷ []; sets2 = f.sets2; rows = f.rows; set_room = f.set_room; row_room = f.row_room }
    else record { sets1 = f.sets1; sets2 = f.sets2 ++ s ∷ []; rows = f.rows; set_room = f.set_room; row_room = f.row_room }

-- a form with one more row
abbrev pub with_row : FormValue → FormRow → FormValue
with_row f r = record { sets1 = f.sets1; sets2 = f.sets2; rows = f.rows ++ r ∷ []; set_room = f.set_room; row_room = f.row_room }

-- ---- forms of the definitions

-- a set and an action, as the definitions have them
abbrev pub taken_model : SetId × ℕ → SetAction
taken_model t = record { set = t.0.0; action = t.1 }

-- a set, as the definitions have it
abbrev pub set_model : FormSet → model.FormSet
set_model s = record { parent = option_map taken_model s.parent; actions = s.actions }

-- the sets of a seat, as the definitions have them
abbrev pub sets_model : List FormSet → List model.FormSet
sets_model sets = map set_model sets

-- the whole path of a seat to a last step: the chain of parents that ends with it
abbrev pub whole_path : List FormSet → Option (SetId × ℕ) → List SetAction
whole_path sets t = model.chain (sets_model sets) (option_map taken_model t)

-- a row with whole paths
abbrev pub row_model : (sets1 sets2 : List FormSet) → FormRow → model.Row
row_model sets1 sets2 r = record {
  worth = r.worth.0;
  path1 = whole_path sets1 (last_of r 1);
  path2 = whole_path sets2 (last_of r 2);
  pad1 = slice_index r.pads 0;
  pad2 = slice_index r.pads 1;
}

-- a form as the definitions have it
abbrev pub form_model : FormValue → model.Form
form_model f = record { sets1 = sets_model f.sets1; sets2 = sets_model f.sets2; rows = map (row_model f.sets1 f.sets2) f.rows }
