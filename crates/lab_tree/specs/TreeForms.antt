-- The form of a tree.
use Rattle.std.specs.Prelude.{ℕ, ◌≡◌, flat_map, ◌-◌, List, [], ◌∷◌, map, max, length, slice_index_or, Some, if◌then◌else◌, ◌==◌}
use Rattle.lab_defs_text.specs.Games.{GameModel}
use Rattle.lab_defs_game.specs.Accepted.{IsAccepted}
use Rattle.lab_defs_game.specs.Forms.{decisions_to, form_of}
use Rattle.lab_form.specs.declared.items.SetId.{SetId}
use Rattle.lab_form.specs.declared.items.FormSet.{FormSet}
use Rattle.lab_form.specs.declared.items.FormRow.{FormRow}
use Rattle.lab_form.specs.Forms.{FormValue, form_model, sets_model, AreSets, AreRows}
use Rattle.lab_tree.specs.declared.info.SetInfo.{SetInfo}
use Rattle.lab_tree.specs.declared.info.RowInfo.{RowInfo}
use Rattle.lab_tree.specs.Trees.{TreeValue, set_id, tree_of}

-- a set of a tree as one of a form
abbrev pub form_set : SetInfo → FormSet
form_set s = record { parent = s.parent; actions = s.actions; first_weight = s.first_weight }

-- the last set of a seat on a row, with the action there
abbrev pub last_set : RowInfo → ℕ → SetId × ℕ
last_set r seat = if seat == 1 then slice_index_or r.last 0 (set_id 0, 0) else slice_index_or r.last 1 (set_id 0, 0)

-- a row of a tree as one of a form: it lacks as many decisions as it has fewer than the most
abbrev pub form_row : (sets1 sets2 : List FormSet) → (most1 most2 : ℕ) → RowInfo → FormRow
form_row sets1 sets2 most1 most2 r = record {
  worth = r.worth;
  last = Some (last_set r 1) ∷ Some (last_set r 2) ∷ [];
  pads = (most1 - decisions_to (sets_model sets1) (last_set r 1).0.0) ∷ (most2 - decisions_to (sets_model sets2) (last_set r 2).0.0) ∷ [];
}

-- the sets of a tree as those of a form
abbrev pub form_sets : List SetInfo → List FormSet
form_sets sets = map form_set sets

-- the rows of a tree as those of a form
abbrev pub form_rows : (one two : List SetInfo) → (most1 most2 : ℕ) → List RowInfo → List FormRow
form_rows one two most1 most2 rows = map (form_row (form_sets one) (form_sets two) most1 most2) rows

-- the form of these sets and rows, with room for no more
abbrev pub form_in : (one two : List SetInfo) → (most1 most2 : ℕ) → List RowInfo → FormValue
form_in one two most1 most2 rows = record {
  sets1 = form_sets one;
  sets2 = form_sets two;
  rows = form_rows one two most1 most2 rows;
  set_room = max (length one) (length two);
  row_room = length rows;
}

-- sets and rows that a form can have
pub record AreFormParts (one two : List SetInfo) (rows : List RowInfo) : Type 0 where
  pub sets1 : AreSets (form_sets one)
  pub sets2 : AreSets (form_sets two)
  pub last : AreRows (form_sets one) (form_sets two) (form_rows one two 0 0 rows)

-- a form with these sets of a seat
abbrev pub with_sets : FormValue → ℕ → List FormSet → FormValue
with_sets f seat sets =
    if seat == 1 then record { sets1 = sets; sets2 = f.sets2; rows = f.rows; set_room = f.set_room; row_room = f.row_room }
    else record { sets1 = f.sets1; sets2 = sets; rows = f.rows; set_room = f.set_room; row_room = f.row_room }

-- a form with these rows
abbrev pub with_rows : FormValue → List FormRow → FormValue
with_rows f rows = record { sets1 = f.sets1; sets2 = f.sets2; rows = rows; set_room = f.set_room; row_room = f.row_room }

-- all rows of a tree, node by node
abbrev pub all_rows : TreeValue → List RowInfo
all_rows t = flat_map (λ rows. rows) t.node_rows

-- the form of a tree
abbrev pub tree_form : TreeValue → FormValue
tree_form t = form_in t.one.sets t.two.sets t.unfolded.scale.most1 t.unfolded.scale.most2 (all_rows t)

-- ---- laws

-- the sets and rows of an accepted game's tree are those of a form
abbrev pub FormPartsLaw : Type 0
FormPartsLaw = (g : GameModel) → IsAccepted g → AreFormParts (tree_of g).one.sets (tree_of g).two.sets (all_rows (tree_of g))

-- and the form is the game's
abbrev pub FormLaw : Type 0
FormLaw = (g : GameModel) → IsAccepted g → form_model (tree_form (tree_of g)) ≡ form_of g
