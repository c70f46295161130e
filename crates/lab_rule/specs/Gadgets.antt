-- The gadget of a rule as the program writes it: with parents, last sets and the places of weights.
use Rattle.std.specs.Prelude.{◌≡◌, All, length, slice_index_or, ℕ, ◌+◌, ◌*◌, ◌^◌, ◌<◌, ⊤, ℤ, List, [], ◌∷◌, ◌++◌, map, Option, Some, None, ◌==◌, if◌then◌else◌}
use Rattle.std.specs.List.{range_with_len}
use Rattle.std.specs.Option.{option_map}
use Rattle.lab_defs_game.specs.Paths.{SetAction}
use Rattle.lab_defs_value.specs.Tables.{weights_of}
use Rattle.lab_defs_value.specs.Replies.{worth_to}
use Rattle.lab_defs_value.specs.Allowances.{Rule, cfrd, reach, margin}
use Rattle.lab_defs_value.specs.Gadgets.{terminate_step, terminate_worth, raised, entered_parent}
use Rattle.lab_form.specs.declared.items.SetId.{SetId}
use Rattle.lab_form.specs.declared.items.FormSet.{FormSet}
use Rattle.lab_form.specs.declared.items.FormRow.{FormRow}
use Rattle.lab_form.specs.Forms.{FormValue, taken_model, last_of}

-- a form with these sets of a seat
abbrev pub with_sets : FormValue → ℕ → List FormSet → FormValue
with_sets f seat sets =
    if seat == 1 then record { sets1 = sets; sets2 = f.sets2; rows = f.rows; set_room = f.set_room; row_room = f.row_room }
    else record { sets1 = f.sets1; sets2 = sets; rows = f.rows; set_room = f.set_room; row_room = f.row_room }

-- a form with these rows
abbrev pub with_rows : FormValue → List FormRow → FormValue
with_rows f rows = record { sets1 = f.sets1; sets2 = f.sets2; rows = rows; set_room = f.set_room; row_room = f.row_room }

-- ---- sets

-- a step after more sets has a number of 32 bits
abbrev pub IsLow : (further : ℕ) → Option (SetId × ℕ) → Type 0
IsLow further None = ⊤
IsLow further (Some t) = further + t.0.0 < 2 ^ 32

-- so are the last steps of a seat on rows
abbrev pub AreLow : (further seat : ℕ) → List FormRow → Type 0
AreLow further seat rows = All (λ r. IsLow further (last_of r seat)) rows

-- how many gadget sets there are
abbrev pub gadget_count : Rule → (roots : ℕ) → ℕ
gadget_count cfrd roots = roots
gadget_count reach roots = roots
gadget_count margin roots = 1

-- how many actions there are at each
abbrev pub gadget_actions : Rule → (roots : ℕ) → ℕ
gadget_actions cfrd roots = 2
gadget_actions reach roots = 2
gadget_actions margin roots = roots

-- how many weights the first ones have
abbrev pub gadget_weights : Rule → (roots count : ℕ) → ℕ
gadget_weights rule roots count = count * weights_of (gadget_actions rule roots)

-- the gadget set with a number
abbrev pub gadget_set : Rule → (roots number : ℕ) → FormSet
gadget_set rule roots number = record { parent = None; actions = gadget_actions rule roots; first_weight = gadget_weights rule roots number }

-- the first gadget sets
abbrev pub first_sets : Rule → (roots count : ℕ) → List FormSet
first_sets rule roots count = map (gadget_set rule roots) (range_with_len 0 count)

-- a step, as the program has it
abbrev pub step_id : SetAction → SetId × ℕ
step_id t = (record { 0 = t.set }, t.action)

-- a step of the subgame where gadget sets come first
abbrev pub raised_step : Rule → (roots : ℕ) → SetId × ℕ → SetId × ℕ
raised_step rule roots t = step_id (raised (gadget_count rule roots) (taken_model t))

-- the set of the subgame with a number where gadget sets come first
abbrev pub entered_set : Rule → (roots number : ℕ) → FormSet → FormSet
entered_set rule roots number s = record {
  parent = option_map step_id (entered_parent rule (gadget_count rule roots) number (option_map taken_model s.parent));
  actions = s.actions;
  first_weight = gadget_weights rule roots (gadget_count rule roots) + s.first_weight;
}

-- sets of the subgame, the first of them with a number, where gadget sets come first
abbrev pub entered_from : Rule → (roots number : ℕ) → List FormSet → List FormSet
entered_from rule roots number [] = []
entered_from rule roots number (s ∷ sets) = entered_set rule roots number s ∷ entered_from rule roots (number + 1) sets

-- the opponent's sets in a gadget: the gadget sets, and then some of the subgame
abbrev pub opponent_sets : Rule → (roots : ℕ) → List FormSet → List FormSet
opponent_sets rule roots sets = first_sets rule roots (gadget_count rule roots) ++ entered_from rule roots 0 sets

-- only the first sets follow none
abbrev pub RootsFirst : (roots : ℕ) → List FormSet → Type 0
RootsFirst roots sets = (i : ℕ) → i < length sets → (slice_index_or sets i (record { parent = None; actions = 0; first_weight = 0 })).parent ≡ None → i < roots

-- ---- rows

-- a row of the subgame where gadget sets come first
abbrev pub entered_row : Rule → (opponent roots : ℕ) → FormRow → FormRow
entered_row rule opponent roots r = record {
  worth = r.worth;
  last = if opponent == 1 then option_map (raised_step rule roots) (last_of r 1) ∷ last_of r 2 ∷ []
      else last_of r 1 ∷ option_map (raised_step rule roots) (last_of r 2) ∷ [];
  pads = r.pads;
}

-- the further row of a root set with a limit
abbrev pub further_row : Rule → (opponent factors root : ℕ) → (limit : ℤ) → FormRow
further_row rule opponent factors root limit = record {
  worth = record { 0 = worth_to opponent (terminate_worth rule limit) };
  last = if opponent == 1 then Some (step_id (terminate_step rule root)) ∷ None ∷ [] else None ∷ Some (step_id (terminate_step rule root)) ∷ [];
  pads = if opponent == 1 then factors ∷ 0 ∷ [] else 0 ∷ factors ∷ [];
}

-- the further rows of the first root sets, by the limits of them all
abbrev pub further_rows : Rule → (opponent factors : ℕ) → (limits : ℕ → ℤ) → (count : ℕ) → List FormRow
further_rows rule opponent factors limits count = map (λ i. further_row rule opponent factors i (limits i)) (range_with_len 0 count)
