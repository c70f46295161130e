-- Two subgames: one with two root sets below a set that has something to give away, and one that is a whole game with one root set.
use Rattle.std.specs.Prelude.{ℕ, ℤ, pos, negsuc, List, [], ◌∷◌, Option, Some, None}
use Rattle.lab_form.specs.declared.items.SetId.{SetId}
use Rattle.lab_form.specs.declared.items.FormSet.{FormSet}
use Rattle.lab_form.specs.declared.items.FormRow.{FormRow}
use Rattle.lab_form.specs.Forms.{FormValue}
use Rattle.lab_rule.specs.declared.path.PathSet.{PathSet}
use Rattle.lab_rule.specs.declared.path.PathStep.{PathStep}

-- a step
abbrev pub step : ℕ → ℕ → Option (SetId × ℕ)
step n a = Some (record { 0 = n }, a)

-- a set
abbrev pub set : Option (SetId × ℕ) → ℕ → ℕ → FormSet
set parent actions first = record { parent = parent; actions = actions; first_weight = first }

-- a row
abbrev pub row : ℤ → Option (SetId × ℕ) → Option (SetId × ℕ) → List ℕ → FormRow
row worth one two pads = record { worth = record { 0 = worth }; last = one ∷ two ∷ []; pads = pads }

-- seat 1 decides once; seat 2 decides at the first root set and passes at the second
abbrev pub two_sets : FormValue
two_sets = record { sets1 = set None 2 0 ∷ []; sets2 = set None 2 0 ∷ set None 1 2 ∷ []; rows = []; set_room = 5; row_room = 5 }

-- with the rows
abbrev pub two_form : FormValue
two_form = record {
  sets1 = set None 2 0 ∷ [];
  sets2 = set None 2 0 ∷ set None 1 2 ∷ [];
  rows = row (pos 2) (step 0 0) (step 0 0) (0 ∷ 0 ∷ []) ∷ row (negsuc 2) (step 0 1) (step 0 1) (0 ∷ 0 ∷ []) ∷ row (pos 1) (step 0 0) (step 1 0) (0 ∷ 1 ∷ []) ∷ [];
  set_room = 5;
  row_room = 5;
}

-- the root sets follow an action that backs up 3 less than the bound of its set
abbrev pub two_path : List PathSet
two_path =
    record { set = record { 0 = 0 }; bound = record { 0 = pos 5 }; follows = None }
    ∷ record { set = record { 0 = 3 }; bound = record { 0 = pos 1 }; follows = Some (0, 0) }
    ∷ record { set = record { 0 = 4 }; bound = record { 0 = pos 3 }; follows = Some (0, 1) } ∷ []

abbrev pub two_steps : List PathStep
two_steps = record { from = 0; action = 1; through = record { 0 = pos 2 }; count = 2 } ∷ []

-- each seat decides once
abbrev pub single_sets : FormValue
single_sets = record { sets1 = set None 2 0 ∷ []; sets2 = set None 2 0 ∷ []; rows = []; set_room = 5; row_room = 5 }

-- with the rows
abbrev pub single_form : FormValue
single_form = record {
  sets1 = set None 2 0 ∷ [];
  sets2 = set None 2 0 ∷ [];
  rows = row (pos 1) (step 0 0) (step 0 0) (0 ∷ 0 ∷ []) ∷ row (negsuc 0) (step 0 1) (step 0 1) (0 ∷ 0 ∷ []) ∷ [];
  set_room = 5;
  row_room = 5;
}

abbrev pub single_path : List PathSet
single_path = record { set = record { 0 = 0 }; bound = record { 0 = pos 4 }; follows = None } ∷ []
