-- What a rule is told of a subgame, as the definitions have it.
use Rattle.std.specs.Prelude.{ℕ, List, map, slice_index}
use Rattle.lab_defs_value.specs.Views as view
use Rattle.lab_form.specs.Forms.{FormValue, form_model}
use Rattle.lab_rule.specs.declared.path.PathSet.{PathSet}
use Rattle.lab_rule.specs.declared.path.PathStep.{PathStep}

-- a set of the path
abbrev pub path_set_model : PathSet → view.PathSet
path_set_model s = record { set = s.set.0; bound = s.bound.0; follows = s.follows }

-- a step of the path
abbrev pub path_step_model : PathStep → view.PathStep
path_step_model e = record { from = e.from; action = e.action; through = e.through.0; count = e.count }

-- a view, by its parts
abbrev pub view_in : (keeper : ℕ) → (grids : List ℕ) → FormValue → List PathSet → List PathStep → (roots : ℕ) → view.View
view_in keeper grids form sets steps roots = record {
  keeper = keeper;
  grid1 = slice_index grids 0;
  grid2 = slice_index grids 1;
  form = form_model form;
  sets = map path_set_model sets;
  steps = map path_step_model steps;
  roots = roots;
}
