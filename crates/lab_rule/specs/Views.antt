-- Views, as the definitions have them.
use Rattle.lab_defs_value.specs.Views as view
use Rattle.lab_rule.specs.declared.view.View.{View}
use Rattle.lab_rule.specs.Paths.{view_in}

-- a view
abbrev pub view_model : View → view.View
view_model v = view_in v.keeper v.grids v.form.now v.sets.now v.steps.now v.roots
