use Rattle.std.proofs.Common.{List, [], ◌∷◌, sym, subst}
use Rattle.lab_defs_value.specs.Views as views
use Rattle.lab_form.specs.Forms.{FormValue}
use Rattle.lab_rule.specs.declared.path.PathSet.{PathSet}
use Rattle.lab_rule.specs.Paths.{view_in}
use Rattle.lab_rule_tests.specs.Examples.{single_form}
use Rattle.lab_rule_tests.proofs.ExampleViews.{single_is}
use Rattle.lab_rule_tests.proofs.single.view.Goals as goal

pub invariant_of-result : goal.invariant_of-result
invariant_of-result c =
    let grids = 2 ∷ 3 ∷ [] in
    let sets = subst (λ (sets : List PathSet). views.IsView (view_in 1 grids single_form sets [] 1)) (sym c.requires.sets) single_is in
    record { valid = ∣ subst (λ (f : FormValue). views.IsView (view_in 1 grids f c.args.sets.now [] 1)) (sym c.requires.form) sets ∣₁ }
