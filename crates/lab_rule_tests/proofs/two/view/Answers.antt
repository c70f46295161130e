use Rattle.std.proofs.Common.{List, [], ◌∷◌, sym, subst}
use Rattle.lab_defs_value.specs.Views as views
use Rattle.lab_form.specs.Forms.{FormValue}
use Rattle.lab_rule.specs.declared.path.PathSet.{PathSet}
use Rattle.lab_rule.specs.declared.path.PathStep.{PathStep}
use Rattle.lab_rule.specs.Paths.{view_in}
use Rattle.lab_rule_tests.specs.Examples.{two_form, two_path}
use Rattle.lab_rule_tests.proofs.ExampleViews.{two_is}
use Rattle.lab_rule_tests.proofs.two.view.Goals as goal

pub invariant_of-result : goal.invariant_of-result
invariant_of-result c =
    let grids = 2 ∷ 3 ∷ [] in
    let steps = subst (λ (steps : List PathStep). views.IsView (view_in 1 grids two_form two_path steps 2)) (sym c.requires.steps) two_is in
    let sets = subst (λ (sets : List PathSet). views.IsView (view_in 1 grids two_form sets c.args.steps.now 2)) (sym c.requires.sets) steps in
    record { valid = ∣ subst (λ (f : FormValue). views.IsView (view_in 1 grids f c.args.sets.now c.args.steps.now 2)) (sym c.requires.form) sets ∣₁ }
