use Rattle.std.proofs.Common.{◌≡◌, ◌≤◌, ◌^◌, List, ℕ, length, ap, ◌∙◌, sym, subst, arith}
use Rattle.std.specs.Prelude.{unsigned_abs}
use Rattle.std.proofs.lemmas.List.{length-map}
use Rattle.std.proofs.lemmas.List.Elements.{All-map}
use Rattle.lab_form.specs.declared.items.FormSet.{FormSet}
use Rattle.lab_table.specs.Tables.{AreWeights}
use Rattle.lab_units.specs.declared.worth.Worth.{Worth}
use Rattle.lab_best.specs.Values.{numbers}
use Rattle.lab_best.proofs.CallerLemmas.{numbers_length}
use Rattle.lab_bounds.specs.Tables.{BoundsValue, AreOf}
use Rattle.lab_bounds.proofs.tests.bounds_of.Goals as goal

pub returns-clause-of : goal.returns-clause-of
returns-clause-of c =
    let r = c.requires in
    let f = c.args.form.now in
    let bounds = c.args.bounds.now in
    let as_many : length (numbers bounds) ≡ 2 = numbers_length bounds ∙ r.count in
    let sets : 2 ≡ length f.sets2 = sym (ap (λ (ns : List ℕ). length ns) r.two) ∙ length-map f.sets2 (λ (s : FormSet). s.actions) in
    subst (λ (b : BoundsValue). AreOf f 4 c.args.table.now b) (sym c.in_ok-given.ensures) (record {
      small = r.small;
      weights = subst (λ (ns : List ℕ). AreWeights 4 ns c.args.table.now.weights) (sym r.one) r.weights;
      count = as_many ∙ sets;
      few = omega (arith, as_many);
      sizes = All-map (λ z. unsigned_abs z ≤ 2 ^ 100) (λ (w : Worth). w.0) bounds r.sizes;
    })
