use Rattle.std.proofs.Common.{◌+◌, ◌∙◌, sym, ap, arith}
use Rattle.std.proofs.lemmas.Bool.{ltb-true}
use Rattle.lab_table.proofs.PlaceLemmas.{last_end}
use Rattle.lab_table.proofs.places.weight_count.Goals as goal

pub overflow_add-result : goal.overflow_add-result
overflow_add-result c =
    let last = c.in-Some.ensures.item in
    omega (arith, c.weights_of.ensures, last_end c.args.sets.now c.in-Some.set.now c.requires.order (ltb-true 0 _ (sym last.0)) last.1, c.requires.few)

pub returns-in-Some : goal.returns-in-Some
returns-in-Some c =
    let last = c.in-Some.ensures.item in
    ap (λ n. c.in-Some.set.now.first_weight + n) c.weights_of.ensures
    ∙ last_end c.args.sets.now c.in-Some.set.now c.requires.order (ltb-true 0 _ (sym last.0)) last.1
