use Rattle.std.proofs.Common.{◌≡◌, ◌+◌, length, unsigned_abs, ap, ◌∙◌, subst, arith}
use Rattle.std.proofs.lemmas.Int.{ints}
use Rattle.std.proofs.lemmas.List.{length-replicate}
use Rattle.lab_defs_game.specs.Seats.{other}
use Rattle.lab_defs_value.specs.Bounds.{at, through}
use Rattle.lab_form.specs.Forms.{AreSets, AreRows, sets_of}
use Rattle.lab_form.proofs.CallerLemmas.{form_is}
use Rattle.lab_best.specs.Parts.{children_value}
use Rattle.lab_best.specs.Values.{strategy_in, numbers}
use Rattle.lab_best.proofs.NumberLemmas.{nothing, number_zero, numbers_range}
use Rattle.lab_best.proofs.FormLemmas.{children_through, keeper_grid, worths_small}
use Rattle.lab_best.proofs.through.back_up.Goals as goal

pub add_children-requires-clause-sizes : goal.add_children-requires-clause-sizes
add_children-requires-clause-sizes c =
    λ i l.
    let zero = ap (λ xs. unsigned_abs (at (numbers xs) i)) c.set_to_zero.ensures ∙ ap unsigned_abs (number_zero (length c.args.out.now) i) in
    omega (arith, zero, c.requires.sizes)

pub returns-clause-sound : goal.returns-clause-sound
returns-clause-sound c =
    let f = c.args.form.now in
    form_is f (other c.args.keeper) (subst (λ k. AreSets (sets_of f k)) c.other-seat.ensures (subst AreSets c.sets-replies.ensures.sets c.sets-replies.ensures.order)) (subst (AreRows f.sets1 f.sets2) c.rows-rows.ensures.rows c.rows-rows.ensures.there)

pub returns-clause-small : goal.returns-clause-small
returns-clause-small c =
    let f = c.args.form.now in
    let order : AreSets (sets_of f c.args.keeper) = subst AreSets c.paths_of-paths.ensures.sets c.paths_of-paths.ensures.order in
    worths_small f c.args.keeper c.args.d c.args.weights.now c.requires.keeper c.requires.small order (subst (AreRows f.sets1 f.sets2) c.rows-rows.ensures.rows c.rows-rows.ensures.there)
    (record { order = order; weights = c.requires.weights; least = keeper_grid f c.args.keeper c.args.d c.requires.keeper c.requires.small })

pub returns-clause-values : goal.returns-clause-values
returns-clause-values c =
    let f = c.args.form.now in
    let B = at (numbers c.args.values.now) in
    let J = c.args.set.0 in
    let long : length c.set_to_zero.new.worths ≡ length c.args.out.now = ap length c.set_to_zero.ensures ∙ length-replicate (length c.args.out.now) nothing in
    let mid : length c.add_children.new.out ≡ length c.args.out.now = c.add_children.ensures.places ∙ long in
    numbers_range c.add_rows.new.out (through (strategy_in f c.args.keeper c.args.d c.args.weights.now) B J) c.args.first (length c.args.out.now) (c.add_rows.ensures.places ∙ mid)
    (λ i l.
    let a = c.args.first + i in
    let zero = ap (λ xs. at (numbers xs) i) c.set_to_zero.ensures ∙ number_zero (length c.args.out.now) i in
    let sets = c.add_children.ensures.values i (omega (arith, l, long)) in
    let rows = c.add_rows.ensures.values i (omega (arith, l, mid)) in
    let seat = ap (λ k. children_value (sets_of f k) B J a) c.other-seat.ensures ∙ children_through f c.args.keeper c.args.d c.args.weights.now B J a in
    omega (arith, ints, zero, sets, rows, seat))
