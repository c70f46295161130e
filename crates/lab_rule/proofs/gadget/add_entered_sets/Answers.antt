use Rattle.std.proofs.Common.{List, [], ◌∷◌, ◌++◌, take, length, sym, ap, ◌∙◌, subst, arith}
use Rattle.std.proofs.lemmas.List.{length-take-le}
use Rattle.lab_form.specs.declared.items.FormSet.{FormSet}
use Rattle.lab_form.specs.Forms.{FormValue, sets_of, with_set, IsNextSet}
use Rattle.lab_rule.specs.Names.{rule_model}
use Rattle.lab_rule.specs.Gadgets.{with_sets, opponent_sets}
use Rattle.lab_rule.proofs.GadgetLemmas.{entered_next, opponent_many, opponent_push}
use Rattle.lab_rule.proofs.WritingLemmas.{sets_with, room_with, with_push, first_weight_low}
use Rattle.lab_rule.proofs.gadget.add_entered_sets.Goals as goal

pub entered_set-set-requires-clause-weights : goal.entered_set-set-requires-clause-weights
entered_set-set-requires-clause-weights c =
    let low = first_weight_low c.args.sets.now c.loop-number.number c.requires.order c.loop-number-test.true in
    omega (arith, low, c.requires.weights)

pub add_set-requires-clause-room : goal.add_set-requires-clause-room
add_set-requires-clause-room c =
    let f = c.args.form.now in
    let first = take c.loop-number.number c.args.sets.now in
    let sets = opponent_sets (rule_model c.args.name) c.args.roots first in
    let many = ap (λ (g : FormValue). length (sets_of g c.args.seat)) c.loop-number.invariant ∙ ap length (sets_with f c.args.seat sets) in
    let room = ap (λ (g : FormValue). g.set_room) c.loop-number.invariant ∙ room_with f c.args.seat sets in
    let taken = length-take-le c.loop-number.number c.args.sets.now (omega (arith, c.loop-number-test.true)) in
    omega (arith, many, room, opponent_many (rule_model c.args.name) c.args.roots first, taken, c.requires.room, c.loop-number-test.true)

pub add_set-requires-clause-next : goal.add_set-requires-clause-next
add_set-requires-clause-next c =
    let n = c.loop-number.number in
    let sets = opponent_sets (rule_model c.args.name) c.args.roots (take n c.args.sets.now) in
    let so_far = ap (λ (g : FormValue). sets_of g c.args.seat) c.loop-number.invariant ∙ sets_with c.args.form.now c.args.seat sets in
    subst (λ (ss : List FormSet). IsNextSet ss c.entered_set-set.result) (sym so_far)
    (subst (IsNextSet sets) (sym c.entered_set-set.ensures) (entered_next (rule_model c.args.name) c.args.roots n c.args.sets.now c.requires.order c.requires.roots c.loop-number-test.true))

pub loop-number-preserved : goal.loop-number-preserved
loop-number-preserved c =
    let f = c.args.form.now in
    let seat = c.args.seat in
    let rule = rule_model c.args.name in
    let n = c.loop-number.number in
    let sets = opponent_sets rule c.args.roots (take n c.args.sets.now) in
    c.add_set.ensures ∙ ap (λ (g : FormValue). with_set g seat c.entered_set-set.result) c.loop-number.invariant
    ∙ with_push f seat sets c.entered_set-set.result ∙ ap (λ (s : FormSet). with_sets f seat (sets ++ s ∷ [])) c.entered_set-set.ensures
    ∙ ap (with_sets f seat) (opponent_push rule c.args.roots n c.args.sets.now c.loop-number-test.true)
