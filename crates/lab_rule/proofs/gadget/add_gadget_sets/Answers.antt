use Rattle.std.proofs.Common.{List, [], ◌∷◌, ◌++◌, length, sym, ap, ◌∙◌, subst, arith}
use Rattle.std.proofs.lemmas.List.FromFn.{length-map-range_with_len, map-range_with_len_more}
use Rattle.lab_form.specs.declared.items.FormSet.{FormSet}
use Rattle.lab_form.specs.Forms.{FormValue, sets_of, with_set, IsNextSet}
use Rattle.lab_rule.specs.Names.{rule_model}
use Rattle.lab_rule.specs.Gadgets.{with_sets, gadget_set, first_sets}
use Rattle.lab_rule.proofs.GadgetLemmas.{gadget_next}
use Rattle.lab_rule.proofs.WritingLemmas.{sets_with, room_with, with_push}
use Rattle.lab_rule.proofs.gadget.add_gadget_sets.Goals as goal

pub add_set-requires-clause-room : goal.add_set-requires-clause-room
add_set-requires-clause-room c =
    let f = c.args.form.now in
    let sets = first_sets (rule_model c.args.name) c.args.roots c.loop-number.number in
    let many = ap (λ (g : FormValue). length (sets_of g c.args.seat)) c.loop-number.invariant ∙ ap length (sets_with f c.args.seat sets) in
    let room = ap (λ (g : FormValue). g.set_room) c.loop-number.invariant ∙ room_with f c.args.seat sets in
    omega (arith, many, room, length-map-range_with_len (gadget_set (rule_model c.args.name) c.args.roots) 0 c.loop-number.number, c.requires.room, c.loop-number-test.true, c.gadget_count-number-end.ensures)

pub add_set-requires-clause-next : goal.add_set-requires-clause-next
add_set-requires-clause-next c =
    let sets = first_sets (rule_model c.args.name) c.args.roots c.loop-number.number in
    let so_far = ap (λ (g : FormValue). sets_of g c.args.seat) c.loop-number.invariant ∙ sets_with c.args.form.now c.args.seat sets in
    subst (λ (ss : List FormSet). IsNextSet ss c.gadget_set.result) (sym so_far) (subst (IsNextSet sets) (sym c.gadget_set.ensures) (gadget_next (rule_model c.args.name) c.args.roots c.loop-number.number c.requires.some))

pub loop-number-preserved : goal.loop-number-preserved
loop-number-preserved c =
    let f = c.args.form.now in
    let seat = c.args.seat in
    let rule = rule_model c.args.name in
    let n = c.loop-number.number in
    let sets = first_sets rule c.args.roots n in
    c.add_set.ensures ∙ ap (λ (g : FormValue). with_set g seat c.gadget_set.result) c.loop-number.invariant
    ∙ with_push f seat sets c.gadget_set.result ∙ ap (λ (s : FormSet). with_sets f seat (sets ++ s ∷ [])) c.gadget_set.ensures
    ∙ ap (with_sets f seat) (sym (map-range_with_len_more (gadget_set rule c.args.roots) 0 n n (omega arith)))
