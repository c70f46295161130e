use Rattle.std.proofs.Common.{take, get_or, ap, ◌∙◌, sym, subst}
use Rattle.std.proofs.lemmas.List.{take-map}
use Rattle.lab_form.specs.Forms.{FormValue, sets_of, IsNextSet}
use Rattle.lab_world.specs.Seats.{seat_number}
use Rattle.lab_tree.specs.TreeForms.{form_set, form_sets}
use Rattle.lab_tree.proofs.TreeFormLemmas.{no_set, set_next, sets_with}
use Rattle.lab_tree.proofs.forms.add_sets.Goals as goal

pub add_set-requires-clause-next : goal.add_set-requires-clause-next
add_set-requires-clause-next c =
    let i = c.loop-set.set-index in
    let so_far = ap (λ (f : FormValue). sets_of f (seat_number c.args.seat)) c.loop-set.invariant ∙ sets_with c.args.form.now (seat_number c.args.seat) (form_sets (take i c.args.sets.now)) ∙ sym (take-map form_set i c.args.sets.now) in
    subst (λ n. IsNextSet (sets_of c.loop-set.form n) (form_set (get_or c.args.sets.now i no_set))) (sym c.number.ensures.number)
    (subst (λ sets. IsNextSet sets (form_set (get_or c.args.sets.now i no_set))) (sym so_far) (set_next c.args.sets.now i no_set c.requires.sets c.loop-set-test.true))
