use Rattle.std.proofs.Common.{◌<◌, take, map, get_or, length, ap, ◌∙◌, sym, subst, arith}
use Rattle.std.proofs.lemmas.List.{take-map, get_or-map, length-map}
use Rattle.lab_form.specs.Forms.{FormValue, sets_of, IsNextSet}
use Rattle.lab_tree.specs.Subforms.{inner_set, first_of}
use Rattle.lab_tree.proofs.TreeFormLemmas.{no_set, sets_with}
use Rattle.lab_tree.proofs.subgame.add_sets.Goals as goal

pub add_set-requires-clause-next : goal.add_set-requires-clause-next
add_set-requires-clause-next c =
    let i = c.loop-set.set-index in
    let made = inner_set c.args.span (first_of c.args.inside.now) in
    let set = get_or c.args.inside.now i no_set in
    let so_far = ap (λ (f : FormValue). sets_of f c.args.seat) c.loop-set.invariant ∙ sets_with c.args.form.now c.args.seat (map made (take i c.args.inside.now)) ∙ sym (take-map made i c.args.inside.now) in
    let is = c.inner_set.ensures ∙ ap (λ n. inner_set c.args.span n set) c.first_of-first.ensures in
    let long : i < length (map made c.args.inside.now) = omega (arith, length-map c.args.inside.now made, c.loop-set-test.true) in
    let there = subst (IsNextSet (take i (map made c.args.inside.now))) (get_or-map made c.args.inside.now i no_set (made no_set) c.loop-set-test.true) (c.requires.sets i (made no_set) long) in
    subst (λ sets. IsNextSet sets c.inner_set.result) (sym so_far) (subst (IsNextSet (take i (map made c.args.inside.now))) (sym is) there)
