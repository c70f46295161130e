use Rattle.std.proofs.Common.{◌≡◌, ℕ, ◌<◌, ◌++◌, ◌∷◌, [], List, length, sym, ap, ◌∙◌, subst, arith}
use Rattle.std.proofs.lemmas.List.{append_assoc, length-append}
use Rattle.std.proofs.lemmas.List.FromFn.{get_or-map-range_with_len, length-map-range_with_len, map-range_with_len_more}
use Rattle.lab_defs_game.specs.Seats.{other}
use Rattle.lab_defs_value.specs.Replies.{factors_in}
use Rattle.lab_defs_value.specs.Views.{root_limit}
use Rattle.lab_form.specs.declared.items.FormRow.{FormRow}
use Rattle.lab_form.specs.Forms.{FormValue, form_model, with_row, IsNextRow}
use Rattle.lab_rule.specs.Names.{rule_model}
use Rattle.lab_rule.specs.Rules.{sizes_of}
use Rattle.lab_rule.specs.Views.{view_model}
use Rattle.lab_rule.specs.Gadgets.{with_rows, further_row, further_rows}
use Rattle.lab_rule.proofs.FactorLemmas.{no_row}
use Rattle.lab_rule.proofs.gadget.add_further_rows.Goals as goal

pub add_row-requires-clause-room : goal.add_row-requires-clause-room
add_row-requires-clause-room c =
    let v = c.args.view.now in
    let f = c.args.form.now in
    let rule = rule_model c.args.name in
    let o = other v.keeper in
    let limits = root_limit (view_model v) (sizes_of c.args.allowances.now) in
    let factors = factors_in (form_model v.form.now) o in
    let n = c.loop-root.root in
    let rows = ap (λ (g : FormValue). length g.rows) c.loop-root.invariant in
    let room = ap (λ (g : FormValue). g.row_room) c.loop-root.invariant in
    let both = length-append f.rows (further_rows rule o factors limits n) in
    let many = length-map-range_with_len (λ i. further_row rule o factors i (limits i)) 0 n in
    omega (arith, rows, room, both, many, c.requires.room, c.loop-root-test.true)

pub add_row-requires-clause-next : goal.add_row-requires-clause-next
add_row-requires-clause-next c =
    let v = c.args.view.now in
    let f = c.args.form.now in
    let rule = rule_model c.args.name in
    let o = other v.keeper in
    let limits = root_limit (view_model v) (sizes_of c.args.allowances.now) in
    let factors = factors_in (form_model v.form.now) o in
    let n = c.loop-root.root in
    let made = λ (i : ℕ). further_row rule o factors i (limits i) in
    let is : c.further_row.result ≡ made n =
    c.further_row.ensures ∙ ap (λ k. further_row rule k c.factors-factors.result n c.root_limit-limit.result.0) c.other-opponent.ensures
    ∙ ap (λ k. further_row rule o k n c.root_limit-limit.result.0) c.factors-factors.ensures ∙ ap (further_row rule o factors n) c.root_limit-limit.ensures.limit in
    let long : n < length (further_rows rule o factors limits v.roots) = omega (arith, length-map-range_with_len made 0 v.roots, c.loop-root-test.true) in
    let there = subst (IsNextRow f.sets1 f.sets2) (get_or-map-range_with_len made 0 v.roots n n no_row c.loop-root-test.true (omega arith)) (c.requires.there n no_row long) in
    subst (λ (g : FormValue). IsNextRow g.sets1 g.sets2 c.further_row.result) (sym c.loop-root.invariant) (subst (IsNextRow f.sets1 f.sets2) (sym is) there)

pub loop-root-preserved : goal.loop-root-preserved
loop-root-preserved c =
    let v = c.args.view.now in
    let f = c.args.form.now in
    let rule = rule_model c.args.name in
    let o = other v.keeper in
    let limits = root_limit (view_model v) (sizes_of c.args.allowances.now) in
    let factors = factors_in (form_model v.form.now) o in
    let n = c.loop-root.root in
    let made = λ (i : ℕ). further_row rule o factors i (limits i) in
    let is : c.further_row.result ≡ made n =
    c.further_row.ensures ∙ ap (λ k. further_row rule k c.factors-factors.result n c.root_limit-limit.result.0) c.other-opponent.ensures
    ∙ ap (λ k. further_row rule o k n c.root_limit-limit.result.0) c.factors-factors.ensures ∙ ap (further_row rule o factors n) c.root_limit-limit.ensures.limit in
    c.add_row.ensures ∙ ap (λ (g : FormValue). with_row g c.further_row.result) c.loop-root.invariant
    ∙ ap (λ (r : FormRow). with_rows f ((f.rows ++ further_rows rule o factors limits n) ++ r ∷ [])) is
    ∙ ap (with_rows f) (append_assoc f.rows (further_rows rule o factors limits n) (made n ∷ []) ∙ ap (λ (rs : List FormRow). f.rows ++ rs) (sym (map-range_with_len_more made 0 n n (omega arith))))
