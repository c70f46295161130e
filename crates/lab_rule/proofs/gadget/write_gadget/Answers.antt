use Rattle.std.proofs.Common.{List, map, sym, ap, ◌∙◌, subst}
use Rattle.lab_defs_game.specs.Seats.{other}
use Rattle.lab_defs_value.specs.Replies.{factors_in}
use Rattle.lab_defs_value.specs.Views.{root_limit}
use Rattle.lab_form.specs.declared.items.FormRow.{FormRow}
use Rattle.lab_form.specs.Forms.{FormValue, sets_of, form_model, AreSets, AreRows}
use Rattle.lab_rule.specs.Names.{rule_model}
use Rattle.lab_rule.specs.Rules.{sizes_of}
use Rattle.lab_rule.specs.Views.{view_model}
use Rattle.lab_rule.specs.Gadgets.{first_sets, gadget_count, entered_row, further_rows, RootsFirst}
use Rattle.lab_rule.proofs.ViewLemmas.{valid, roots_first}
use Rattle.lab_rule.proofs.GadgetRows.{sets_value, gadget_is, entered_rows_there, further_rows_there}
use Rattle.lab_rule.proofs.WritingLemmas.{sets_written, rows_written}
use Rattle.lab_rule.proofs.gadget.write_gadget.Goals as goal

pub add_entered_sets-requires-clause-roots : goal.add_entered_sets-requires-clause-roots
add_entered_sets-requires-clause-roots c =
    let v = c.args.view.now in
    subst (RootsFirst v.roots) (sym (c.sets-2.ensures.sets ∙ ap (sets_of v.form.now) c.other-opponent.ensures)) (roots_first v)

pub add_entered_rows-requires-clause-there : goal.add_entered_rows-requires-clause-there
add_entered_rows-requires-clause-there c =
    let v = c.args.view.now in
    let f = v.form.now in
    let g = c.args.form.now in
    let rule = rule_model c.args.name in
    let first = first_sets rule v.roots (gadget_count rule v.roots) in
    let sets = sets_written rule f c.clear.new.self c.copy_sets.new.form c.add_gadget_sets.new.form c.add_entered_sets.new.form v.keeper c.other-opponent.result v.roots g.set_room g.row_room c.sets.result.now c.sets-2.result.now first
    c.other-opponent.ensures c.sets.ensures.sets c.sets-2.ensures.sets c.clear.ensures c.copy_sets.ensures c.add_gadget_sets.ensures c.add_entered_sets.ensures in
    let rows : AreRows f.sets1 f.sets2 f.rows = subst (AreRows f.sets1 f.sets2) c.rows.ensures.rows c.rows.ensures.there in
    let there = entered_rows_there rule f v.roots g.set_room g.row_room v.keeper (valid v).seat rows in
    subst (λ (h : FormValue). AreRows h.sets1 h.sets2 (map (entered_row rule c.other-opponent.result v.roots) c.rows.result.now)) (sym sets)
    (subst (λ (rs : List FormRow). let h = sets_value rule f v.keeper v.roots g.set_room g.row_room in AreRows h.sets1 h.sets2 (map (entered_row rule c.other-opponent.result v.roots) rs)) (sym c.rows.ensures.rows)
    (subst (λ o. let h = sets_value rule f v.keeper v.roots g.set_room g.row_room in AreRows h.sets1 h.sets2 (map (entered_row rule o v.roots) f.rows)) (sym c.other-opponent.ensures) there))

pub add_further_rows-requires-clause-there : goal.add_further_rows-requires-clause-there
add_further_rows-requires-clause-there c =
    let v = c.args.view.now in
    let f = v.form.now in
    let g = c.args.form.now in
    let rule = rule_model c.args.name in
    let first = first_sets rule v.roots (gadget_count rule v.roots) in
    let sets = sets_written rule f c.clear.new.self c.copy_sets.new.form c.add_gadget_sets.new.form c.add_entered_sets.new.form v.keeper c.other-opponent.result v.roots g.set_room g.row_room c.sets.result.now c.sets-2.result.now first
    c.other-opponent.ensures c.sets.ensures.sets c.sets-2.ensures.sets c.clear.ensures c.copy_sets.ensures c.add_gadget_sets.ensures c.add_entered_sets.ensures in
    let factors = factors_in (form_model f) (other v.keeper) in
    let limits = root_limit (view_model v) (sizes_of c.args.allowances.now) in
    let there = further_rows_there rule f v.roots factors limits g.set_room g.row_room v.keeper (valid v).seat in
    subst (λ (h : FormValue). AreRows h.sets1 h.sets2 (further_rows rule (other v.keeper) factors limits v.roots)) (sym c.add_entered_rows.ensures)
    (subst (λ (h : FormValue). AreRows h.sets1 h.sets2 (further_rows rule (other v.keeper) factors limits v.roots)) (sym sets) there)

pub returns-clause-gadget : goal.returns-clause-gadget
returns-clause-gadget c =
    let v = c.args.view.now in
    let f = v.form.now in
    let g = c.args.form.now in
    let rule = rule_model c.args.name in
    let first = first_sets rule v.roots (gadget_count rule v.roots) in
    let sets = sets_written rule f c.clear.new.self c.copy_sets.new.form c.add_gadget_sets.new.form c.add_entered_sets.new.form v.keeper c.other-opponent.result v.roots g.set_room g.row_room c.sets.result.now c.sets-2.result.now first
    c.other-opponent.ensures c.sets.ensures.sets c.sets-2.ensures.sets c.clear.ensures c.copy_sets.ensures c.add_gadget_sets.ensures c.add_entered_sets.ensures in
    let factors = factors_in (form_model f) (other v.keeper) in
    let limits = root_limit (view_model v) (sizes_of c.args.allowances.now) in
    let whole = rows_written rule f c.add_entered_sets.new.form c.add_entered_rows.new.form c.add_further_rows.new.form v.keeper c.other-opponent.result v.roots factors limits g.set_room g.row_room c.rows.result.now
    c.other-opponent.ensures c.rows.ensures.rows sets c.add_entered_rows.ensures c.add_further_rows.ensures in
    let own : AreSets (sets_of f v.keeper) = subst AreSets c.sets.ensures.sets c.sets.ensures.order in
    let others : AreSets (sets_of f (other v.keeper)) = subst AreSets (c.sets-2.ensures.sets ∙ ap (sets_of f) c.other-opponent.ensures) c.sets-2.ensures.order in
    let rows : AreRows f.sets1 f.sets2 f.rows = subst (AreRows f.sets1 f.sets2) c.rows.ensures.rows c.rows.ensures.there in
    ap form_model whole ∙ gadget_is rule f v.roots factors limits g.set_room g.row_room v.keeper (valid v).seat own others rows (roots_first v)
