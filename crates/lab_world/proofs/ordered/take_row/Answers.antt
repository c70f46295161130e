use Rattle.std.proofs.Common.{◌≡◌, nat_eq, true, List, Option, Some, None, position, refl, ap, sym, subst, ◌∙◌, rules}
use Rattle.std.specs.Prelude.{IfSome}
use Rattle.std.specs.List.{list_all}
use Rattle.std.specs.Option.{option_map}
use Rattle.lab_defs_text.specs.Assembly.{row_numbered}
use Rattle.lab_world.specs.declared.place.Row.{Row}
use Rattle.lab_world.specs.Models.{row_model}
use Rattle.lab_world.specs.Stages.{numbered_rows, total_fits}
use Rattle.lab_world.proofs.OrderLemmas.{row_taken, row_none, total_at, totals_set}
use Rattle.lab_world.proofs.ordered.take_row.Goals as goal

pub returns-in_err-at-clause-taken : goal.returns-in_err-at-clause-taken
returns-in_err-at-clause-taken c =
    let none : c.from_residual.result ≡ None = search rules in
    let nowhere : position (nat_eq c.args.number) c.args.left.now.numbers ≡ None = search rules in
    ap (option_map row_model) none ∙ sym (row_none c.args.number c.args.left.now.numbers c.args.left.now.rows.items nowhere)

pub returns-clause-taken : goal.returns-clause-taken
returns-clause-taken c =
    let at : position (nat_eq c.args.number) c.args.left.now.numbers ≡ Some c.in_ok-at.at = search rules in
    ap (option_map row_model) c.take_at.ensures.taken ∙ (row_taken c.args.number c.in_ok-at.at c.args.left.now.numbers c.args.left.now.rows.items at).taken

pub returns-clause-others : goal.returns-clause-others
returns-clause-others c k ne =
    let at : position (nat_eq c.args.number) c.args.left.now.numbers ≡ Some c.in_ok-at.at = search rules in
    ap (λ (rs : List Row). row_numbered k (numbered_rows c.args.left.now.numbers rs)) c.take_at.ensures.others
    ∙ (row_taken c.args.number c.in_ok-at.at c.args.left.now.numbers c.args.left.now.rows.items at).others k _ ne

pub returns-clause-total : goal.returns-clause-total
returns-clause-total c = subst (λ (o : Option Row). IfSome o (λ r. total_fits r ≡ true)) (sym c.take_at.ensures.taken) (total_at c.args.left.now.rows.items c.in_ok-at.at c.requires)

pub returns-clause-totals : goal.returns-clause-totals
returns-clause-totals c = ap (λ (rs : List Row). list_all total_fits rs) c.take_at.ensures.others ∙ totals_set c.args.left.now.rows.items c.in_ok-at.at _ c.requires refl
