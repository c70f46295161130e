use Rattle.std.proofs.Common.{◌≡◌, ◌∷◌, [], ◌++◌, ℕ, List, false, nat_eq, length, ap, sym, ◌∙◌}
use Rattle.std.specs.Prelude.{◌==◌, ◌&&◌}
use Rattle.std.specs.List.{list_any, list_all}
use Rattle.lab_defs_text.specs.Games as model
use Rattle.lab_world.specs.declared.place.Row.{Row}
use Rattle.lab_world.specs.Stages.{known_row_of, numbered_rows, placed_rows_of, total_fits}
use Rattle.lab_world.proofs.RowLemmas.{taken_number, numbered_push, row_taken, row_new, rows_that_fit, fit_push}
use Rattle.lab_world.proofs.placed.place_row.Goals as goal

pub returns-then-contains-clause-row : goal.returns-then-contains-clause-row
returns-then-contains-clause-row c =
    let h = rows_that_fit c.args.found.now.numbers c.args.found.now.rows.items c.requires.fit in
    row_taken c.args.one.now c.args.two.now (placed_rows_of c.args.found.now) (known_row_of c.args.row) c.in_ok-number.number c.in_ok-number.ensures
    (taken_number c.in_ok-number.number c.args.found.now.numbers c.args.found.now.rows.items h.even ∙ sym c.contains.ensures ∙ c.if-contains.true)

pub returns-clause-row : goal.returns-clause-row
returns-clause-row c =
    let k = c.in_ok-number.number in
    let keys = c.args.found.now.numbers in
    let items = c.args.found.now.rows.items in
    let h = rows_that_fit keys items c.requires.fit in
    let none : list_any (nat_eq k) keys ≡ false = sym c.contains.ensures ∙ c.if-contains.false in
    let made = c.in_ok-add.ensures in
    row_new c.args.one.now c.args.two.now (placed_rows_of c.args.found.now) (numbered_rows c.add.new.self c.push.new.self.items) (known_row_of c.args.row) k c.in_ok-number.ensures
    (taken_number k keys items h.even ∙ none)
    (ap (λ (ks : List ℕ). numbered_rows ks c.push.new.self.items) made
    ∙ ap (λ (rs : List Row). numbered_rows (keys ++ k ∷ []) rs) c.in_ok-push.ensures.items
    ∙ numbered_push keys items k c.whole_row.result h.even
    ∙ ap (λ (os : List model.Outcome). numbered_rows keys items ++ record { number = k; outcomes = os } ∷ []) c.whole_row.ensures.outcomes)

pub returns-clause-fit : goal.returns-clause-fit
returns-clause-fit c =
    let keys = c.args.found.now.numbers in
    let items = c.args.found.now.rows.items in
    let more = fit_push keys items c.in_ok-number.number c.whole_row.result (rows_that_fit keys items c.requires.fit) c.whole_row.ensures.total in
    ap (λ (ks : List ℕ). length ks == length c.push.new.self.items && list_all total_fits c.push.new.self.items) c.in_ok-add.ensures
    ∙ ap (λ (rs : List Row). length (keys ++ c.in_ok-number.number ∷ []) == length rs && list_all total_fits rs) c.in_ok-push.ensures.items ∙ more
