use Rattle.std.proofs.Common.{◌≡◌, ◌*◌, rules, ℕ, Ok, map, length, subst}
use Rattle.std.specs.List.{range_with_len}
use Rattle.lab_defs_text.specs.Steps.{each}
use Rattle.lab_defs_text.specs.Assembly.{row_at}
use Rattle.lab_world.specs.Models.{row_model}
use Rattle.lab_world.specs.Stages.{placed_rows_of}
use Rattle.lab_world.proofs.RowLemmas.{rows_that_fit}
use Rattle.lab_world.proofs.OrderLemmas.{rows_in_order}
use Rattle.lab_world.proofs.ordered.rows_in_order.Goals as goal

pub returns-then-are_in_order-clause-rows : goal.returns-then-are_in_order-clause-rows
returns-then-are_in_order-clause-rows c =
    let ks = c.args.placed.numbers in
    let rs = c.args.placed.rows.items in
    let h = rows_that_fit ks rs c.requires in
    let count : length rs ≡ c.args.one * c.args.two = search rules in
    let all = rows_in_order c.args.line c.args.two ks rs h.even (c.are_in_order.ensures c.if-are_in_order.true) in
    subst (λ (n : ℕ). each (row_at c.args.line c.args.two (placed_rows_of c.args.placed)) (range_with_len 0 n) ≡ Ok (map row_model rs)) count all
