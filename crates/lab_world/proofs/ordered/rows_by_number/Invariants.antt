use Rattle.std.proofs.Common.{◌≡◌, ◌*◌, ◌-◌, ◌≤◌, ℕ, map, true}
use Rattle.std.specs.List.{list_all, range_with_len}
use Rattle.lab_defs_text.specs.Steps.{each}
use Rattle.lab_defs_text.specs.Assembly.{row_at, row_numbered}
use Rattle.lab_world.specs.Models.{row_model}
use Rattle.lab_world.specs.Stages.{placed_rows_of, total_fits}
use Rattle.lab_world.proofs.EachLemmas.{each_on}
use Rattle.lab_world.proofs.ordered.rows_by_number.Given as goal

abbrev pub invariant-loop-number : goal.invariant-loop-number
invariant-loop-number l = record {
  made : each_on (row_at l.line l.seconds (placed_rows_of l.fn.placed)) (map row_model l.found.items) (range_with_len l.number (l.firsts * l.seconds - l.number))
      ≡ each (row_at l.line l.seconds (placed_rows_of l.fn.placed)) (range_with_len 0 (l.firsts * l.seconds));
  kept : (k : ℕ) → l.number ≤ k → row_numbered k (placed_rows_of l.left) ≡ row_numbered k (placed_rows_of l.fn.placed);
  totals : list_all total_fits l.found.items ≡ true;
  rest : list_all total_fits l.left.rows.items ≡ true;
}
