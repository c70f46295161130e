use Rattle.std.proofs.Common.{◌≡◌, ◌+◌, ◌<◌, ◌^◌, length, map, [], true}
use Rattle.std.specs.List.{list_all}
use Rattle.std.specs.Vec.Iter.{into_iter_items}
use Rattle.lab_defs_text.specs.Assembly.{place_rows}
use Rattle.lab_world.specs.Stages.{weights_fit, known_row_of, placed_rows_of, rows_fit}
use Rattle.lab_world.proofs.RowLemmas.{rows_on}
use Rattle.lab_world.proofs.placed.place_rows.Given as goal

abbrev pub invariant-loop-row : goal.invariant-loop-row
invariant-loop-row l = record {
  made : rows_on l.one l.two (placed_rows_of l.found) (map known_row_of (into_iter_items l.row-iterator)) ≡ place_rows l.one l.two [] (map known_row_of l.fn.rows.items);
  fit : rows_fit l.found ≡ true;
  few : length l.found.rows.items + length (into_iter_items l.row-iterator) < 2 ^ 32;
  weights : list_all weights_fit (map known_row_of (into_iter_items l.row-iterator)) ≡ true;
}
