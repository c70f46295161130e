-- What contracts see of regrets.
use Rattle.std.specs.Prelude.{ℕ, List, slice_index}
use Rattle.lab_regret.specs.declared.play.Columns.{Columns}
use Rattle.lab_regret.specs.declared.room.Places.{Places}
use Rattle.lab_regret.specs.Kept.{RegretsValue, numbers}

-- the regrets with these places and columns
abbrev pub regrets_in : (places1 places2 : Places) (one two : Columns) (rounds : ℕ) (grids : List ℕ) (set_room row_room weight_room : ℕ) → RegretsValue
regrets_in places1 places2 one two rounds grids set_room row_room weight_room = record {
  actions1 = places1.actions.items;
  actions2 = places2.actions.items;
  tally = record { regrets1 = numbers one.regrets.items; regrets2 = numbers two.regrets.items; sums1 = numbers one.sums.items; sums2 = numbers two.sums.items };
  rounds = rounds;
  grid1 = slice_index grids 0;
  grid2 = slice_index grids 1;
  set_room = set_room;
  row_room = row_room;
  weight_room = weight_room;
}
