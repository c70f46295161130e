use Rattle.std.proofs.Common.{◌≡◌, ◌++◌, length, take, drop}
use Rattle.lab_defs_value.specs.Tables.{first_weight}
use Rattle.lab_defs_value.specs.Matching.{rounded_table}
use Rattle.lab_form.specs.Forms.{actions_in}
use Rattle.lab_regret.specs.Kept.{numbers}
use Rattle.lab_regret.proofs.tables.write_table.Given as goal

abbrev pub invariant-loop-i : goal.invariant-loop-i
invariant-loop-i l = record {
  places : length l.out ≡ length l.shares;
  so_far : take (first_weight (actions_in l.sets) l.i) l.out ++ rounded_table l.d (actions_in (drop l.i l.sets)) (drop (first_weight (actions_in l.sets) l.i) (numbers l.shares)) ≡ rounded_table l.d (actions_in l.sets) (numbers l.shares);
}
