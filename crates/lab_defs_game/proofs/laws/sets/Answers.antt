use Rattle.lab_defs_game.proofs.TreeLaws.{set_law, set_history_law}
use Rattle.lab_defs_game.proofs.RowsThrough.{set_row_law}
use Rattle.lab_defs_game.proofs.laws.sets.Goals as goal

pub returns-clause-one : goal.returns-clause-one
returns-clause-one c = set_law

pub returns-clause-some : goal.returns-clause-some
returns-clause-some c = set_history_law

pub returns-clause-rows : goal.returns-clause-rows
returns-clause-rows c = set_row_law
