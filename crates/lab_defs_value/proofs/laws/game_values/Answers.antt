use Rattle.lab_defs_value.proofs.GameValues.{game_expectation_law, game_guarantee_law, game_best_table_law, game_earning_law}
use Rattle.lab_defs_value.proofs.laws.game_values.Goals as goal

pub returns-clause-earned : goal.returns-clause-earned
returns-clause-earned c = game_expectation_law

pub returns-clause-guarantee : goal.returns-clause-guarantee
returns-clause-guarantee c = game_guarantee_law

pub returns-clause-best : goal.returns-clause-best
returns-clause-best c = game_best_table_law

pub returns-clause-sets : goal.returns-clause-sets
returns-clause-sets c = game_earning_law
