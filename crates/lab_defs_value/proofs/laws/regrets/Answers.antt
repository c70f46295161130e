use Rattle.lab_defs_value.proofs.RegretSums.{actions_law, value_law, regret_law}
use Rattle.lab_defs_value.proofs.Earnings.{earning_law}
use Rattle.lab_defs_value.proofs.Rounds.{regret_lists_law, round_law}
use Rattle.lab_defs_value.proofs.laws.regrets.Goals as goal

pub returns-clause-there : goal.returns-clause-there
returns-clause-there c = actions_law

pub returns-clause-values : goal.returns-clause-values
returns-clause-values c = value_law

pub returns-clause-regrets : goal.returns-clause-regrets
returns-clause-regrets c = regret_law

pub returns-clause-earnings : goal.returns-clause-earnings
returns-clause-earnings c = earning_law

pub returns-clause-tallies : goal.returns-clause-tallies
returns-clause-tallies c = regret_lists_law

pub returns-clause-rounds : goal.returns-clause-rounds
returns-clause-rounds c = round_law
