use Rattle.lab_defs_game.proofs.UnfoldLaws.{too_many_law, horizon_law, size_law, accepted_law}
use Rattle.lab_defs_game.proofs.laws.unfolding.Goals as goal

pub returns-clause-too_many : goal.returns-clause-too_many
returns-clause-too_many c = too_many_law

pub returns-clause-horizon : goal.returns-clause-horizon
returns-clause-horizon c = horizon_law

pub returns-clause-size : goal.returns-clause-size
returns-clause-size c = size_law

pub returns-clause-accepted : goal.returns-clause-accepted
returns-clause-accepted c = accepted_law
