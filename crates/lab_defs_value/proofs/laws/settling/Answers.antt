use Rattle.lab_defs_value.proofs.BestLaws.{settle_law}
use Rattle.lab_defs_value.proofs.SettledBounds.{settled_law}
use Rattle.lab_defs_value.proofs.GameSettling.{game_settled_law}
use Rattle.lab_defs_value.proofs.laws.settling.Goals as goal

pub returns-clause-each : goal.returns-clause-each
returns-clause-each c = settle_law

pub returns-clause-settled : goal.returns-clause-settled
returns-clause-settled c = settled_law

pub returns-clause-games : goal.returns-clause-games
returns-clause-games c = game_settled_law
