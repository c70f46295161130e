use Rattle.lab_defs_value.proofs.GameSplices.{game_splice_law}
use Rattle.lab_defs_value.proofs.Splicing.{splice_law, stay_law}
use Rattle.lab_defs_value.proofs.laws.splices.Goals as goal

pub returns-clause-weights : goal.returns-clause-weights
returns-clause-weights c = splice_law

pub returns-clause-earnings : goal.returns-clause-earnings
returns-clause-earnings c = stay_law

pub returns-clause-games : goal.returns-clause-games
returns-clause-games c = game_splice_law
