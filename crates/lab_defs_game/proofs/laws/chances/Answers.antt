use Rattle.lab_defs_game.proofs.ChanceSizes.{chance_le, unit_law}
use Rattle.lab_defs_game.proofs.laws.chances.Goals as goal

pub returns-clause-units : goal.returns-clause-units
returns-clause-units c = unit_law

pub returns-clause-within : goal.returns-clause-within
returns-clause-within c = chance_le
