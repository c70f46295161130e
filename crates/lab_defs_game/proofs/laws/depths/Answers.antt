use Rattle.lab_defs_game.proofs.HistoryCounts.{history_count_law}
use Rattle.lab_defs_game.proofs.laws.depths.Goals as goal

pub returns : goal.returns
returns c = history_count_law
