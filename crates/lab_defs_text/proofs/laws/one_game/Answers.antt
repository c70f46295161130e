use Rattle.lab_defs_text.proofs.ReadTextLemmas.{one_game}
use Rattle.lab_defs_text.proofs.laws.one_game.Goals as goal

pub returns : goal.returns
returns c = one_game
