use Rattle.lab_defs_text.proofs.ReadTextLemmas.{no_game}
use Rattle.lab_defs_text.proofs.laws.no_game.Goals as goal

pub returns : goal.returns
returns c = no_game
