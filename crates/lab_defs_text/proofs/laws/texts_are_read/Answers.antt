use Rattle.lab_defs_text.proofs.ReadTextLemmas.{text_law}
use Rattle.lab_defs_text.proofs.laws.texts_are_read.Goals as goal

pub returns : goal.returns
returns c = text_law
