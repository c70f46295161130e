use Rattle.lab_defs_text.proofs.ReadTextLemmas.{read_back}
use Rattle.lab_defs_text.proofs.laws.canonical_texts_are_read.Goals as goal

pub returns : goal.returns
returns c = read_back
