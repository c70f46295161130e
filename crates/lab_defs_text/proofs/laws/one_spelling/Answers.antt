use Rattle.lab_defs_text.proofs.SpellingLemmas.{one_spelling}
use Rattle.lab_defs_text.proofs.laws.one_spelling.Goals as goal

pub returns : goal.returns
returns c = one_spelling
