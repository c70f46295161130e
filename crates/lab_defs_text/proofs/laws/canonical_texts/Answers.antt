use Rattle.lab_defs_text.proofs.OrderLemmas.{canonical_is_text}
use Rattle.lab_defs_text.proofs.laws.canonical_texts.Goals as goal

pub returns : goal.returns
returns c = canonical_is_text
