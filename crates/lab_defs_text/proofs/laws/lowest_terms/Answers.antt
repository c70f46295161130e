use Rattle.lab_defs_text.proofs.FractionLemmas.{lowest_law}
use Rattle.lab_defs_text.proofs.laws.lowest_terms.Goals as goal

pub returns : goal.returns
returns c = lowest_law
