use Rattle.lab_defs_value.proofs.UniformLemmas.{uniform_law}
use Rattle.lab_defs_value.proofs.laws.uniform.Goals as goal

pub returns : goal.returns
returns c = uniform_law
