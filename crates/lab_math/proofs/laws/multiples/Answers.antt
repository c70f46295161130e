use Rattle.lab_math.proofs.Multiples.{lcm_law, lcm_of_law}
use Rattle.lab_math.proofs.laws.multiples.Goals as goal

pub returns-clause-two : goal.returns-clause-two
returns-clause-two c = lcm_law

pub returns-clause-several : goal.returns-clause-several
returns-clause-several c = lcm_of_law
