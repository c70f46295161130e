use Rattle.lab_defs_value.proofs.Rounds.{averages_law, candidate_law, solved_law}
use Rattle.lab_defs_value.proofs.laws.averages.Goals as goal

pub returns-clause-averages : goal.returns-clause-averages
returns-clause-averages c = averages_law

pub returns-clause-candidates : goal.returns-clause-candidates
returns-clause-candidates c = candidate_law

pub returns-clause-solved : goal.returns-clause-solved
returns-clause-solved c = solved_law
