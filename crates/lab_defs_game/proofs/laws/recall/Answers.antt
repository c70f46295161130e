use Rattle.lab_defs_game.proofs.RecallLemmas.{recall_law}
use Rattle.lab_defs_game.proofs.PairLaws.{legal_differs_law, forgotten_law}
use Rattle.lab_defs_game.proofs.laws.recall.Goals as goal

pub returns-clause-perfect : goal.returns-clause-perfect
returns-clause-perfect c = recall_law

pub returns-clause-differs : goal.returns-clause-differs
returns-clause-differs c = legal_differs_law

pub returns-clause-forgotten : goal.returns-clause-forgotten
returns-clause-forgotten c = forgotten_law
