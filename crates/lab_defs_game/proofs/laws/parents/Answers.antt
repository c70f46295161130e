use Rattle.lab_defs_game.proofs.TreeLaws.{parent_law, first_set_law, along_law}
use Rattle.lab_defs_game.proofs.laws.parents.Goals as goal

pub returns-clause-before : goal.returns-clause-before
returns-clause-before c = parent_law

pub returns-clause-first : goal.returns-clause-first
returns-clause-first c = first_set_law

pub returns-clause-along : goal.returns-clause-along
returns-clause-along c = along_law
