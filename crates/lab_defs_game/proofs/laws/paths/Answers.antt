use Rattle.lab_defs_game.proofs.TreeLaws.{path_law, follower_law}
use Rattle.lab_defs_game.proofs.PathItems.{follow_law, first_item_law}
use Rattle.lab_defs_game.proofs.laws.paths.Goals as goal

pub returns-clause-parents : goal.returns-clause-parents
returns-clause-parents c = path_law

pub returns-clause-places : goal.returns-clause-places
returns-clause-places c = follower_law

pub returns-clause-follows : goal.returns-clause-follows
returns-clause-follows c = follow_law

pub returns-clause-first : goal.returns-clause-first
returns-clause-first c = first_item_law
