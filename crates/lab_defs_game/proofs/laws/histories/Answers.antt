use Rattle.lab_defs_game.proofs.Legal.{history_law}
use Rattle.lab_defs_game.proofs.HistoryOrder.{history_order_law}
use Rattle.lab_defs_game.proofs.laws.histories.Goals as goal

pub returns-clause-legal : goal.returns-clause-legal
returns-clause-legal c = history_law

pub returns-clause-order : goal.returns-clause-order
returns-clause-order c = history_order_law
