use Rattle.lab_defs_value.proofs.SubgameRows.{subgame_law}
use Rattle.lab_defs_value.proofs.SubgameForms.{subgame_form_law}
use Rattle.lab_defs_value.proofs.laws.subgames.Goals as goal

pub returns-clause-worths : goal.returns-clause-worths
returns-clause-worths c = subgame_law

pub returns-clause-forms : goal.returns-clause-forms
returns-clause-forms c = subgame_form_law
