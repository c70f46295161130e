use Rattle.lab_defs_value.proofs.GameForms.{game_form_law}
use Rattle.lab_defs_value.proofs.GameGadgets.{decides_law}
use Rattle.lab_defs_value.proofs.GameValues.{game_padded_law}
use Rattle.lab_defs_value.proofs.laws.games.Goals as goal

pub returns-clause-forms : goal.returns-clause-forms
returns-clause-forms c = game_form_law

pub returns-clause-padded : goal.returns-clause-padded
returns-clause-padded c = game_padded_law

pub returns-clause-roots : goal.returns-clause-roots
returns-clause-roots c = decides_law
