use Rattle.lab_defs_value.proofs.GadgetSets.{gadget_law}
use Rattle.lab_defs_value.proofs.GadgetForms.{gadget_form_law}
use Rattle.lab_defs_value.proofs.GameGadgets.{game_gadget_law}
use Rattle.lab_defs_value.proofs.laws.gadgets.Goals as goal

pub returns-clause-keeps : goal.returns-clause-keeps
returns-clause-keeps c = gadget_law

pub returns-clause-forms : goal.returns-clause-forms
returns-clause-forms c = gadget_form_law

pub returns-clause-games : goal.returns-clause-games
returns-clause-games c = game_gadget_law
