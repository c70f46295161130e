use Rattle.lab_rule_laws.proofs.ViewShares.{view_allowance_law}
use Rattle.lab_rule_laws.proofs.ViewPaths.{view_law}
use Rattle.lab_rule_laws.proofs.ViewGadgets.{view_gadget_law}
use Rattle.lab_rule_laws.proofs.views.views.Goals as goal

pub returns-clause-allowances : goal.returns-clause-allowances
returns-clause-allowances c = view_allowance_law

pub returns-clause-keeps : goal.returns-clause-keeps
returns-clause-keeps c = view_law

pub returns-clause-gadgets : goal.returns-clause-gadgets
returns-clause-gadgets c = view_gadget_law
