use Rattle.lab_tree.proofs.FormLaws.{form_parts_law, form_law}
use Rattle.lab_tree.proofs.laws.forms.Goals as goal

pub returns-clause-parts : goal.returns-clause-parts
returns-clause-parts c = form_parts_law

pub returns-clause-form : goal.returns-clause-form
returns-clause-form c = form_law
