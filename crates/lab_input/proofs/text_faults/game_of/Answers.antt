use Rattle.lab_text.specs.Faults.{text_fault}
use Rattle.lab_input.proofs.RefusalLemmas.{gives_text}
use Rattle.lab_input.proofs.text_faults.game_of.Goals as goal

pub returns-in-Err : goal.returns-in-Err
returns-in-Err c = gives_text c.args.text.now _ (text_fault c.in-Err.fault) c.refused_text.result c.in-Err.ensures.exact c.refused_text.ensures
