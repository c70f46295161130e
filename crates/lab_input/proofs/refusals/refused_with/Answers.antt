use Rattle.std.proofs.Common.{map}
use Rattle.lab_input.proofs.RefusalLemmas.{kept_line}
use Rattle.lab_input.proofs.refusals.refused_with.Goals as goal

pub returns-in-Ok : goal.returns-in-Ok
returns-in-Ok c = kept_line c.args.line c.args.code c.in-Ok.rest.items (map (λ w. w.now) c.args.words.now) c.in-Ok.ensures
