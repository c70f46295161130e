use Rattle.std.proofs.Common.{[]}
use Rattle.lab_input.proofs.RefusalLemmas.{kept_line}
use Rattle.lab_input.proofs.refusals.refused.Goals as goal

pub returns : goal.returns
returns c = kept_line c.args.line c.args.code c.new.result.items [] c.new.ensures.items
