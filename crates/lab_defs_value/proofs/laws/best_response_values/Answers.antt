use Rattle.lab_defs_value.proofs.PureReplies.{best_value_law}
use Rattle.lab_defs_value.proofs.laws.best_response_values.Goals as goal

pub returns : goal.returns
returns c = best_value_law
