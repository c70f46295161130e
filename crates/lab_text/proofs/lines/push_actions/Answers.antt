use Rattle.lab_text.proofs.WordLemmas.{line_added}
use Rattle.lab_text.proofs.lines.push_actions.Goals as goal

pub returns : goal.returns
returns c = line_added _ _ _ _ _ _ c.in_ok-extend_from_slice.ensures.items c.in_ok-push_names.ensures c.in_ok-push.ensures.items
