use Rattle.lab_text.proofs.WordLemmas.{line_added}
use Rattle.lab_text.proofs.lines.push_pieces.Goals as goal

pub returns-clause-added : goal.returns-clause-added
returns-clause-added c = line_added _ _ _ _ _ _ c.in_ok-extend_from_slice.ensures.items c.in_ok-push_words.ensures.added c.in_ok-push.ensures.items
