use Rattle.std.proofs.Common.{◌++◌, ap, ◌∙◌}
use Rattle.lab_lines.proofs.AddLemmas.{spaced_piece}
use Rattle.lab_lines.proofs.reply.push_number.Goals as goal

pub returns : goal.returns
returns c = spaced_piece _ _ _ _ c.push.ensures (c.push-2.ensures ∙ ap (λ t. c.push.new.self ++ t) c.number_word.ensures.word)
