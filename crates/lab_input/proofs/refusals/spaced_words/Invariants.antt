use Rattle.std.proofs.Common.{◌≡◌, map, take}
use Rattle.lab_lines.specs.Lines.{spaced}
use Rattle.lab_input.proofs.refusals.spaced_words.Given as goal

abbrev pub invariant-loop-word : goal.invariant-loop-word
invariant-loop-word l = l.text.items ≡ spaced (map (λ w. w.now) (take l.word-index l.words))
