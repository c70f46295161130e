use Rattle.std.proofs.Common.{ap, ◌∙◌, map}
use Rattle.std.proofs.lemmas.List.{take_all}
use Rattle.lab_lines.specs.Lines.{spaced}
use Rattle.lab_input.proofs.RefusalLemmas.{words_more}
use Rattle.lab_input.proofs.refusals.spaced_words.Goals as goal

pub loop-word-preserved : goal.loop-word-preserved
loop-word-preserved c =
    words_more (λ w. w.now) c.args.words.now c.loop-word.word-index _ c.loop-word.text.items c.push.new.self.items c.extend_from_slice.new.self.items c.loop-word-test.true c.loop-word.invariant c.in_ok-push.ensures.items
    c.in_ok-extend_from_slice.ensures.items

pub returns : goal.returns
returns c = c.loop-word.invariant ∙ ap (λ ws. spaced (map (λ w. w.now) ws)) (take_all c.loop-word.word-index c.args.words.now c.loop-word-test.false)
