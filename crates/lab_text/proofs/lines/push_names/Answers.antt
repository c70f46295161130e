use Rattle.lab_defs_text.specs.Texts.{name_of}
use Rattle.lab_world.specs.declared.place.ActionId.{ActionId}
use Rattle.lab_text.proofs.WordLemmas.{word_added}
use Rattle.lab_text.proofs.lines.push_names.Goals as goal

pub loop-id-preserved : goal.loop-id-preserved
loop-id-preserved c =
    word_added (λ (i : ActionId). name_of c.args.actions.now i.0) c.args.ids.now c.loop-id.id-index _ c.loop-id.text.items c.push_word.new.text.items c.name_with.result.now _
    c.loop-id-test.true c.name_with.ensures c.in_ok-push_word.ensures.added c.loop-id.invariant
