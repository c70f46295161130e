use Rattle.std.proofs.lemmas.Result.{on_ok_weaker}
use Rattle.lab_world.specs.Models.{recall_model}
use Rattle.lab_text.proofs.LineLemmas.{head_added}
use Rattle.lab_text.proofs.write.push_head.Goals as goal

pub returns : goal.returns
returns c =
    on_ok_weaker c.push_line-2.result
    (λ last. head_added _ _ _ _ _ _ c.args.grid c.args.horizon (recall_model c.args.recall) c.in_ok-push_line.ensures.added c.in_ok-push_number.ensures c.in_ok-push_number-2.ensures c.memory_word.ensures last)
    c.push_line-2.ensures.added
