use Rattle.std.proofs.Common.{◌≡◌, ap, ◌∙◌, ◌++◌}
use Rattle.lab_lines.specs.Codes.{code_name}
use Rattle.lab_lines.proofs.RefusalLemmas.{head_pieces}
use Rattle.lab_lines.proofs.refusal.head.Goals as goal

pub returns : goal.returns
returns c =
    let name : c.as_bytes.result.now ≡ code_name c.args.code = c.as_bytes.ensures.value ∙ c.name.ensures.name in
    head_pieces _ _ _ _ _ _ _ c.new-head.ensures c.push.ensures (c.push-2.ensures ∙ ap (λ t. c.push.new.self ++ t) c.number_word.ensures.word) c.push-3.ensures (c.push-4.ensures ∙ ap (λ t. c.push-3.new.self ++ t) name)
