use Rattle.std.proofs.Common.{◌∷◌, [], subst}
use lib.Chars.{codes}
use Rattle.lab_defs_text.specs.Numbers.{numeral}
use Rattle.lab_defs_report.specs.Refusals.{refused, scale_word}
use Rattle.lab_input.specs.Stops.{IsRefusal}
use Rattle.lab_input.proofs.game_faults.refused_size.Goals as goal

pub returns : goal.returns
returns c =
    subst (λ d. IsRefusal (refused c.args.line (codes "SizePassed") (numeral c.args.top ∷ scale_word c.args.k ∷ numeral c.args.most1 ∷ d ∷ [])) c.refused_with.result) c.number_word-most2.ensures.word
    (subst (λ d. IsRefusal (refused c.args.line (codes "SizePassed") (numeral c.args.top ∷ scale_word c.args.k ∷ d ∷ c.number_word-most2.result.now ∷ [])) c.refused_with.result) c.number_word-most1.ensures.word
    (subst (λ d. IsRefusal (refused c.args.line (codes "SizePassed") (numeral c.args.top ∷ d ∷ c.number_word-most1.result.now ∷ c.number_word-most2.result.now ∷ [])) c.refused_with.result) c.told_word-scale.ensures
    (subst (λ d. IsRefusal (refused c.args.line (codes "SizePassed") (d ∷ c.told_word-scale.result.now ∷ c.number_word-most1.result.now ∷ c.number_word-most2.result.now ∷ [])) c.refused_with.result) c.number_word-top.ensures.word c.refused_with.ensures)))
