use Rattle.std.proofs.Common.{◌≡◌, ◌∷◌, [], ◌++◌, ◌<◌, ◌^◌, sym, ◌∙◌, subst, arith, OnOk}
use lib.Chars.{codes}
use Rattle.lab_defs_text.specs.Numbers.{numeral}
use Rattle.lab_defs_text.specs.Lines.{joined}
use Rattle.lab_defs_text.proofs.NumeralLemmas.{numeral_is}
use Rattle.lab_defs_text.proofs.GameLemmas.{outcome_fine, within_small}
use Rattle.lab_world.specs.Models.{outcome_model}
use Rattle.lab_world.specs.Games.{game_model}
use Rattle.lab_text.proofs.LineLemmas.{six_words}
use Rattle.lab_text.proofs.places.push_outcome.Goals as goal

pub returns : goal.returns
returns c =
    let fine = outcome_fine (game_model c.args.game.now) (outcome_model c.args.outcome.now) c.requires in
    let small : c.args.outcome.now.weight < 10 ^ 40 = omega (arith, within_small 1 1048576 c.args.outcome.now.weight fine.weight (omega arith)) in
    let digits : c.as_bytes.result.now ≡ numeral c.args.outcome.now.weight =
    c.as_bytes.ensures.value ∙ c.format.ensures.text ∙ sym (numeral_is c.args.outcome.now.weight small) in
    subst (λ ws. OnOk c.push_line.result (c.push_line.new.text.items ≡ c.args.text.now.items ++ (joined ws ++ 10 ∷ [])))
    (six_words (codes "to") _ _ _ _ _ _ _ _ _ _ digits c.name_with.ensures c.name_with-2.ensures c.name_with-3.ensures c.name_with-4.ensures) c.push_line.ensures.added
