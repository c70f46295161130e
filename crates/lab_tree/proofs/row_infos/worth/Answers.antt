use Rattle.std.proofs.Common.{◌<◌, ◌*ℤ◌, pos, [], length, ap, ◌∙◌, arith, rules}
use Rattle.std.specs.Int.RustNames.{FitsSigned}
use Rattle.std.specs.Int.{w32}
use Rattle.std.proofs.lemmas.Int.{to_z-of_z}
use Rattle.lab_math.proofs.Members.{in_get_or}
use Rattle.lab_defs_game.specs.Chance.{chance}
use Rattle.lab_defs_game.specs.Histories.{histories}
use Rattle.lab_world.specs.Games.{game_model}
use Rattle.lab_world.proofs.CallerLemmas.{grid_some}
use Rattle.lab_unfold.proofs.CallerLemmas.{here_below, read_chance, read_payoff}
use Rattle.lab_unfold.specs.Parents.{history_at}
use Rattle.lab_tree.proofs.RowLemmas.{chance_small}
use Rattle.lab_tree.proofs.row_infos.worth.Goals as goal

pub product-requires : goal.product-requires
product-requires c =
    let g = game_model c.args.game.now in
    let i = c.args.id.0 in
    let l : i < length (histories g) = here_below g c.args.items.now i c.requires.unfolded c.requires.there in
    let e = c.chance.ensures ∙ read_chance g c.args.items.now i c.requires.unfolded c.requires.there in
    omega (arith, e, chance_small g (history_at g i) c.requires.accepted (grid_some c.args.game.now) (in_get_or (histories g) i [] l))

pub returns : goal.returns
returns c =
    let g = game_model c.args.game.now in
    let i = c.args.id.0 in
    let e = c.chance.ensures ∙ read_chance g c.args.items.now i c.requires.unfolded c.requires.there in
    let paid = c.payoff.ensures ∙ read_payoff g c.args.items.now i c.requires.unfolded c.requires.there in
    let fits : FitsSigned w32 c.payoff.result = search rules in
    (simp to_z-of_z at c.product.ensures) ∙ ap (λ n. pos n *ℤ c.payoff.result) e ∙ ap (λ z. pos (chance g (history_at g i)) *ℤ z) paid
