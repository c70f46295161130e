use Rattle.std.proofs.Common.{ap, ◌∙◌, sym, subst}
use Rattle.lab_world.specs.Games.{game_model}
use Rattle.lab_world.proofs.CallerLemmas.{whole_parts}
use Rattle.lab_defs_game.specs.Accepted.{IsAccepted}
use Rattle.lab_tree.specs.TreeParts.{PartsValue, AreParts, tree_with}
use Rattle.lab_tree.proofs.PartLemmas.{parts_are, tree_is}
use Rattle.lab_tree.proofs.tree.Tree.build.Goals as goal

pub invariant_of-result : goal.invariant_of-result
invariant_of-result c =
    let g = game_model c.args.game.now in
    let ok : IsAccepted g = record { good = (whole_parts c.args.game.now).0; unfolds = c.requires.accepted; recalls = c.requires.recall } in
    subst (λ (v : PartsValue). AreParts v) (sym c.in-Ok.ensures) (parts_are g ok)

pub returns : goal.returns
returns c = ap (λ (v : PartsValue). tree_with v) c.in-Ok.ensures ∙ tree_is (game_model c.args.game.now)
