use Rattle.std.proofs.Common.{◌<◌, length, sym, ap, ◌∙◌, subst}
use Rattle.lab_world.specs.Games.{game_model}
use Rattle.lab_tree.specs.Trees.{TreeValue}
use Rattle.lab_cli.specs.Counted.{tree_counts}
use Rattle.lab_cli.proofs.CountLemmas.{counts_are, some_node}
use Rattle.lab_cli.proofs.counts.counted.Goals as goal

pub counts_of_tree-requires : goal.counts_of_tree-requires
counts_of_tree-requires c =
    subst (λ (t : TreeValue). 0 < length t.nodes) (sym c.in-Ok.ensures) (some_node (game_model c.args.played.game))

pub returns-in-Ok : goal.returns-in-Ok
returns-in-Ok c = c.counts_of_tree.ensures ∙ ap tree_counts c.in-Ok.ensures ∙ counts_are (game_model c.args.played.game)
