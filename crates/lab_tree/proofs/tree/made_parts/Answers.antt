use Rattle.std.proofs.Common.{ap, ◌∙◌, sym, subst, List, Option}
use Rattle.lab_world.specs.Games.{game_model}
use Rattle.lab_tree.specs.declared.info.NodeId.{NodeId}
use Rattle.lab_tree.specs.NodeValues.{NodesValue}
use Rattle.lab_tree.specs.Paths.{HavePaths, paths_by}
use Rattle.lab_tree.specs.SetValues.{SetsValue, sets_in}
use Rattle.lab_tree.proofs.PartLemmas.{have_paths}
use Rattle.lab_tree.proofs.tree.made_parts.Goals as goal

pub build-requires-4 : goal.build-requires-4
build-requires-4 c =
    let g = game_model c.args.game.now in
    let parents = c.parents.ensures ∙ ap (λ (v : NodesValue). v.parents) c.in_ok-nodes.ensures in
    subst (λ (s : SetsValue). HavePaths s.sets s.starts c.parents.result.now) (sym c.in_ok-one.ensures)
    (subst (λ (ps : List (Option NodeId)). HavePaths (sets_in g 1).sets (sets_in g 1).starts ps) (sym parents) (have_paths g 1 c.requires.accepted))

pub build-requires-5 : goal.build-requires-5
build-requires-5 c =
    let g = game_model c.args.game.now in
    let parents = c.parents-2.ensures ∙ ap (λ (v : NodesValue). v.parents) c.in_ok-nodes.ensures in
    subst (λ (s : SetsValue). HavePaths s.sets s.starts c.parents-2.result.now) (sym c.in_ok-two.ensures)
    (subst (λ (ps : List (Option NodeId)). HavePaths (sets_in g 2).sets (sets_in g 2).starts ps) (sym parents) (have_paths g 2 c.requires.accepted))

pub returns : goal.returns
returns c =
    let g = game_model c.args.game.now in
    let paths1 = c.in_ok-paths1.ensures ∙ ap (λ (s : SetsValue). paths_by s.sets s.starts c.parents.result.now) c.in_ok-one.ensures
    ∙ ap (λ (ps : List (Option NodeId)). paths_by (sets_in g 1).sets (sets_in g 1).starts ps) (c.parents.ensures ∙ ap (λ (v : NodesValue). v.parents) c.in_ok-nodes.ensures) in
    let paths2 = c.in_ok-paths2.ensures ∙ ap (λ (s : SetsValue). paths_by s.sets s.starts c.parents-2.result.now) c.in_ok-two.ensures
    ∙ ap (λ (ps : List (Option NodeId)). paths_by (sets_in g 2).sets (sets_in g 2).starts ps) (c.parents-2.ensures ∙ ap (λ (v : NodesValue). v.parents) c.in_ok-nodes.ensures) in
    λ i. record {
      unfolded = c.requires.unfolded i;
      nodes = c.in_ok-nodes.ensures i;
      one = c.in_ok-one.ensures i;
      two = c.in_ok-two.ensures i;
      paths1 = paths1 i;
      paths2 = paths2 i;
      node_rows = c.in_ok-rows.ensures i;
    }
