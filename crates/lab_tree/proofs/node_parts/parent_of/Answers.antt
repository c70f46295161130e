use Rattle.std.proofs.Common.{◌<◌, ◌∙◌, ap, sym, List, [], Some, get_or, length, arith}
use Rattle.std.proofs.lemmas.List.{get_or-map}
use Rattle.lab_defs_game.specs.Histories as model
use Rattle.lab_defs_game.specs.Nodes as nodes
use Rattle.lab_defs_game.specs.Sets.{public_list}
use Rattle.lab_world.specs.Games.{game_model}
use Rattle.lab_unfold.specs.Items.{item_model}
use Rattle.lab_unfold.specs.Parents.{history_at}
use Rattle.lab_tree.specs.Behind.{IsBehind}
use Rattle.lab_tree.specs.NodeValues.{parent_node}
use Rattle.lab_tree.specs.Trees.{node_id}
use Rattle.lab_tree.specs.declared.info.NodeId.{NodeId}
use Rattle.lab_tree.proofs.BehindLemmas.{public_behind}
use Rattle.lab_tree.proofs.NodeLemmas.{parent_node_push}
use Rattle.lab_tree.proofs.node_parts.parent_of.Goals as goal

pub returns-in-Some : goal.returns-in-Some
returns-in-Some c =
    let g = game_model c.args.game.now in
    let p = c.in-Some.before.0 in
    let x = item_model c.in-Some.field-0-1 in
    let b : IsBehind g 1 c.args.id.0 p x = c.in-Some.ensures.some in
    let l : p < length (model.histories g) = omega (arith, b.before, c.requires.there) in
    ap (λ (ns : List NodeId). Some (get_or ns p (node_id 0))) c.requires.of ∙ ap Some (get_or-map (λ h. node_id (nodes.node_of g h)) (model.histories g) p [] (node_id 0) l)
    ∙ sym (ap (parent_node g) (public_behind g 1 c.args.id.0 p x b) ∙ parent_node_push g (public_list g (history_at g p)) x.public)
