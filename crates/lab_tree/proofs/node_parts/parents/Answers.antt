use Rattle.std.proofs.Common.{◌∙◌, ap, sym, subst}
use Rattle.lab_world.specs.Games.{game_model}
use Rattle.lab_tree.specs.NodeValues.{HasList, parent_node}
use Rattle.lab_tree.proofs.NodeLemmas.{parents_more}
use Rattle.lab_tree.proofs.node_parts.parents.Goals as goal

pub loop-entry-preserved : goal.loop-entry-preserved
loop-entry-preserved c =
    let g = game_model c.args.game.now in
    let i = c.loop-entry.entry-index in
    let has = subst (HasList g) (sym c.entry-item.is) (c.requires.lists i c.entry-item.result c.loop-entry-test.true) in
    c.in_ok-push.ensures.items
    ∙ parents_more g c.args.order.now i c.entry-item.result c.loop-entry.parents.items c.parent_of.result c.loop-entry-test.true c.entry-item.is (c.parent_of.ensures ∙ ap (parent_node g) has.1) c.loop-entry.invariant
