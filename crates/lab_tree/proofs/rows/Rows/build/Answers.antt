use Rattle.std.proofs.Common.{◌∙◌, ◌∷◌, List, ap, sym, subst, length, arith}
use Rattle.std.proofs.lemmas.List.{length-map}
use Rattle.lab_world.specs.Games.{game_model}
use Rattle.lab_defs_game.specs.Nodes.{nodes, node_ends, ends_by_nodes}
use Rattle.lab_tree.specs.declared.end.End.{End}
use Rattle.lab_tree.specs.Trees.{row_in}
use Rattle.lab_tree.specs.Ends.{end_in, end_starts, parts_of, AreCuts}
use Rattle.lab_tree.proofs.Parts.{part_ends}
use Rattle.lab_tree.proofs.EndLemmas.{starts_is, cuts_are, node_rows_are, histories_few, nodes_few}
use Rattle.lab_tree.proofs.RowLemmas.{ends_few}
use Rattle.lab_tree.proofs.rows.Rows.build.Goals as goal

pub starts-requires-clause-few : goal.starts-requires-clause-few
starts-requires-clause-few c =
    let g = game_model c.args.game.now in
    let all = ap length (c.as_slice.ensures.value ∙ c.in_ok-ends.ensures.ends) ∙ length-map (ends_by_nodes g) (end_in g) in
    omega (arith, all, ends_few g, histories_few g c.requires.accepted)

pub starts-requires-clause-nodes : goal.starts-requires-clause-nodes
starts-requires-clause-nodes c =
    let g = game_model c.args.game.now in
    omega (arith, c.requires.count, nodes_few g, histories_few g c.requires.accepted)

pub invariant_of-result : goal.invariant_of-result
invariant_of-result c =
    let g = game_model c.args.game.now in
    let starts = c.in_ok-starts.ensures ∙ ap (λ (ends : List End). end_starts ends c.args.count) (c.as_slice.ensures.value ∙ c.in_ok-ends.ensures.ends) ∙ starts_is g c.args.count c.requires.count in
    subst (λ ns. AreCuts ns (length c.in_ok-items.items.items)) (sym starts) (cuts_are g (length c.in_ok-items.items.items) (ap length c.in_ok-items.ensures ∙ length-map (ends_by_nodes g) (row_in g)))

pub returns : goal.returns
returns c =
    let g = game_model c.args.game.now in
    let starts = c.in_ok-starts.ensures ∙ ap (λ (ends : List End). end_starts ends c.args.count) (c.as_slice.ensures.value ∙ c.in_ok-ends.ensures.ends) ∙ starts_is g c.args.count c.requires.count in
    ap (λ ns. parts_of ns c.in_ok-items.items.items) starts ∙ ap (parts_of (0 ∷ part_ends (node_ends g) 0 (nodes g))) c.in_ok-items.ensures ∙ node_rows_are g (row_in g)
