use Rattle.std.proofs.Common.{◌≡◌, ◌<◌, [], length, get_or, ap, sym, subst, ◌∙◌, arith}
use Rattle.std.proofs.lemmas.List.{get_or-map}
use Rattle.lab_tree.specs.NodeValues.{end_among}
use Rattle.lab_tree.specs.Trees.{TreeValue}
use Rattle.lab_tree.proofs.NodeLemmas.{end_within}
use Rattle.lab_tree.proofs.tree.Tree.rows_inside.Goals as goal

pub between-requires-clause-order : goal.between-requires-clause-order
between-requires-clause-order c =
    let nodes = c.self.inside.nodes.nodes in
    let n = c.args.node.0 in
    let there : n < length nodes = subst (λ (t : TreeValue). n < length t.nodes) (sym c.self.view_is) c.requires in
    let end : get_or c.ends.result.now n 0 ≡ end_among nodes (get_or nodes n []) = ap (λ es. get_or es n 0) (c.ends.ensures ∙ c.self.invariant.ends) ∙ get_or-map (end_among nodes) nodes n [] 0 there in
    omega (arith, end, c.self.invariant.after n there)

pub between-requires-clause-end : goal.between-requires-clause-end
between-requires-clause-end c =
    let nodes = c.self.inside.nodes.nodes in
    let n = c.args.node.0 in
    let there : n < length nodes = subst (λ (t : TreeValue). n < length t.nodes) (sym c.self.view_is) c.requires in
    let end : get_or c.ends.result.now n 0 ≡ end_among nodes (get_or nodes n []) = ap (λ es. get_or es n 0) (c.ends.ensures ∙ c.self.invariant.ends) ∙ get_or-map (end_among nodes) nodes n [] 0 there in
    omega (arith, end, end_within nodes (get_or nodes n []), c.self.invariant.node_rows)
