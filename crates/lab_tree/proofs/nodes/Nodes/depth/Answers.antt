use Rattle.std.proofs.Common.{◌≡◌, ◌∙◌, ap, sym, List, [], ℕ, length, get_or, arith}
use Rattle.std.proofs.lemmas.List.{length-map}
use Rattle.lab_tree.specs.NodeValues.{NodesValue, keys_in}
use Rattle.lab_tree.proofs.NodeLemmas.{key_at}
use Rattle.lab_tree.proofs.nodes.Nodes.depth.Goals as goal

pub overflow_cast-result : goal.overflow_cast-result
overflow_cast-result c =
    let order = c.self.inside.order.items in
    let n : length (keys_in order) ≡ length c.args.self.now.nodes = ap (λ (v : NodesValue). length v.nodes) c.self.view_is in
    let short = c.self.invariant.1 c.args.node.0 [] (omega (arith, n, c.requires)) in
    let key = key_at order c.args.node.0 c.index.result.now [] (omega (arith, n, c.requires, length-map order (λ (p : List ℕ × ℕ). p.0))) in
    let read : length c.as_slice.result.now ≡ length (get_or (keys_in order) c.args.node.0 []) = ap length (c.as_slice.ensures ∙ ap (λ (p : List ℕ × ℕ). p.0) c.index.ensures ∙ sym key) in
    omega (arith, short, read)
