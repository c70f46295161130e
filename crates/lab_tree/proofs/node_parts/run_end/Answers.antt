use Rattle.std.proofs.Common.{◌≡◌, ◌∙◌, ap, sym, length, [], get_or, arith, true, false}
use Rattle.std.proofs.lemmas.List.{length-map}
use Rattle.lab_defs_game.specs.Nodes.{begins}
use Rattle.lab_tree.specs.NodeValues.{keys_in}
use Rattle.lab_tree.proofs.NodeLemmas.{run_first, run_more, run_stop, end_within, key_at}
use Rattle.lab_tree.proofs.node_parts.run_end.Goals as goal

pub loop-end-init : goal.loop-end-init
loop-end-init c =
    let xs = keys_in c.args.order.now in
    let n : length xs ≡ length c.args.order.now = length-map c.args.order.now (λ p. p.0) in
    let t = c.requires.there in
    let r = run_first xs c.args.node c.requires.sorted (omega (arith, n, t)) in
    record { past = omega arith; within = omega (arith, t); run = r }

pub loop-end-preserved : goal.loop-end-preserved
loop-end-preserved c =
    let xs = keys_in c.args.order.now in
    let n : length xs ≡ length c.args.order.now = length-map c.args.order.now (λ p. p.0) in
    let t = c.requires.there in
    let i = c.loop-end.invariant in
    let l = c.loop-end-test.true in
    let from = key_at c.args.order.now c.args.node c.index-order-node.result [] t in
    let to = key_at c.args.order.now c.loop-end.end c.index-order-end.result [] l in
    let b : begins (get_or xs c.args.node []) (get_or xs c.loop-end.end []) ≡ true =
    ap (λ k. begins k (get_or xs c.loop-end.end [])) from ∙ ap (begins (get_or c.args.order.now c.args.node c.index-order-node.result).0) to ∙ sym c.begins.ensures ∙ c.if-begins.true in
    record { past = omega (arith, i.past); within = omega (arith, l); run = run_more xs c.args.node c.requires.sorted (omega (arith, n, t)) c.loop-end.end (omega (arith, n, l)) b }

pub returns-else-begins-clause-value : goal.returns-else-begins-clause-value
returns-else-begins-clause-value c =
    let xs = keys_in c.args.order.now in
    let n : length xs ≡ length c.args.order.now = length-map c.args.order.now (λ p. p.0) in
    let t = c.requires.there in
    let i = c.loop-end.invariant in
    let l = c.loop-end-test.true in
    let from = key_at c.args.order.now c.args.node c.index-order-node.result [] t in
    let to = key_at c.args.order.now c.loop-end.end c.index-order-end.result [] l in
    let b : begins (get_or xs c.args.node []) (get_or xs c.loop-end.end []) ≡ false =
    ap (λ k. begins k (get_or xs c.loop-end.end [])) from ∙ ap (begins (get_or c.args.order.now c.args.node c.index-order-node.result).0) to ∙ sym c.begins.ensures ∙ c.if-begins.false in
    let stop = run_stop xs c.args.node c.requires.sorted (omega (arith, n, t)) c.loop-end.end (omega (arith, n, l)) i.past b in
    omega (arith, i.run, stop)

pub returns-after-loop-end-clause-value : goal.returns-after-loop-end-clause-value
returns-after-loop-end-clause-value c =
    let xs = keys_in c.args.order.now in
    let n : length xs ≡ length c.args.order.now = length-map c.args.order.now (λ p. p.0) in
    let i = c.loop-end.invariant in
    let f = c.loop-end-test.false in
    let fits = end_within xs (get_or xs c.args.node []) in
    omega (arith, i.run, i.within, fits, f, n)
