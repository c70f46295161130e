use Rattle.std.proofs.Common.{◌∙◌, ◌+◌, ◌++◌, ◌∷◌, [], ap, sym, arith}
use Rattle.std.proofs.lemmas.List.FromFn.{map-range_with_len_more}
use Rattle.lab_tree.specs.SetValues.{start_of}
use Rattle.lab_tree.proofs.StartLemmas.{start_more}
use Rattle.lab_tree.proofs.set_starts.starts.Goals as goal

pub loop-node-preserved : goal.loop-node-preserved
loop-node-preserved c =
    let f = start_of c.args.sets.now in
    let n = c.loop-node.node in
    let e = c.start_from-at.ensures.value in
    record {
      starts = c.in_ok-push.ensures.items ∙ ap (λ s. c.loop-node.starts.items ++ s ∷ []) e ∙ ap (λ ss. ss ++ f n ∷ []) c.loop-node.invariant.starts ∙ sym (map-range_with_len_more f 0 n n (omega arith));
      known = omega (arith, e, start_more c.args.sets.now n (n + 1) (omega arith));
    }
