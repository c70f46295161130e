use Rattle.std.proofs.Common.{◌∙◌, ◌++◌, ◌∷◌, [], ℕ, ap, sym, arith}
use Rattle.std.specs.Prelude.{slice_index}
use Rattle.std.proofs.lemmas.List.FromFn.{map-range_with_len_more}
use Rattle.lab_form.specs.declared.items.Span.{Span}
use Rattle.lab_tree.specs.SetValues.{span_at}
use Rattle.lab_tree.proofs.set_starts.spans.Goals as goal

pub loop-node-preserved : goal.loop-node-preserved
loop-node-preserved c =
    let f : ℕ → Span = λ n. span_at c.args.starts.now n (slice_index c.args.ends.now n) in
    let n = c.loop-node.node in
    c.in_ok-push.ensures.items ∙ ap (λ ss. ss ++ f n ∷ []) c.loop-node.invariant ∙ sym (map-range_with_len_more f 0 n n (omega arith))
