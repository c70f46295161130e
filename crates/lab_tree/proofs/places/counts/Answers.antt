use Rattle.std.proofs.Common.{◌<◌, length, map, ap, ◌∙◌, sym, subst}
use Rattle.std.specs.List.{range_with_len}
use Rattle.std.proofs.lemmas.List.FromFn.{length-map-range_with_len}
use Rattle.lab_tree.specs.Places.{count_back}
use Rattle.lab_tree.proofs.Parts.{told_next}
use Rattle.lab_tree.proofs.places.counts.Goals as goal

pub count-requires-clause-counts : goal.count-requires-clause-counts
count-requires-clause-counts c =
    let f = count_back c.args.sets.now in
    let told = c.as_slice.ensures.value ∙ c.loop.invariant in
    told ∙ sym (ap (λ n. map f (range_with_len 0 n)) (ap length told ∙ length-map-range_with_len f 0 c.loop.counter))

pub count-requires-clause-below : goal.count-requires-clause-below
count-requires-clause-below c =
    let f = count_back c.args.sets.now in
    subst (λ n. n < length c.args.sets.now) (sym (ap length (c.as_slice.ensures.value ∙ c.loop.invariant) ∙ length-map-range_with_len f 0 c.loop.counter)) c.loop-test.true

pub loop-preserved : goal.loop-preserved
loop-preserved c =
    let f = count_back c.args.sets.now in
    let long = ap length (c.as_slice.ensures.value ∙ c.loop.invariant) ∙ length-map-range_with_len f 0 c.loop.counter in
    told_next f c.loop.counter c.loop.counts.items c.push.new.self.items c.count.result c.loop.invariant (c.count.ensures ∙ ap f long) c.in_ok-push.ensures.items
