use Rattle.std.proofs.Common.{◌<◌, length, map, ap, ◌∙◌, sym, subst}
use Rattle.std.specs.List.{range_with_len}
use Rattle.std.proofs.lemmas.List.FromFn.{length-map-range_with_len}
use Rattle.lab_tree.specs.Places.{place_at}
use Rattle.lab_tree.proofs.Parts.{told_next}
use Rattle.lab_tree.proofs.places.places.Goals as goal

pub place-requires-clause-places : goal.place-requires-clause-places
place-requires-clause-places c =
    let f = place_at c.args.sets.now in
    let told = c.as_slice.ensures.value ∙ c.loop.invariant in
    told ∙ sym (ap (λ n. map f (range_with_len 0 n)) (ap length told ∙ length-map-range_with_len f 0 c.loop.counter))

pub place-requires-clause-below : goal.place-requires-clause-below
place-requires-clause-below c =
    let f = place_at c.args.sets.now in
    subst (λ n. n < length c.args.sets.now) (sym (ap length (c.as_slice.ensures.value ∙ c.loop.invariant) ∙ length-map-range_with_len f 0 c.loop.counter)) c.loop-test.true

pub loop-preserved : goal.loop-preserved
loop-preserved c =
    let f = place_at c.args.sets.now in
    let long = ap length (c.as_slice.ensures.value ∙ c.loop.invariant) ∙ length-map-range_with_len f 0 c.loop.counter in
    told_next f c.loop.counter c.loop.places.items c.push.new.self.items c.place.result c.loop.invariant (c.place.ensures ∙ ap f long) c.in_ok-push.ensures.items
