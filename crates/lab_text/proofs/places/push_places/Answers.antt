use Rattle.std.proofs.Common.{◌<◌, arith, length, get_or, ap, ◌∙◌}
use Rattle.lab_text.proofs.FitLemmas.{place_known, place_count}
use Rattle.lab_text.proofs.LineLemmas.{place_added}
use Rattle.lab_text.proofs.places.push_places.Goals as goal

pub push_place-requires : goal.push_place-requires
push_place-requires c =
    place_known c.args.game.now c.loop-number.number c.index-places-number.result (omega (arith, c.loop-number-test.true, c.count-number-end.ensures))
    (c.index-places-number.is ∙ ap (λ ps. get_or ps c.loop-number.number c.index-places-number.result) c.as_slice-places.ensures)

pub loop-number-preserved : goal.loop-number-preserved
loop-number-preserved c =
    let named : c.loop-number.number < length c.args.game.now.names = omega (arith, c.loop-number-test.true, c.count-number-end.ensures) in
    place_added c.args.game.now c.args.game.now.places c.loop-number.number c.index-places-number.result c.name_with.result.now _ _ _
    named (omega (arith, named, place_count c.args.game.now)) c.name_with.ensures
    (c.index-places-number.is ∙ ap (λ ps. get_or ps c.loop-number.number c.index-places-number.result) c.as_slice-places.ensures)
    c.in_ok-push_place.ensures c.loop-number.invariant
