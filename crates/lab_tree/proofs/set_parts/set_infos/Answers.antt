use Rattle.std.proofs.Common.{◌≡◌, ◌<◌, ◌∙◌, List, [], ℕ, length, get_or, ap, sym, arith}
use Rattle.std.proofs.lemmas.List.{length-map}
use Rattle.lab_defs_game.specs.Sets.{Item, seen, sets}
use Rattle.lab_world.specs.Games.{game_model}
use Rattle.lab_world.specs.Seats.{seat_number}
use Rattle.lab_unfold.specs.Parents.{history_at}
use Rattle.lab_tree.specs.SetValues.{set_with}
use Rattle.lab_tree.proofs.NodeLemmas.{key_at}
use Rattle.lab_tree.proofs.SetLemmas.{sets_more, weights_more, weights_few}
use Rattle.lab_tree.proofs.set_parts.set_infos.Goals as goal

pub loop-place-preserved : goal.loop-place-preserved
loop-place-preserved c =
    let g = game_model c.args.game.now in
    let seat = seat_number c.args.seat in
    let order = c.args.order.now in
    let J = c.loop-place.place in
    let inv = c.loop-place.invariant in
    let l : J < length (sets g seat) = omega (arith, c.loop-place-test.true, ap length c.requires.order, length-map order (λ (p : List Item × ℕ). p.0)) in
    let p : List Item × ℕ = get_or order J c.index-order-place.result in
    let has = c.requires.seen J c.index-order-place.result c.loop-place-test.true in
    let own : seen g seat (history_at g p.1) ≡ get_or (sets g seat) J [] =
    has.2 ∙ sym (key_at order J c.index-order-place.result [] c.loop-place-test.true) ∙ ap (λ (ks : List (List Item)). get_or ks J []) c.requires.order in
    let told = c.set_info-info.ensures.value ∙ ap (λ s. set_with g seat s J c.loop-place.weights) own in
    let more = c.weights_among-weights.ensures in
    record {
      infos = c.in_ok-push.ensures.items ∙ sets_more g seat J c.loop-place.weights c.loop-place.infos.items c.set_info-info.result l inv.weights inv.infos told;
      weights = weights_more g seat J c.loop-place.weights c.weights_among-weights.result c.set_info-info.result l inv.weights told more;
      small = omega (arith, inv.small, more, weights_few c.set_info-info.result.actions, c.set_info-info.ensures.small);
    }
