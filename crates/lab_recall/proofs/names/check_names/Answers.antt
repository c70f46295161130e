use Rattle.std.proofs.Common.{◌<◌, sym, ◌∙◌, subst}
use Rattle.std.specs.Prelude.{slice_index}
use Rattle.lab_world.specs.Games.{game_model}
use Rattle.lab_world.specs.Seats.{seat_number}
use Rattle.lab_recall.specs.Tests.{differs_at, IsFirstAt}
use Rattle.lab_unfold.proofs.CallerLemmas.{seat_firsts}
use Rattle.lab_recall.proofs.FirstPairs.{items_length, alike_names, differing_pair}
use Rattle.lab_recall.proofs.names.check_names.Goals as goal

pub first_differing-requires-clause-count : goal.first_differing-requires-clause-count
first_differing-requires-clause-count c =
    let g = game_model c.args.game.now in
    (seat_firsts g c.args.seat c.args.histories.now c.number-number.result c.set_firsts-firsts.result.now c.number-number.ensures.number c.requires.unfolded c.set_firsts-firsts.ensures).count ∙ sym (items_length g c.args.histories.now c.requires.unfolded)

pub first_differing-requires-clause-below : goal.first_differing-requires-clause-below
first_differing-requires-clause-below c i l =
    let g = game_model c.args.game.now in
    let long = items_length g c.args.histories.now c.requires.unfolded in
    subst (λ n. slice_index c.set_firsts-firsts.result.now i < n) (sym long)
    ((seat_firsts g c.args.seat c.args.histories.now c.number-number.result c.set_firsts-firsts.result.now c.number-number.ensures.number c.requires.unfolded c.set_firsts-firsts.ensures).below i (subst (λ n. i < n) long l))

pub returns-in-Some-clause-fault : goal.returns-in-Some-clause-fault
returns-in-Some-clause-fault c =
    let g = game_model c.args.game.now in
    let all = seat_firsts g c.args.seat c.args.histories.now c.number-number.result c.set_firsts-firsts.result.now c.number-number.ensures.number c.requires.unfolded c.set_firsts-firsts.ensures in (
      c.number-number.ensures.number,
      differing_pair g (seat_number c.args.seat) c.set_firsts-firsts.result.now all c.in-Some.second
          (subst (λ n. IsFirstAt (differs_at g (seat_number c.args.seat) c.set_firsts-firsts.result.now) n c.in-Some.second) (items_length g c.args.histories.now c.requires.unfolded) c.in-Some.ensures.some),
    )

pub returns-in-None-clause-none : goal.returns-in-None-clause-none
returns-in-None-clause-none c =
    let g = game_model c.args.game.now in
    let all = seat_firsts g c.args.seat c.args.histories.now c.number-number.result c.set_firsts-firsts.result.now c.number-number.ensures.number c.requires.unfolded c.set_firsts-firsts.ensures in
    let long = items_length g c.args.histories.now c.requires.unfolded in
    alike_names g (seat_number c.args.seat) c.set_firsts-firsts.result.now all (λ i l. c.in-None.ensures.none i (subst (λ n. i < n) (sym long) l))
