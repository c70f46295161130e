use Rattle.std.proofs.Common.{length, ap, arith}
use Rattle.lab_world.specs.Stages.{ordered_place_of}
use Rattle.lab_world.proofs.PlaceLemmas.{place_more}
use Rattle.lab_world.proofs.SizeLemmas.{action_names_few}
use Rattle.lab_world.proofs.numbered.add_numbered.Goals as goal

pub returns-clause-numbered : goal.returns-clause-numbered
returns-clause-numbered c ms h =
    let made = c.in_ok-place.ensures in
    place_more c.args.found.now (record { actions = c.numbered_place.new.actions; places = c.push.new.self }) c.in_ok-place.place (ordered_place_of c.args.place) ms made.actions c.in_ok-push.ensures.items made.place made.fits h

pub returns-clause-few : goal.returns-clause-few
returns-clause-few c =
    let m = ordered_place_of c.args.place in
    let made = ap length c.in_ok-place.ensures.actions in
    let most = action_names_few c.args.found.now.actions m in
    omega (arith, made, most)
