use Rattle.std.proofs.Common.{◌≡◌, ap, ◌∙◌, subst, [], get_or}
use Rattle.std.specs.Option.{option_map}
use Rattle.lab_defs_game.specs.Sets.{seen}
use Rattle.lab_world.specs.Games.{game_model}
use Rattle.lab_world.specs.Seats.{seat_number}
use Rattle.lab_unfold.proofs.CallerLemmas.{here, read_root}
use Rattle.lab_unfold.specs.Items.{item_model, last_item}
use Rattle.lab_tree.proofs.BehindLemmas.{behind_is, behind_sees}
use Rattle.lab_tree.proofs.behind.step_behind.Goals as goal

pub returns-in-Some-Some-clause-some : goal.returns-in-Some-Some-clause-some
returns-in-Some-Some-clause-some c =
    let g = game_model c.args.game.now in
    let seen_is = subst (λ o. option_map item_model o ≡ last_item (seen g (seat_number c.args.seat) (get_or c.args.histories.now.histories c.args.id.0 []))) c.in-Some-Some.is-1 (c.last_seen.ensures ∙ ap (λ n. last_item (seen g n (get_or c.args.histories.now.histories c.args.id.0 []))) c.number.ensures.number) in
    behind_is g (seat_number c.args.seat) c.args.id.0 c.args.histories.now c.item.result.now c.requires.unfolded c.item.ensures c.in-Some-Some.before c.in-Some-Some.item c.in-Some-Some.is-0
    (seen_is ∙ ap (λ h. last_item (seen g (seat_number c.args.seat) h)) (here g c.args.histories.now c.args.id.0 c.requires.unfolded))

pub returns-in_default-clause-none : goal.returns-in_default-clause-none
returns-in_default-clause-none c =
    let g = game_model c.args.game.now in
    let seen_is = subst (λ o. option_map item_model o ≡ last_item (seen g (seat_number c.args.seat) (get_or c.args.histories.now.histories c.args.id.0 []))) c.in_default.is-1 (c.last_seen.ensures ∙ ap (λ n. last_item (seen g n (get_or c.args.histories.now.histories c.args.id.0 []))) c.number.ensures.number) in
    absurd (behind_sees g (seat_number c.args.seat) c.args.id.0 c.args.histories.now c.item.result.now c.requires.unfolded c.item.ensures c.in_default.field-0-0 c.in_default.is-0
    (seen_is ∙ ap (λ h. last_item (seen g (seat_number c.args.seat) h)) (here g c.args.histories.now c.args.id.0 c.requires.unfolded)))

pub returns-in_default-2-clause-none : goal.returns-in_default-2-clause-none
returns-in_default-2-clause-none c = read_root (game_model c.args.game.now) c.args.histories.now c.args.id.0 c.item.result.now c.requires.unfolded c.item.ensures c.in_default.is-0
