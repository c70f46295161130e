use Rattle.std.proofs.Common.{length, sym, ap, ◌∙◌, subst, get_or, map, true, ◌≡◌}
use Rattle.std.specs.List.{list_all}
use Rattle.std.proofs.lemmas.Nat.{mod_below}
use Rattle.lab_defs_text.specs.Texts.{outcome_ok}
use Rattle.lab_world.specs.declared.place.Row.{Row}
use Rattle.lab_world.specs.Models.{outcome_model}
use Rattle.lab_world.specs.Games.{game_model}
use Rattle.lab_text.proofs.FitLemmas.{some_two, first_below, row_known}
use Rattle.lab_text.proofs.places.push_row.Goals as goal

pub action_at-first-requires-clause-place : goal.action_at-first-requires-clause-place
action_at-first-requires-clause-place c =
    rw (c.len-seconds.ensures, c.as_slice.ensures) (first_below c.args.game.now c.args.world.now c.args.number c.requires.fits c.requires.number)

pub nonzero_rem-number : goal.nonzero_rem-number
nonzero_rem-number c = rw c.len-seconds.ensures (some_two c.args.game.now c.args.world.now c.requires.fits)

pub action_at-second-requires-clause-place : goal.action_at-second-requires-clause-place
action_at-second-requires-clause-place c =
    rw (c.len-seconds.ensures, c.as_slice-2.ensures) (mod_below c.args.number (length c.args.world.now.two) (some_two c.args.game.now c.args.world.now c.requires.fits))

pub push_outcomes-requires : goal.push_outcomes-requires
push_outcomes-requires c =
    let r = c.index-as_slice-number.result in
    let there : r ≡ get_or c.args.world.now.rows c.args.number r = c.index-as_slice-number.is ∙ ap (λ rows. get_or rows c.args.number r) c.as_slice-3.ensures in
    subst (λ os. list_all (outcome_ok (game_model c.args.game.now)) (map outcome_model os) ≡ true) (ap (λ (x : Row). x.outcomes) c.index-as_slice-number.is ∙ sym c.as_slice-4.ensures)
    (row_known c.args.game.now c.args.world.now c.args.number r c.requires.fits c.requires.number there)
