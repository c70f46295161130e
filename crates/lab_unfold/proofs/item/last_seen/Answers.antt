use Rattle.std.proofs.Common.{sym, ap, ◌∙◌}
use Rattle.lab_defs_game.specs.Sets.{seen}
use Rattle.lab_world.specs.Games.{game_model}
use Rattle.lab_unfold.specs.Items.{last_item}
use Rattle.lab_unfold.specs.Parents.{history_at}
use Rattle.lab_unfold.specs.Values.{Unfolded}
use Rattle.lab_unfold.proofs.CallerLemmas.{here}
use Rattle.lab_unfold.proofs.item.last_seen.Goals as goal

pub last_among-requires-clause-items : goal.last_among-requires-clause-items
last_among-requires-clause-items c = c.items.ensures.items ∙ ap (λ (u : Unfolded). u.items) c.requires.unfolded

pub returns : goal.returns
returns c =
    c.last_among.ensures
    ∙ ap (λ n. last_item (seen (game_model c.args.game.now) n (history_at (game_model c.args.game.now) c.args.id.0))) c.of.ensures
    ∙ sym (ap (λ h. last_item (seen (game_model c.args.game.now) c.args.seat h)) (here (game_model c.args.game.now) c.args.histories.now c.args.id.0 c.requires.unfolded))
