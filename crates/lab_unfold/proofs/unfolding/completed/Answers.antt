use Rattle.std.proofs.Common.{◌∙◌}
use Rattle.lab_world.specs.Games.{game_model}
use Rattle.lab_world.proofs.CallerLemmas.{horizon_some}
use Rattle.lab_unfold.proofs.BirthLemmas.{births_sorted}
use Rattle.lab_unfold.proofs.StepLemmas.{steps_tell, value_is}
use Rattle.lab_unfold.proofs.unfolding.completed.Goals as goal

pub new-requires-clause-order : goal.new-requires-clause-order
new-requires-clause-order c = births_sorted (game_model c.args.game.now) c.args.items.items (horizon_some c.args.game.now) c.requires.items

pub new-requires-clause-steps : goal.new-requires-clause-steps
new-requires-clause-steps c = steps_tell (game_model c.args.game.now) c.args.items.items c.requires.items

pub returns : goal.returns
returns c =
    c.new.ensures
    ∙ value_is (game_model c.args.game.now) c.args.items.items c.in_ok-chances.chances.items c.in_ok-payoffs.payoffs.items c.in_ok-firsts.firsts.nodes.items c.in_ok-firsts.firsts.sets1.items
    c.in_ok-firsts.firsts.sets2.items c.args.scale c.requires.items
    (record {
      chances_are = c.in_ok-chances.ensures;
      payoffs_are = c.in_ok-payoffs.ensures;
      nodes_are = c.in_ok-firsts.ensures.nodes;
      first_are = c.in_ok-firsts.ensures.sets1;
      second_are = c.in_ok-firsts.ensures.sets2;
    })
    c.requires.scale
