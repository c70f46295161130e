-- Both histories of a fault are there.
use Rattle.lab_world.specs.Games.{game_model}
use Rattle.lab_input.proofs.FaultLemmas.{differ_histories, forgotten_histories}
use Rattle.lab_input.proofs.playable.worlds.Goals as goal

pub world-requires-clause-there : goal.world-requires-clause-there
world-requires-clause-there c =
    (differ_histories (game_model c.args.game.now) c.args.fault c.in-LegalDiffers.seat c.in-LegalDiffers.first c.in-LegalDiffers.second c.requires.fault c.in-LegalDiffers.is).0

pub world-requires-in-LegalDiffers-clause-there : goal.world-requires-in-LegalDiffers-clause-there
world-requires-in-LegalDiffers-clause-there c =
    (differ_histories (game_model c.args.game.now) c.args.fault c.in-LegalDiffers.seat c.in-LegalDiffers.first c.in-LegalDiffers.second c.requires.fault c.in-LegalDiffers.is).1

pub world-requires-in-Forgotten-clause-there : goal.world-requires-in-Forgotten-clause-there
world-requires-in-Forgotten-clause-there c =
    (forgotten_histories (game_model c.args.game.now) c.args.fault c.in-Forgotten.seat c.in-Forgotten.first c.in-Forgotten.second c.requires.fault c.in-Forgotten.is).0

pub world-requires-in-Forgotten-2-clause-there : goal.world-requires-in-Forgotten-2-clause-there
world-requires-in-Forgotten-2-clause-there c =
    (forgotten_histories (game_model c.args.game.now) c.args.fault c.in-Forgotten.seat c.in-Forgotten.first c.in-Forgotten.second c.requires.fault c.in-Forgotten.is).1
