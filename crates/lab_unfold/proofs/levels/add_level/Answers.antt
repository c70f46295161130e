use Rattle.std.proofs.Common.{◌≤◌, sym, subst, arith, ap}
use Rattle.std.specs.Prelude.{Err}
use Rattle.lab_world.specs.Games.{game_model}
use Rattle.lab_unfold.proofs.LevelLemmas.{kept_count, too_many}
use Rattle.lab_unfold.proofs.levels.add_level.Goals as goal

pub push_level-requires-clause-few : goal.push_level-requires-clause-few
push_level-requires-clause-few c =
    subst (λ n. n ≤ 65536) (sym (kept_count (game_model c.args.game.now) c.args.depth c.args.items.now.items c.requires.items)) (c.requires.few c.args.depth (omega arith))

pub returns-in-Err-Full-clause-fault : goal.returns-in-Err-Full-clause-fault
returns-in-Err-Full-clause-fault c =
    too_many (game_model c.args.game.now) c.args.depth c.requires.horizon c.requires.few (c.in-Err-Full.ensures.full (ap (λ s. Err s) c.in-Err-Full.field-0-is))
