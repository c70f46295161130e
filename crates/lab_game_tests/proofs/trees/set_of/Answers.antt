use Rattle.std.proofs.Common.{None, sym, subst}
use Rattle.std.specs.Prelude.{slice_index_or}
use Rattle.std.specs.Option.{IsSome}
use Rattle.lab_world.specs.Games.{game_model}
use Rattle.lab_tree.proofs.CallerLemmas.{set_there}
use Rattle.lab_tree.specs.Trees.{TreeValue, seat_of}
use Rattle.lab_game_tests.proofs.trees.set_of.Goals as goal

pub set_of-requires-clause-some : goal.set_of-requires-clause-some
set_of-requires-clause-some c =
    let inner = c.in_ok-history.ensures in
    let n = c.in_ok-history.history.0 in
    subst (λ (t : TreeValue). IsSome (slice_index_or (seat_of t 1).set_of n None)) (sym c.requires) (set_there (game_model c.args.game.now) 1 n inner.there inner.inner)
