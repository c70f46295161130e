use Rattle.std.proofs.Common.{◌≡◌, ◌<◌, ℕ, false}
use Rattle.lab_world.specs.Games.{game_model}
use Rattle.lab_recall.specs.Tests.{forgets_at}
use Rattle.lab_recall.proofs.memory.first_forgotten.Given as goal

abbrev pub invariant-loop-number : goal.invariant-loop-number
invariant-loop-number l = (i : ℕ) → i < l.number → forgets_at (game_model l.game) l.sets l.tokens i ≡ false
