-- Why a game is not unfolded, as the program says it.
use Rattle.std.specs.Prelude.{◌≡◌, Option, Some, None, IfSome}
use Rattle.lab_defs_text.specs.Games.{GameModel}
use Rattle.lab_defs_game.specs.Unfolding as model
use Rattle.lab_unfold.specs.declared.history.UnfoldFault.{UnfoldFault}
use Rattle.lab_unfold.specs.declared.history.UnfoldFault.TheVariants.{TooManyHistories, HorizonPassed, SizePassed, Memory}

-- the reason by the definitions, if it is not that memory is short
abbrev pub fault_in : UnfoldFault → Option model.UnfoldFault
fault_in (TooManyHistories depth) = Some (model.too_many_histories depth)
fault_in (HorizonPassed world) = Some (model.horizon_passed world.0)
fault_in (SizePassed top k most1 most2) = Some (model.size_passed top k most1 most2)
fault_in Memory = None

-- the game is not unfolded for this reason, or memory is short
abbrev pub IsFault : GameModel → UnfoldFault → Type 0
IsFault g e = IfSome (fault_in e) (λ f. model.unfold_fault g ≡ Some f)
