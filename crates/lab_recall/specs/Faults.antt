-- Why a game has no perfect recall, as the program says it.
use Rattle.std.specs.Prelude.{ℕ, ◌≡◌, ◌⊎◌, Option, Some, None, IfSome}
use Rattle.lab_defs_text.specs.Games.{GameModel, by_seen}
use Rattle.lab_defs_game.specs.Histories.{histories}
use Rattle.lab_defs_game.specs.Laws.{Remembers, IsFirstPair}
use Rattle.lab_defs_game.specs.Recall as model
use Rattle.lab_recall.specs.declared.fault.RecallFault.{RecallFault}
use Rattle.lab_recall.specs.declared.fault.RecallFault.TheVariants.{LegalDiffers, Forgotten, Memory}

-- the reason by the definitions, if it is not that memory is short
abbrev pub fault_in : RecallFault → Option model.RecallFault
fault_in (LegalDiffers seat first second) = Some (model.legal_differs seat first.0 second.0)
fault_in (Forgotten seat first second) = Some (model.forgotten seat first.0 second.0)
fault_in Memory = None

-- the game has no perfect recall for this reason, or memory is short
abbrev pub IsFault : GameModel → RecallFault → Type 0
IsFault g e = IfSome (fault_in e) (λ f. model.recall_fault g ≡ Some f)

-- names differ in a set of the seat, first at these histories, or memory is short
abbrev pub IsNamesFault : GameModel → ℕ → RecallFault → Type 0
IsNamesFault g seat (LegalDiffers s first second) = (s ≡ seat) × IsFirstPair (model.one_set g seat) (model.differ g seat) (histories g) first.0 second.0
IsNamesFault g seat (Forgotten s first second) = ⊥
IsNamesFault g seat Memory = Unit {0}

-- own actions of the seat are forgotten, first at these histories, or memory is short
abbrev pub IsMemoryFault : GameModel → ℕ → RecallFault → Type 0
IsMemoryFault g seat (LegalDiffers s first second) = ⊥
IsMemoryFault g seat (Forgotten s first second) = (s ≡ seat) × IsFirstPair (model.confused g seat) (model.confused g seat) (histories g) first.0 second.0
IsMemoryFault g seat Memory = Unit {0}

-- seat 1 forgets, or else seat 2, where what is seen has to tell the own actions
abbrev pub IsForgotten : GameModel → RecallFault → Type 0
IsForgotten g e = (g.recall ≡ by_seen) × (IsMemoryFault g 1 e ⊎ (Remembers g 1 × IsMemoryFault g 2 e))
