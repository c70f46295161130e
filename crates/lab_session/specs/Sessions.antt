-- Sessions, as the program has them.
use Rattle.std.specs.Prelude.{ℕ, ◌≡◌, ◌<◌, ◌^◌, [], length, ⊤, IsSomeAnd, slice_index_or, None, Some}
use Rattle.lab_defs_text.specs.Games.{GameModel}
use Rattle.lab_defs_game.specs.Histories.{histories, reached}
use Rattle.lab_defs_game.specs.Unfolding.{unfold_fault}
use Rattle.lab_defs_game.specs.Recall.{recall_fault}
use Rattle.lab_defs_game.specs.Forms.{form_of, game_actions}
use Rattle.lab_defs_game.specs.Seats.{grid_of}
use Rattle.lab_defs_value.specs.Bounds.{at, bound_units}
use Rattle.lab_defs_value.specs.Expectation.{expectation, expectation_units}
use Rattle.lab_defs_report.specs.States.{State, Profile, table_of, bounds_of}
use Rattle.lab_defs_report.specs.Headline.{IsGuarded}
use Rattle.lab_units.specs.declared.fraction.Fraction.{Fraction}
use Rattle.lab_world.specs.Games.{game_model}
use Rattle.lab_world.specs.declared.game.Game.{Game}
use Rattle.lab_unfold.specs.Faults as unfolds
use Rattle.lab_recall.specs.Faults as recalls
use Rattle.lab_recall.specs.declared.fault.RecallFault.{RecallFault}
use Rattle.lab_recall.specs.declared.fault.RecallFault.TheVariants as lost
use Rattle.lab_table.specs.Tables.{TableValue}
use Rattle.lab_bounds.specs.Tables.{BoundsValue}
use Rattle.lab_session.specs.Answers.{IsLowest}
use Rattle.lab_session.specs.declared.start.StartFault.{StartFault}
use Rattle.lab_session.specs.declared.start.StartFault.TheVariants.{Unfold, Recall, Memory}
use Rattle.lab_session.specs.declared.how.How.{How}
use Rattle.lab_session.specs.declared.how.How.TheVariants.{Uniform, Given, Solve}

-- the world where the history with a number leads
abbrev pub world_of : GameModel → ℕ → ℕ
world_of g n = reached g g.root (slice_index_or (histories g) n [])

-- these are the worlds where the two histories of a fault of perfect recall lead
abbrev pub AreWorlds : GameModel → RecallFault → (first second : ℕ) → Type 0
AreWorlds g (lost.LegalDiffers seat one two) first second = (first ≡ world_of g one.0) × (second ≡ world_of g two.0)
AreWorlds g (lost.Forgotten seat one two) first second = (first ≡ world_of g one.0) × (second ≡ world_of g two.0)
AreWorlds g lost.Memory first second = ⊤

-- why there is no session on a game: it does not unfold, or it does and has no perfect recall; the game is handed back as it was
abbrev pub IsStartFault : Game → StartFault → Type 0
IsStartFault game (Unfold back fault) = (back ≡ game) × IsSomeAnd (unfolds.fault_in fault) (λ e. unfold_fault (game_model game) ≡ Some e)
IsStartFault game (Recall back fault first second) =
    (back ≡ game) × (unfold_fault (game_model game) ≡ None) × IsSomeAnd (recalls.fault_in fault) (λ e. recall_fault (game_model game) ≡ Some e)
    × AreWorlds (game_model game) fault first.0 second.0
IsStartFault game Memory = ⊤

-- fewer weights are given than 32 bits count
abbrev pub IsFew : How → Type 0
IsFew Uniform = ⊤
IsFew (Given weights) = length weights.now < 2 ^ 32
IsFew (Solve rounds) = ⊤

-- the table of a seat of a state, and its bounds
abbrev pub IsTableOf : GameModel → ℕ → Profile → TableValue → Type 0
IsTableOf g seat p t = t ≡ record { actions = game_actions g seat; weights = table_of p seat }

abbrev pub AreBoundsOf : ℕ → Profile → BoundsValue → Type 0
AreBoundsOf seat p b = b ≡ record { keeper = seat; bounds = bounds_of p seat }

-- a fraction is the bound of a seat's strategy: that of the opponent's first set in its units, in lowest terms
abbrev pub IsBoundOf : GameModel → Profile → (seat : ℕ) → Fraction → Type 0
IsBoundOf g p seat f = IsLowest f (at (bounds_of p seat) 0) (bound_units g seat)

-- fractions are the bounds of both seats' strategies
abbrev pub AreBoundsNow : State → (first second : Fraction) → Type 0
AreBoundsNow s first second = IsSomeAnd s.profile (λ p. IsBoundOf s.game p 1 first × IsBoundOf s.game p 2 second)

-- a fraction is what seat 1 expects, in lowest terms
abbrev pub IsExpectedNow : State → Fraction → Type 0
IsExpectedNow s f = IsSomeAnd s.profile (λ p. IsLowest f (expectation (grid_of s.game 1) (grid_of s.game 2) (form_of s.game) p.table1 p.table2) (expectation_units s.game))

-- both seats of a state are guarded from the blueprint on
abbrev pub AreGuarded : State → Type 0
AreGuarded s = IsSomeAnd s.profile (λ p. IsGuarded s.game p 1 × IsGuarded s.game p 2)
