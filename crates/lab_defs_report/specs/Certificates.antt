-- What a certificate claims, and whether it holds.
use Rattle.std.specs.Prelude.{◌≡◌, ℕ, ℤ, ◌-ℤ◌, int_le, List, [], ◌∷◌, length, slice_index, slice_index_or, if◌then◌else◌, Option, Some, None}
use Rattle.std.specs.List.{range_with_len, find}
use Rattle.std.specs.Ordering.{is_eq}
use Rattle.lab_defs_text.specs.Words.{Bytes}
use Rattle.lab_defs_text.specs.Games.{GameModel}
use Rattle.lab_defs_text.specs.Texts.{name_of}
use Rattle.lab_defs_game.specs.Histories.{place_of, inner_histories, action_names}
use Rattle.lab_defs_game.specs.Sets.{seen, set_cmp, sets}
use Rattle.lab_defs_value.specs.Replies.{Strategy, IsTable, strategy_of, reply_sets}
use Rattle.lab_defs_value.specs.Bounds.{at, through, Holds}
use Rattle.lab_defs_game.specs.Seats.{grid_of, other}
use Rattle.lab_defs_game.specs.Forms.{game_actions}
use Rattle.lab_defs_value.specs.Tables.{weight_count}
use Rattle.lab_defs_report.specs.CertificateTexts.{Certificate}

-- the strategy of its seat
abbrev pub certified : GameModel → Certificate → Strategy
certified g c = strategy_of g c.seat c.weights

-- its weights are a table of its seat, there is one bound for each set of the opponent, and the bounds hold
pub record IsCertified (g : GameModel) (c : Certificate) : Type 0 where
  pub weights : length c.weights ≡ weight_count g c.seat
  pub table : IsTable (game_actions g c.seat) (grid_of g c.seat) c.weights
  pub bounds : length c.bounds ≡ length (sets g (other c.seat))
  pub holds : Holds (certified g c) (at c.bounds)

-- a set and an action that backs up more than the set's bound
pub record Broken : Type 0 where
  pub set : ℕ
  pub action : ℕ
  pub over : ℤ

-- the first of some actions of the set J that backs up more
abbrev pub broken_at : Strategy → (ℕ → ℤ) → ℕ → List ℕ → Option Broken
broken_at s B J [] = None
broken_at s B J (a ∷ rest) = if int_le (through s B J a) (B J) then broken_at s B J rest else Some (record { set = J; action = a; over = through s B J a -ℤ B J })

-- the first of some sets with such an action
abbrev pub broken_among : Strategy → (ℕ → ℤ) → List ℕ → Option Broken
broken_among s B [] = None
broken_among s B (J ∷ rest) = elim (broken_at s B J (range_with_len 0 (slice_index (reply_sets s) J))) [ Some b ↦ Some b | None ↦ broken_among s B rest ]

-- the first inequality that fails, by set and action
abbrev pub first_broken : GameModel → Certificate → Option Broken
first_broken g c = broken_among (certified g c) (at c.bounds) (range_with_len 0 (length (reply_sets (certified g c))))

-- the name of an action at the set with a number, by the first history there
abbrev pub action_name : GameModel → (seat set action : ℕ) → Bytes
action_name g seat set action =
    elim (find (λ h. is_eq (set_cmp (seen g seat h) (slice_index_or (sets g seat) set []))) (inner_histories g)) [
      | Some h ↦ name_of (action_names seat (place_of g h)) action
      | None ↦ []
    ]
