-- The modes that look at a game and what follows it: `check`, `print` and `verify`.
use Rattle.std.specs.Prelude.{ℕ, ◌+◌, List, [], ◌∷◌, ◌++◌, length, Bool, true, nat_lt, if◌then◌else◌, Option, Some, None, Result, Ok, Err}
use lib.Chars.{codes}
use Rattle.lab_defs_text.specs.Words.{Bytes}
use Rattle.lab_defs_text.specs.Numbers.{numeral}
use Rattle.lab_defs_text.specs.Lines.{joined}
use Rattle.lab_defs_text.specs.Games.{GameModel}
use Rattle.lab_defs_text.specs.Texts.{canonical}
use Rattle.lab_defs_text.specs.Readings.{game_of}
use Rattle.lab_defs_game.specs.Unfolding.{unfold_fault}
use Rattle.lab_defs_game.specs.Recall.{recall_fault}
use Rattle.lab_defs_game.specs.Counts.{counts_of}
use Rattle.lab_defs_game.specs.Sets.{sets}
use Rattle.lab_defs_game.specs.Forms.{game_actions}
use Rattle.lab_defs_text.specs.Fractions.{fraction_text}
use Rattle.lab_defs_text.specs.Steps.{◌>>=◌}
use Rattle.std.specs.List.{join_with_byte}
use Rattle.lab_defs_game.specs.Seats.{grid_of, other}
use Rattle.lab_defs_value.specs.Bounds.{at, bound_units}
use Rattle.lab_defs_report.specs.States.{SessionFault, first_wrong_sum, unless_wrong, counted}
use Rattle.lab_defs_value.specs.Tables.{weight_count}
use Rattle.lab_defs_report.specs.CertificateTexts.{Certificate, certificate_read}
use Rattle.lab_defs_report.specs.Certificates.{Broken, first_broken, action_name}
use Rattle.lab_defs_report.specs.Cuts.{commands_limit, Cut, cut_at, cut_refused, cut_open, goes_on}
use Rattle.lab_defs_report.specs.Answers.{Answer, answer, silent, refusing}
use Rattle.lab_defs_report.specs.Refusals.{Refusal, refused, refused_text, refused_unfolding, refused_recall, refused_command, refused_certificate}

-- a game that a mode looks at, or its refusal
abbrev pub read_text : Bytes → Result GameModel Refusal
read_text text = elim (game_of text) [ Ok g ↦ Ok g | Err f ↦ Err (refused_text text f) ]

-- a game that can be played, its faults being those of the line of `done`
abbrev pub accepted_at : ℕ → GameModel → Result GameModel Refusal
accepted_at line g = elim (unfold_fault g) [
  | Some f ↦ Err (refused_unfolding g line f)
  | None ↦ elim (recall_fault g) [ Some f ↦ Err (refused_recall g line f) | None ↦ Ok g ]
]

-- the game of a text that can be played, or its refusal
abbrev pub playable : Bytes → ℕ → Result GameModel Refusal
playable text line = elim (read_text text) [ Ok g ↦ accepted_at line g | Err r ↦ Err r ]

-- what a mode for a game alone writes: a refusal, or what it says of the game
abbrev pub game_answer : Bool → ℕ → List Bytes → Result Bytes Refusal → Answer
game_answer ended line behind (Err r) = refusing r
game_answer ended line behind (Ok out) = if goes_on behind then refusing (refused (line + 1) (codes "ExtraLine") []) else if ended then answer out else silent

-- the line of `check`
abbrev pub counts_line : GameModel → Bytes
counts_line g =
    let c = counts_of g in
    joined (codes "game" ∷ codes "histories" ∷ numeral c.histories ∷ codes "nodes" ∷ numeral c.nodes ∷ codes "sets" ∷ numeral c.sets1 ∷ numeral c.sets2
    ∷ codes "most" ∷ numeral c.most1 ∷ numeral c.most2 ∷ codes "scale" ∷ numeral c.scale ∷ []) ++ (10 ∷ [])

-- what `check` writes for an input cut after its game
abbrev pub check_cut : Bool → Cut → Answer
check_cut ended (cut_at text line behind) = game_answer ended line behind (elim (playable text line) [ Ok g ↦ Ok (counts_line g) | Err r ↦ Err r ])
check_cut ended (cut_refused r) = refusing r
check_cut ended cut_open = silent

-- what `print` writes for it
abbrev pub print_cut : Bool → Cut → Answer
print_cut ended (cut_at text line behind) = game_answer ended line behind (elim (read_text text) [ Ok g ↦ Ok (canonical g) | Err r ↦ Err r ])
print_cut ended (cut_refused r) = refusing r
print_cut ended cut_open = silent

-- ---- certificates

-- a certificate has as many weights and bounds as its game needs, and the weights sum to the grid
abbrev pub fitting : GameModel → Certificate → Result Bool SessionFault
fitting g c =
    counted (weight_count g c.seat) (length c.weights) true >>= λ x. counted (length (sets g (other c.seat))) (length c.bounds) true >>= λ y.
    unless_wrong c.seat (first_wrong_sum (grid_of g c.seat) 0 (game_actions g c.seat) c.weights) true

-- whether the bounds of a certificate hold: the bound that they prove, or the first inequality that fails
abbrev pub verdict_words : GameModel → Certificate → Option Broken → List Bytes
verdict_words g c None = codes "yes" ∷ fraction_text (at c.bounds 0) (bound_units g c.seat) ∷ []
verdict_words g c (Some b) = codes "no" ∷ numeral b.set ∷ action_name g (other c.seat) b.set b.action ∷ fraction_text b.over (bound_units g c.seat) ∷ []

-- what `verify` writes for a certificate: a refusal where it does not fit the game, else whether its bounds hold
abbrev pub judged_certificate : GameModel → ℕ → Certificate → Answer
judged_certificate g line c = elim (fitting g c) [
  | Ok x ↦ answer (joined (verdict_words g c (first_broken g c)) ++ (10 ∷ []))
  | Err f ↦ refusing (refused_command line f)
]

-- a certificate is all that follows the game, from a line on
abbrev pub verified : GameModel → ℕ → Bytes → Answer
verified g line bytes = elim (certificate_read bytes) [ Ok c ↦ judged_certificate g line c | Err f ↦ refusing (refused_certificate line f) ]

-- what `verify` writes for the bytes after a game, within their limit
abbrev pub verify_behind : Bool → GameModel → ℕ → Bytes → Answer
verify_behind ended g line bytes =
    if nat_lt commands_limit (length bytes) then refusing (refused line (codes "InputTooLong") []) else if ended then verified g line bytes else silent

-- what `verify` writes for an input cut after its game
abbrev pub verify_cut : Bool → Cut → Answer
verify_cut ended (cut_at text line behind) = elim (playable text line) [ Ok g ↦ verify_behind ended g (line + 1) (join_with_byte 10 behind) | Err r ↦ refusing r ]
verify_cut ended (cut_refused r) = refusing r
verify_cut ended cut_open = silent
