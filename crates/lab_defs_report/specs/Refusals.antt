-- Refusals: the line of each, with its code and further words.
use Rattle.std.specs.Prelude.{ℕ, ◌+◌, ◌-◌, List, [], ◌∷◌, ◌++◌, slice_index_or, Option, Some, None}
use lib.Chars.{codes}
use Rattle.lab_defs_text.specs.Words.{Bytes, lines, words}
use Rattle.lab_defs_text.specs.Numbers.{numeral}
use Rattle.lab_defs_text.specs.Lines.{joined}
use Rattle.lab_defs_text.specs.Games.{GameModel}
use Rattle.lab_defs_text.specs.Texts.{name_of}
use Rattle.lab_defs_text.specs.Faults.{LexFault, bad_space_at, bad_name_at, bad_number_at, out_of_range_at, LineFault, lexical, bad_word_at, twice_at, TextFault, cut_short, no_newline, extra_line, in_line, unknown_name, extra_row, missing_row, no_root}
use Rattle.lab_defs_game.specs.Histories.{histories, reached}
use Rattle.lab_defs_game.specs.Unfolding.{UnfoldFault, too_many_histories, horizon_passed, size_passed}
use Rattle.lab_defs_game.specs.Recall.{RecallFault, legal_differs, forgotten}
use Rattle.lab_defs_report.specs.States.{SessionFault, no_blueprint, second_blueprint, bad_seat, no_node, no_decision, bad_rounds, wrong_count, wrong_sum, few_words, extra_words}
use Rattle.lab_defs_report.specs.CertificateTexts.{CertificateFault, bad_json, bad_shape}

-- a refusal: its line, its code and the further words
pub record Refusal : Type 0 where
  pub line : ℕ
  pub code : Bytes
  pub rest : List Bytes

-- a refusal at a line, by its code and its further words
abbrev pub refused : ℕ → Bytes → List Bytes → Refusal
refused line code rest = record { line = line; code = code; rest = rest }

-- its line
abbrev pub refusal_line : Refusal → Bytes
refusal_line r = joined (codes "refused" ∷ numeral r.line ∷ r.code ∷ r.rest) ++ (10 ∷ [])

-- ---- of a line

-- the refusal of a word at a line
abbrev pub refused_lexical : ℕ → LexFault → Refusal
refused_lexical line (bad_space_at p) = refused line (codes "BadSpace") (numeral p ∷ [])
refused_lexical line (bad_name_at p) = refused line (codes "BadName") (numeral p ∷ [])
refused_lexical line (bad_number_at p) = refused line (codes "BadNumber") (numeral p ∷ [])
refused_lexical line (out_of_range_at p) = refused line (codes "OutOfRange") (numeral p ∷ [])

-- the refusal of a line
abbrev pub refused_in_line : ℕ → LineFault → Refusal
refused_in_line line (lexical f) = refused_lexical line f
refused_in_line line (bad_word_at p) = refused line (codes "BadWord") (numeral p ∷ [])
refused_in_line line (twice_at p) = refused line (codes "Twice") (numeral p ∷ [])

-- ---- of a game text

-- the action with a number, by the words of the line that lists it
abbrev pub listed_action : Bytes → (line number : ℕ) → Bytes
listed_action text line number = slice_index_or (words (slice_index_or (lines text) (line - 1) [])) (number + 1) []

-- the refusal of a text of a game
abbrev pub refused_text : Bytes → TextFault → Refusal
refused_text text (cut_short n) = refused n (codes "CutShort") []
refused_text text (no_newline n) = refused n (codes "NoNewline") []
refused_text text (extra_line n) = refused n (codes "ExtraLine") []
refused_text text (in_line n f) = refused_in_line n f
refused_text text (unknown_name n p) = refused n (codes "UnknownName") (numeral p ∷ [])
refused_text text (extra_row n) = refused n (codes "ExtraRow") []
refused_text text (missing_row n a b) = refused n (codes "MissingRow") (listed_action text (n + 1) a ∷ listed_action text (n + 2) b ∷ [])
refused_text text (no_root n) = refused n (codes "NoRoot") []

-- ---- of a game

-- the word of a scale: `over` where it is past its limit
abbrev pub scale_word : Option ℕ → Bytes
scale_word None = codes "over"
scale_word (Some k) = numeral k

-- the refusal of a game that is not unfolded, at the line of `done`
abbrev pub refused_unfolding : GameModel → ℕ → UnfoldFault → Refusal
refused_unfolding g line (too_many_histories depth) = refused line (codes "TooManyHistories") (numeral depth ∷ [])
refused_unfolding g line (horizon_passed n) = refused line (codes "HorizonPassed") (name_of g.names n ∷ [])
refused_unfolding g line (size_passed top k n1 n2) = refused line (codes "SizePassed") (numeral top ∷ scale_word k ∷ numeral n1 ∷ numeral n2 ∷ [])

-- the name of the world where the history with a number leads
abbrev pub world_name : GameModel → ℕ → Bytes
world_name g h = name_of g.names (reached g g.root (slice_index_or (histories g) h []))

-- the refusal of a game without perfect recall, at the line of `done`
abbrev pub refused_recall : GameModel → ℕ → RecallFault → Refusal
refused_recall g line (legal_differs seat h k) = refused line (codes "LegalDiffers") (numeral seat ∷ world_name g h ∷ world_name g k ∷ [])
refused_recall g line (forgotten seat h k) = refused line (codes "Forgotten") (numeral seat ∷ world_name g h ∷ world_name g k ∷ [])

-- ---- of a command

-- the refusal of a command that the session does not take, at its line
abbrev pub refused_command : ℕ → SessionFault → Refusal
refused_command line no_blueprint = refused line (codes "NoBlueprint") []
refused_command line second_blueprint = refused line (codes "SecondBlueprint") []
refused_command line bad_seat = refused line (codes "BadSeat") []
refused_command line (no_node count) = refused line (codes "NoNode") (numeral count ∷ [])
refused_command line no_decision = refused line (codes "NoDecision") []
refused_command line bad_rounds = refused line (codes "BadRounds") []
refused_command line (wrong_count needed given) = refused line (codes "WrongCount") (numeral needed ∷ numeral given ∷ [])
refused_command line (wrong_sum seat set) = refused line (codes "WrongSum") (numeral seat ∷ numeral set ∷ [])
refused_command line (few_words needed) = refused line (codes "FewWords") (numeral needed ∷ [])
refused_command line (extra_words used) = refused line (codes "ExtraWords") (numeral used ∷ [])

-- ---- of a certificate

-- the refusal of a certificate, at its line
abbrev pub refused_certificate : ℕ → CertificateFault → Refusal
refused_certificate line bad_json = refused line (codes "BadJson") []
refused_certificate line (bad_shape key) = refused line (codes "BadShape") (key ∷ [])
