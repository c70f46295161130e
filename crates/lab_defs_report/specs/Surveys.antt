-- The modes that make a game: `generate` writes it, `survey` solves it and mends its subgames.
use Rattle.std.specs.Prelude.{ℕ, ◌+◌, List, [], ◌∷◌, ◌++◌, length, map, flat_map, filter, slice_index_or, ◌==◌, nat_lt, if◌then◌else◌, Some, None, Result, Ok, Err}
use Rattle.std.specs.List.{range_with_len}
use Rattle.std.specs.Str.{bytes_eq}
use lib.Chars.{codes}
use Rattle.lab_defs_text.specs.Words.{Bytes}
use Rattle.lab_defs_text.specs.Numbers.{numeral}
use Rattle.lab_defs_text.specs.Lines.{joined}
use Rattle.lab_defs_text.specs.Faults.{LineFault}
use Rattle.lab_defs_text.specs.Games.{GameModel}
use Rattle.lab_defs_text.specs.Texts.{canonical}
use Rattle.lab_defs_game.specs.Counts.{counts_of}
use Rattle.lab_defs_game.specs.Nodes.{nodes, depth}
use Rattle.lab_defs_value.specs.Allowances.{reach}
use Rattle.lab_defs_report.specs.Commands.{Command, blueprint_solve, resolve, small_at}
use Rattle.lab_defs_report.specs.States.{State, inside_count, seat_bound, step_of}
use Rattle.lab_defs_report.specs.Refusals.{Refusal, refused, refused_in_line}
use Rattle.lab_defs_report.specs.Answers.{Answer, answer, refusing}
use Rattle.lab_defs_report.specs.Kinds.{GameKind, kind_named, least_size, greatest_size, is_size, generated}
use Rattle.lab_defs_report.specs.GameModes.{accepted_at}

-- ---- kinds and sizes

-- a size that a kind has
abbrev pub sized : GameKind → ℕ → Result (GameKind × ℕ) Refusal
sized kind n =
    if is_size kind n then Ok (kind, n) else Err (refused 0 (codes "BadSize") (numeral (least_size kind) ∷ numeral (greatest_size kind) ∷ []))

-- a kind with the size that a word spells, which is the third word
abbrev pub with_size : GameKind → Result ℕ LineFault → Result (GameKind × ℕ) Refusal
with_size kind (Ok n) = sized kind n
with_size kind (Err f) = Err (refused_in_line 0 f)

-- the kind and the size that words name
abbrev pub kind_and_size : Bytes → Bytes → Result (GameKind × ℕ) Refusal
kind_and_size kind size = elim (kind_named kind) [ Some k ↦ with_size k (small_at 3 size) | None ↦ Err (refused 0 (codes "UnknownKind") []) ]

-- ---- the modes

-- what `generate` writes: the text of the game, or a refusal
abbrev pub generate_answer : Bytes → Bytes → Answer
generate_answer kind size = elim (kind_and_size kind size) [ Ok k ↦ answer (canonical (generated k.0 k.1)) | Err r ↦ refusing r ]

-- the commands of a survey at a node: a re-solve by `reach` for each seat that decides there
abbrev pub resolves_at : GameModel → ℕ → List Command
resolves_at g node =
    map (λ seat. resolve seat node reach 64)
    (filter (λ seat. nat_lt 0 (inside_count g (record { seat = seat; node = node; rule = reach; weights = [] }))) (1 ∷ 2 ∷ []))

-- at all nodes of depth 2, in order
abbrev pub survey_resolves : GameModel → List Command
survey_resolves g =
    flat_map (resolves_at g) (filter (λ n. depth (slice_index_or (nodes g) n []) == 2) (range_with_len 0 (length (nodes g))))

-- the state after commands, and how many replies of them began with `accepted` and with another word
pub record Surveyed : Type 0 where
  pub state : State
  pub accepted : ℕ
  pub kept : ℕ

-- a survey with one more reply
abbrev pub with_reply : Surveyed → State → List Bytes → Surveyed
with_reply s t reply =
    if bytes_eq (slice_index_or reply 0 []) (codes "accepted") then record { state = t; accepted = s.accepted + 1; kept = s.kept }
    else record { state = t; accepted = s.accepted; kept = s.kept + 1 }

-- a refused command ends it
abbrev pub surveyed_by : Surveyed → List Command → Surveyed
surveyed_by s [] = s
surveyed_by s (c ∷ cs) = elim (step_of s.state c) [ Ok r ↦ surveyed_by (with_reply s r.0 r.1) cs | Err f ↦ s ]

-- words as a line
abbrev pub line_of : List Bytes → Bytes
line_of ws = joined ws ++ (10 ∷ [])

-- the bounds of both seats as words
abbrev pub bound_words : State → List Bytes
bound_words s = elim s.profile [ Some p ↦ seat_bound s.game p 1 ∷ seat_bound s.game p 2 ∷ [] | None ↦ [] ]

-- the counts of a game as words
abbrev pub counted_words : GameModel → List Bytes
counted_words g =
    let c = counts_of g in
    codes "histories" ∷ numeral c.histories ∷ codes "nodes" ∷ numeral c.nodes ∷ codes "sets" ∷ numeral c.sets1 ∷ numeral c.sets2 ∷ []

-- a solved blueprint, and the bounds before and after the re-solves
abbrev pub survey_lines : Bytes → ℕ → GameModel → State → Surveyed → Bytes
survey_lines kind size g solved s =
    line_of (codes "survey" ∷ kind ∷ numeral size ∷ counted_words g) ++ (line_of (codes "blueprint" ∷ bound_words solved)
    ++ (line_of (codes "accepted" ∷ numeral s.accepted ∷ codes "kept" ∷ numeral s.kept ∷ []) ++ line_of (codes "final" ∷ bound_words s.state)))

-- the state after one command
abbrev pub state_behind : State → Command → State
state_behind s c = elim (step_of s c) [ Ok r ↦ r.0 | Err f ↦ s ]

-- what `survey` writes of a game
abbrev pub survey_game : Bytes → ℕ → GameModel → Answer
survey_game kind size g =
    let solved = state_behind (record { game = g; profile = None }) (blueprint_solve 64) in
    answer (survey_lines kind size g solved (surveyed_by (record { state = solved; accepted = 0; kept = 0 }) (survey_resolves g)))

-- a game that can be played, its faults being those of line 0
abbrev pub survey_accepted : Bytes → ℕ → Result GameModel Refusal → Answer
survey_accepted kind size (Ok g) = survey_game kind size g
survey_accepted kind size (Err r) = refusing r

-- what `survey` writes: four lines, or a refusal
abbrev pub survey_answer : Bytes → Bytes → Answer
survey_answer kind size = elim (kind_and_size kind size) [ Ok k ↦ survey_accepted kind k.1 (accepted_at 0 (generated k.0 k.1)) | Err r ↦ refusing r ]
