-- The lines of a game cut one after another, and what cuts them off.
use Rattle.std.proofs.Common.{◌≡◌, ℕ, ◌+◌, ◌-◌, ◌≤◌, ◌<◌, Bool, true, List, [], ◌∷◌, ◌++◌, length, Some, refl, ap, ◌∙◌, arith}
use Rattle.std.specs.Prelude.{if◌then◌else◌}
use Rattle.std.specs.Str.{bytes_eq}
use lib.Chars.{codes}
use Rattle.lab_io.specs.Reading.{IsLine}
use Rattle.lab_defs_text.specs.Words.{Bytes, lines}
use Rattle.lab_defs_report.specs.Refusals.{refused}
use Rattle.lab_defs_report.specs.Cuts.{game_limit, passed_limit, cut_at, cut_refused, cut_from, or_refused, unfinished}
use Rattle.lab_defs_report.proofs.CutLemmas.{cut_more, lines_some}
use Rattle.lab_input.proofs.LineLimits.{one_line, first_line, feeds, FirstPasses, none_passed, line_passes_none}

-- a line within the limits is cut off the lines that follow
pub line_cut : (ended : Bool) (n : ℕ) (text l y : Bytes) → IsLine l → length l + 1 ≤ game_limit - length text
    → cut_from ended n text (lines (l ++ 10 ∷ y))
    ≡ (if bytes_eq l (codes "done") then cut_at (text ++ l ++ (10 ∷ [])) n (lines y) else cut_from ended (n + 1) (text ++ l ++ (10 ∷ [])) (lines y))
line_cut ended n text l y line h =
    rw (first_line l y line.unended, cut_more ended n text l (lines y) (lines_some y), line_passes_none (codes "GameTooLong") (game_limit - length text) l line h) refl

-- an input that ends where a line would begin is cut short
pub ends_short : (n : ℕ) (text : Bytes) → cut_from true n text ([] ∷ []) ≡ cut_refused (refused n (codes "CutShort") [])
ends_short n text = rw (none_passed (codes "GameTooLong") (game_limit - length text) 0 0 (omega arith) (omega arith)) refl

-- bytes of a line within the limits, which no line feed ends
pub line_open : (ended : Bool) (n : ℕ) (text l : Bytes) → IsLine l → length l ≤ game_limit - length text → cut_from ended n text (lines l) ≡ unfinished ended n l
line_open ended n text l line h =
    ap (cut_from ended n text) (one_line l line.unended)
    ∙ ap (λ o. or_refused n o (unfinished ended n l)) (none_passed (codes "GameTooLong") (game_limit - length text) (length l) 0 line.short (omega (arith, h)))

-- an input that ends inside a line
pub ends_inside : (n : ℕ) (text l : Bytes) → 0 < length l → IsLine l → length l ≤ game_limit - length text → cut_from true n text (lines l) ≡ cut_refused (refused n (codes "NoNewline") [])
ends_inside n text [] some line h = absurd (omega arith)
ends_inside n text (c ∷ cs) some line h = line_open true n text (c ∷ cs) line h

-- a line that passes a limit cuts a game off
pub cut_passed : (ended : Bool) (n : ℕ) (text bytes passed : Bytes) → FirstPasses (codes "GameTooLong") (game_limit - length text) bytes passed
    → cut_from ended n text (lines bytes) ≡ cut_refused (refused n passed [])
cut_passed ended n text bytes passed p = by_more p.more p.first p.passes
  where
    by_more : (ms : List Bytes) → lines bytes ≡ p.line ∷ ms → passed_limit (codes "GameTooLong") (game_limit - length text) (length p.line) (feeds ms) ≡ Some passed
        → cut_from ended n text (lines bytes) ≡ cut_refused (refused n passed [])
    by_more [] e h = ap (cut_from ended n text) e ∙ ap (λ o. or_refused n o (unfinished ended n p.line)) h
    by_more (m ∷ ms) e h = ap (cut_from ended n text) e ∙ rw h refl
