-- What a caller cites of the lines of refusals.
use Rattle.std.proofs.Common.{◌≡◌, ℕ, List, [], ◌∷◌, ◌++◌, sym, ap, ◌∙◌, append_assoc, append-nil}
use Rattle.std.proofs.lemmas.List.Concat.{flat_map-append}
use lib.Chars.{codes}
use Rattle.lab_defs_text.specs.Words.{Bytes}
use Rattle.lab_defs_text.specs.Numbers.{numeral}
use Rattle.lab_defs_text.specs.Lines.{joined}
use Rattle.lab_defs_report.specs.Refusals.{refused, refusal_line}
use Rattle.lab_lines.specs.Lines.{refusal_text, spaced}

-- words joined by spaces are the first one, and each of the others after a space
pub joined_spaced : (w : Bytes) (ws : List Bytes) → joined (w ∷ ws) ≡ w ++ spaced ws
joined_spaced w [] = sym (append-nil w)
joined_spaced w (v ∷ ws) = ap (λ t. w ++ (32 ∷ t)) (joined_spaced v ws)

-- the text of a refusal whose further words come each after a space is its line
pub spaced_line : (line : ℕ) (code : Bytes) (ws : List Bytes) → refusal_text line code (spaced ws) ≡ refusal_line (refused line code ws)
spaced_line line code ws =
    ap (λ t. codes "refused " ++ (numeral line ++ (32 ∷ t))) (sym (append_assoc code (spaced ws) (10 ∷ [])) ∙ ap (λ t. t ++ (10 ∷ [])) (sym (joined_spaced code ws)))
    ∙ ap (λ t. codes "refused " ++ t) (sym (append_assoc (numeral line) (32 ∷ joined (code ∷ ws)) (10 ∷ [])))

-- one word more
pub spaced_more : (ws : List Bytes) (w : Bytes) → spaced (ws ++ (w ∷ [])) ≡ spaced ws ++ (32 ∷ w)
spaced_more ws w = flat_map-append (λ v. 32 ∷ v) ws (w ∷ []) ∙ ap (λ t. spaced ws ++ t) (append-nil (32 ∷ w))
