-- The pieces of the line of a refusal.
use Rattle.std.proofs.Common.{◌≡◌, [], ◌∷◌, ◌++◌, refl, ap, ◌∙◌, append_assoc}
use lib.Chars.{codes}
use Rattle.lab_defs_text.specs.Words.{Bytes}

-- what is gathered piece by piece up to the code
pub head_pieces : (none word numbered spaced head number code : Bytes) → none ≡ [] → word ≡ none ++ codes "refused " → numbered ≡ word ++ number → spaced ≡ numbered ++ (32 ∷ []) → head ≡ spaced ++ code
    → head ≡ codes "refused " ++ (number ++ (32 ∷ code))
head_pieces none word numbered spaced head number code e₀ e₁ e₂ e₃ e₄ = rw (e₄, e₃, e₂, e₁, e₀, append_assoc, append_assoc) refl

-- the line is what is gathered up to the code, the further words and a line feed
pub line_pieces : (head number code rest : Bytes) → head ≡ codes "refused " ++ (number ++ (32 ∷ code))
    → head ++ (rest ++ (10 ∷ [])) ≡ codes "refused " ++ (number ++ (32 ∷ (code ++ (rest ++ (10 ∷ [])))))
line_pieces head number code rest e =
    ap (λ t. t ++ (rest ++ (10 ∷ []))) e ∙ ap (λ t. codes "refused " ++ t) (append_assoc number (32 ∷ code) (rest ++ (10 ∷ [])))
