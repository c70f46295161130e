-- Words with spaces between or before them.
use Rattle.std.proofs.Common.{◌≡◌, ℕ, ◌+◌, ◌<◌, List, [], ◌∷◌, ◌++◌, length, drop, get_or, map, ap, sym, ◌∙◌, append-nil, append_assoc, Option}
use Rattle.std.specs.Borrow.{Bor}
use Rattle.std.specs.Option.{option_map_or}
use Rattle.std.proofs.lemmas.List.{at_drop_more}
use Rattle.lab_defs_text.specs.Words.{Bytes, words}
use Rattle.lab_defs_text.specs.Lines.{joined}
use Rattle.lab_text.specs.Parts.{spaced}

-- a keyword, and behind it words with a space before each
pub joined_is : (k : Bytes) (ws : List Bytes) → joined (k ∷ ws) ≡ k ++ spaced ws
joined_is k [] = sym (append-nil k)
joined_is k (w ∷ ws) = ap (λ t. k ++ 32 ∷ t) (joined_is w ws)

-- a line is added by its keyword, its words and a line feed
pub line_added : (text one two all k : Bytes) (ws : List Bytes) → one ≡ text ++ k → two ≡ one ++ spaced ws → all ≡ two ++ 10 ∷ []
    → all ≡ text ++ (joined (k ∷ ws) ++ 10 ∷ [])
line_added text one two all k ws e f h =
    h ∙ ap (λ t. t ++ 10 ∷ []) (f ∙ ap (λ t. t ++ spaced ws) e ∙ append_assoc text k (spaced ws) ∙ ap (λ t. text ++ t) (sym (joined_is k ws)))
    ∙ append_assoc text (joined (k ∷ ws)) (10 ∷ [])

-- one word more
pub word_added : {X : Type 0} (f : X → Bytes) (xs : List X) (i : ℕ) (d : X) (before after word whole : Bytes) → i < length xs → word ≡ f (get_or xs i d)
    → after ≡ before ++ 32 ∷ word → before ++ spaced (map f (drop i xs)) ≡ whole → after ++ spaced (map f (drop (i + 1) xs)) ≡ whole
word_added f xs i d before after word whole h e a w =
    ap (λ t. t ++ spaced (map f (drop (i + 1) xs))) a
    ∙ append_assoc before (32 ∷ word) (spaced (map f (drop (i + 1) xs)))
    ∙ ap (λ t. before ++ 32 ∷ (t ++ spaced (map f (drop (i + 1) xs)))) e
    ∙ ap (λ t. before ++ t) (sym (at_drop_more (λ ys. spaced (map f ys)) xs i d h))
    ∙ w

-- ---- words of a line, one after another

-- the words of what is left, where anything is
abbrev pub words_left : Option (Bor Bytes) → List Bytes
words_left rest = option_map_or (λ r. words r.now) rest []

-- how much is left, with its end
abbrev pub room_left : Option (Bor Bytes) → ℕ
room_left rest = option_map_or (λ r. length r.now + 1) rest 0
