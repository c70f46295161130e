-- The words of the reply to `show`, one weight after another.
use Rattle.std.proofs.Common.{◌≡◌, ℕ, ◌+◌, ◌<◌, List, [], ◌∷◌, ◌++◌, length, map, take, drop, get_or, sym, ap, ◌∙◌, append_assoc, append-nil}
use Rattle.std.proofs.lemmas.List.{map-append, take_more, take-append-drop}
use Rattle.std.proofs.lemmas.List.Concat.{flat_map-append}
use lib.Chars.{codes}
use Rattle.lab_defs_text.specs.Lines.{joined}
use Rattle.lab_defs_text.specs.Numbers.{numeral}
use Rattle.lab_session.specs.Answers.{show_words}
use Rattle.lab_lines.specs.Lines.{spaced}
use Rattle.lab_lines.proofs.CallerLemmas.{joined_spaced}

-- further weights come each after a space
shown_append : (seat : ℕ) (us vs : List ℕ) → joined (show_words seat (us ++ vs)) ≡ joined (show_words seat us) ++ spaced (map numeral vs)
shown_append seat us vs =
    joined_spaced (codes "show") (numeral seat ∷ map numeral (us ++ vs))
    ∙ ap (λ ws. codes "show" ++ spaced (numeral seat ∷ ws)) (map-append numeral us vs)
    ∙ ap (λ t. codes "show" ++ t) (flat_map-append (λ w. 32 ∷ w) (numeral seat ∷ map numeral us) (map numeral vs))
    ∙ sym (append_assoc (codes "show") (spaced (numeral seat ∷ map numeral us)) (spaced (map numeral vs)))
    ∙ ap (λ t. t ++ spaced (map numeral vs)) (sym (joined_spaced (codes "show") (numeral seat ∷ map numeral us)))

-- one weight more
pub shown_more : (seat i d : ℕ) (ws : List ℕ) → i < length ws → joined (show_words seat (take i ws)) ++ (32 ∷ numeral (get_or ws i d)) ≡ joined (show_words seat (take (i + 1) ws))
shown_more seat i d ws h =
    ap (λ t. joined (show_words seat (take i ws)) ++ t) (sym (append-nil (32 ∷ numeral (get_or ws i d)))) ∙ sym (shown_append seat (take i ws) (get_or ws i d ∷ []))
    ∙ ap (λ us. joined (show_words seat us)) (sym (take_more ws i d h))

-- the first weights, and the others
pub shown_parts : (seat i : ℕ) (ws : List ℕ) → joined (show_words seat (take i ws)) ++ (spaced (map numeral (drop i ws)) ++ (10 ∷ [])) ≡ joined (show_words seat ws) ++ (10 ∷ [])
shown_parts seat i ws =
    sym (append_assoc (joined (show_words seat (take i ws))) (spaced (map numeral (drop i ws))) (10 ∷ []))
    ∙ ap (λ t. t ++ (10 ∷ [])) (sym (shown_append seat (take i ws) (drop i ws)) ∙ ap (λ us. joined (show_words seat us)) (take-append-drop i ws))
