-- Refusals as they are kept, and what they say of a game that is read.
use Rattle.std.proofs.Common.{◌≡◌, ℕ, ◌+◌, ◌<◌, List, [], ◌∷◌, ◌++◌, length, map, take, get_or, Option, Some, None, Result, Ok, Err, refl, sym, ap, ◌∙◌, subst, append_assoc}
use Rattle.std.proofs.lemmas.List.{map-append, take_more}
use Rattle.lab_defs_text.specs.Agreement.{FaultAgrees}
use Rattle.lab_defs_text.specs.Words.{Bytes}
use Rattle.lab_defs_text.specs.Games.{GameModel}
use Rattle.lab_defs_text.specs.Faults.{TextFault}
use Rattle.lab_defs_report.specs.Refusals.{Refusal, refused, refusal_line, refused_text}
use Rattle.lab_lines.specs.declared.code.Code.{Code}
use Rattle.lab_lines.specs.Codes.{code_name}
use Rattle.lab_lines.specs.Lines.{spaced, refusal_text}
use Rattle.lab_lines.proofs.CallerLemmas.{spaced_line, spaced_more}
use Rattle.lab_world.specs.Games.{game_model}
use Rattle.lab_input.specs.declared.stop.Stop.{Stop}
use Rattle.lab_input.specs.declared.stop.Stop.TheVariants as stop
use Rattle.lab_input.specs.Stops.{IsRefusal, RefusesText, Gives}

-- the line of a refusal whose further words are kept, each after a space
pub kept_line : (line : ℕ) (code : Code) (rest : Bytes) (ws : List Bytes) → rest ≡ spaced ws → refusal_text line (code_name code) rest ≡ refusal_line (refused line (code_name code) ws)
kept_line line code rest ws e = ap (refusal_text line (code_name code)) e ∙ spaced_line line (code_name code) ws

-- one word more: its space is added, and then the word
pub words_more : {W : Type 0} (show : W → Bytes) (words : List W) (i : ℕ) (d : W) (text before after : Bytes) → i < length words → text ≡ spaced (map show (take i words))
    → before ≡ text ++ (32 ∷ []) → after ≡ before ++ show (get_or words i d) → after ≡ spaced (map show (take (i + 1) words))
words_more show words i d text before after h e p q =
    q ∙ ap (λ t. t ++ show (get_or words i d)) (p ∙ ap (λ t. t ++ (32 ∷ [])) e) ∙ append_assoc (spaced (map show (take i words))) (32 ∷ []) (show (get_or words i d))
    ∙ sym (spaced_more (map show (take i words)) (show (get_or words i d)))
    ∙ ap spaced (sym (map-append show (take i words) (get_or words i d ∷ []))) ∙ ap (λ ws. spaced (map show ws)) (sym (take_more words i d h))

-- a refusal is what is given where there is one
pub gives_refusal : {X Y : Type 0} (value : X → Y) (r : Refusal) (found : Result Y Refusal) (s : Stop) → found ≡ Err r → IsRefusal r s → Gives value found (Err s)
gives_refusal value r found (stop.Refused kept) e h = (r, e, h)
gives_refusal value r found stop.ReadFault e h = h
gives_refusal value r found stop.WriteFault e h = h
gives_refusal value r found stop.Memory e h = tt

-- the refusal of the first fault of a text
pub gives_text : (text : Bytes) (found : Result GameModel TextFault) (f : Option TextFault) (s : Stop) → FaultAgrees f found → RefusesText text f s
    → Gives game_model (elim found [ Ok g ↦ Ok g | Err f ↦ Err (refused_text text f) ]) (Err s)
gives_text text found None s a h = subst (λ s. Gives game_model (elim found [ Ok g ↦ Ok g | Err f ↦ Err (refused_text text f) ]) (Err s)) (sym h) tt
gives_text text found (Some f) s a h = gives_refusal game_model (refused_text text f) _ s (rw a refl) h
