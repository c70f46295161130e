-- A text is read to a game exactly where it is a text of that game.
use Rattle.std.proofs.Common.{◌≡◌, Result, Ok, Err, refl, sym, ap, ◌∙◌}
use Rattle.lab_defs_text.specs.Faults.{TextFault}
use Rattle.lab_defs_text.specs.Steps.{◌>>=◌}
use Rattle.lab_defs_text.specs.Words.{Bytes}
use Rattle.lab_defs_text.specs.Games.{GameModel}
use Rattle.lab_defs_text.specs.Lines.{text_of}
use Rattle.lab_defs_text.specs.Texts.{IsText, canonical}
use Rattle.lab_defs_text.specs.Drafts.{Draft, parts_of}
use Rattle.lab_defs_text.specs.Assembly.{assembled}
use Rattle.lab_defs_text.specs.Readings.{game_of}
use Rattle.lab_defs_text.specs.Laws.{TextLaw, OneGameLaw, NoGameLaw, ReadBackLaw}
use Rattle.lab_defs_text.proofs.StepLemmas.{bind_ok, ok_is}
use Rattle.lab_defs_text.proofs.OrderLemmas.{canonical_is_text}
use Rattle.lab_defs_text.proofs.PartsLemmas.{parts_sound}
use Rattle.lab_defs_text.proofs.LeadLemmas.{game_reads}
use Rattle.lab_defs_text.proofs.MadeLemmas.{game_made}
use Rattle.lab_defs_text.proofs.WholeLemmas.{game_is}

-- what is read is a text of the game
text_sound : (b : Bytes) (g : GameModel) → game_of b ≡ Ok g → IsText b g
text_sound b g e =
    let a = bind_ok (parts_of b) assembled g e in
    let p = parts_sound b a.0 a.1 in
    let w = game_is a.0 g p.draft a.2 in
    (w.fine, w.orders, w.all_orders, p.text ∙ ap text_of w.lines)

-- parts that are read and assembled
both_steps : (b : Bytes) (g : GameModel) (d : Draft) → parts_of b ≡ Ok d → assembled d ≡ Ok g → game_of b ≡ Ok g
both_steps b g d p q = ap (λ (r : Result Draft TextFault). r >>= assembled) p ∙ q

-- a text of a game is read to it
text_again : (b : Bytes) (g : GameModel) → IsText b g → game_of b ≡ Ok g
text_again b g t =
    let r = game_reads g t.1 t.0 t.2 in
    both_steps b g r.draft (ap parts_of t.3 ∙ r.reads) (game_made g r.from t.1 r.draft t.0 t.2 r.of)

-- a text is read to a game exactly where it is one of its texts
pub text_law : TextLaw
text_law b g = (text_sound b g, text_again b g)

-- a text is the text of one game
pub one_game : OneGameLaw
one_game b g h x y = ok_is g h (sym (text_again b g x) ∙ text_again b h y)

-- a text with a fault is the text of no game
fault_or_text : (b : Bytes) (f : TextFault) (g : GameModel) → game_of b ≡ Err f → IsText b g → ⊥
fault_or_text b f g e t = let h = text_again b g t in absurd cc

-- what a text of no game answers is a fault
a_fault : (b : Bytes) (r : Result GameModel TextFault) → game_of b ≡ r → ((g : GameModel) → IsText b g → ⊥) → (f : TextFault) × (game_of b ≡ Err f)
a_fault b (Ok g) e none = absurd (none g (text_sound b g e))
a_fault b (Err f) e none = (f, e)

-- bytes have a fault exactly where they are a text of no game
pub no_game : NoGameLaw
no_game b = (λ x g t. fault_or_text b x.0 g x.1 t, λ none. a_fault b (game_of b) refl none)

-- a canonical text is read to its game
pub read_back : ReadBackLaw
read_back g e = text_again (canonical g) g (canonical_is_text g e)
