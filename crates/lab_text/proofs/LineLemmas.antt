-- The lines of parts of a game.
use Rattle.std.proofs.Common.{◌≡◌, ℕ, suc, ◌+◌, ◌-◌, ◌/◌, ◌%◌, ◌<◌, List, [], ◌∷◌, ◌++◌, length, drop, get_or, ap, sym, ◌∙◌, arith, append_assoc, append-nil}
use Rattle.std.specs.Prelude.{slice_index_or}
use Rattle.std.specs.List.{range_with_len}
use Rattle.std.proofs.lemmas.List.{drop_more}
use lib.Chars.{codes}
use Rattle.lab_defs_text.specs.Words.{Bytes}
use Rattle.lab_defs_text.specs.Games.{GameModel, World, Recall}
use Rattle.lab_defs_text.specs.Lines.{Line, head_line, grid_line, horizon_line, memory_line, row_line, root_line, done_line, joined, recall_word, text_of}
use Rattle.lab_defs_text.specs.Texts.{name_of, outcome_lines, row_lines, token_lines, canonical}
use Rattle.lab_defs_text.proofs.TextLemmas.{text_more, lines_added}
use Rattle.lab_world.specs.declared.game.Game.{Game}
use Rattle.lab_world.specs.declared.place.Place.{Place}
use Rattle.lab_world.specs.Games.{game_model}
use Rattle.lab_text.specs.Parts.{place_part, places_part}

-- the words of a line of six
pub six_words : (k a b c d e a' b' c' d' e' : Bytes) → a ≡ a' → b ≡ b' → c ≡ c' → d ≡ d' → e ≡ e'
    → ◌≡◌ {A = List Bytes} (k ∷ a ∷ b ∷ c ∷ d ∷ e ∷ []) (k ∷ a' ∷ b' ∷ c' ∷ d' ∷ e' ∷ [])
six_words k a b c d e a' b' c' d' e' p q r s t = cc

-- the lines of one row, and those of the rows behind it
row_first : (g : GameModel) (w : World) (k : ℕ) (ks : List ℕ) → row_lines g w (k ∷ ks) ≡ row_lines g w (k ∷ []) ++ row_lines g w ks
row_first g w k ks =
    let first = row_line (name_of w.one (k / length w.two)) (name_of w.two (k % length w.two)) ∷ outcome_lines g (slice_index_or w.rows k []) in
    ap (λ (ls : List Line). ls ++ row_lines g w ks) {x = first} (sym (append-nil first))

-- one row more
pub row_added : (g : GameModel) (w : World) (i n : ℕ) (before after whole : Bytes) → i < n → after ≡ before ++ text_of (row_lines g w (i ∷ []))
    → before ++ text_of (row_lines g w (range_with_len i (n - i))) ≡ whole → after ++ text_of (row_lines g w (range_with_len (i + 1) (n - (i + 1)))) ≡ whole
row_added g w i n before after whole h a e =
    let left : n - i ≡ suc (n - (i + 1)) = omega (arith, h) in
    let rest = range_with_len (i + 1) (n - (i + 1)) in
    lines_added before after whole (row_lines g w (i ∷ [])) (row_lines g w rest) (row_lines g w (range_with_len i (n - i)))
    (ap (λ m. row_lines g w (range_with_len i m)) left ∙ row_first g w i rest) a e

-- one place more
pub place_added : (g : Game) (ps : List Place) (i : ℕ) (p : Place) (name before after whole : Bytes) → i < length g.names → i < length ps
    → name ≡ name_of g.names i → p ≡ get_or ps i p → after ≡ before ++ text_of (place_part g name p)
    → before ++ text_of (places_part g (drop i g.names) (drop i ps)) ≡ whole
    → after ++ text_of (places_part g (drop (i + 1) g.names) (drop (i + 1) ps)) ≡ whole
place_added g ps i p name before after whole h k n e a w =
    let names : drop i g.names ≡ name ∷ drop (i + 1) g.names = drop_more g.names i [] h ∙ ap (λ x. x ∷ drop (i + 1) g.names) (sym n) in
    let places : drop i ps ≡ p ∷ drop (i + 1) ps = drop_more ps i p k ∙ ap (λ x. x ∷ drop (i + 1) ps) (sym e) in
    lines_added before after whole (place_part g name p) (places_part g (drop (i + 1) g.names) (drop (i + 1) ps)) (places_part g (drop i g.names) (drop i ps))
    (ap (λ ns. places_part g ns (drop i ps)) names ∙ ap (λ qs. places_part g (name ∷ drop (i + 1) g.names) qs) places) a w

-- the lines before the tokens
pub head_added : (text one two three four word : Bytes) (grid horizon : ℕ) (recall : Recall) → one ≡ text ++ text_of (head_line ∷ [])
    → two ≡ one ++ text_of (grid_line grid ∷ []) → three ≡ two ++ text_of (horizon_line horizon ∷ []) → word ≡ recall_word recall
    → four ≡ three ++ (joined (codes "memory" ∷ word ∷ []) ++ 10 ∷ [])
    → four ≡ text ++ text_of (head_line ∷ grid_line grid ∷ horizon_line horizon ∷ memory_line recall ∷ [])
head_added text one two three four word grid horizon recall a b c w d =
    text_more text three four (head_line ∷ grid_line grid ∷ horizon_line horizon ∷ []) (memory_line recall ∷ [])
    (text_more text two three (head_line ∷ grid_line grid ∷ []) (horizon_line horizon ∷ [])
    (text_more text one two (head_line ∷ []) (grid_line grid ∷ []) a b) c)
    (d ∙ ap (λ x. three ++ (joined (codes "memory" ∷ x ∷ []) ++ 10 ∷ [])) w)

-- the lines of a game, part by part
pub game_added : (g : Game) (text one two three four five word : Bytes)
    → one ≡ text ++ text_of (head_line ∷ grid_line g.grid ∷ horizon_line g.horizon ∷ memory_line (game_model g).recall ∷ [])
    → two ≡ one ++ text_of (token_lines g.tokens) → three ≡ two ++ text_of (places_part g g.names g.places) → word ≡ name_of g.names g.root.0
    → four ≡ three ++ (joined (codes "root" ∷ word ∷ []) ++ 10 ∷ []) → five ≡ four ++ text_of (done_line ∷ []) → five ≡ text ++ canonical (game_model g)
game_added g text one two three four five word a b c w d e =
    let head = head_line ∷ grid_line g.grid ∷ horizon_line g.horizon ∷ memory_line (game_model g).recall ∷ [] in
    let tokens = token_lines g.tokens in
    let places = places_part g g.names g.places in
    let root = root_line (name_of g.names g.root.0) in
    text_more text four five (((head ++ tokens) ++ places) ++ root ∷ []) (done_line ∷ [])
    (text_more text three four ((head ++ tokens) ++ places) (root ∷ [])
    (text_more text two three (head ++ tokens) places (text_more text one two head tokens a b) c)
    (d ∙ ap (λ x. three ++ (joined (codes "root" ∷ x ∷ []) ++ 10 ∷ [])) w)) e
    ∙ ap (λ ls. text ++ text_of ls) (append_assoc ((head ++ tokens) ++ places) (root ∷ []) (done_line ∷ []) ∙ append_assoc (head ++ tokens) places (root ∷ done_line ∷ []))
