-- From the parts of a text to its game.
use Rattle.std.proofs.Common.{◌≡◌, ◌^◌, ◌<◌, Option, Result, Ok, Err, sym, ap, subst, ◌∙◌, true, length, map}
use Rattle.std.specs.Prelude.{◌&&◌, nat_lt}
use Rattle.std.specs.List.{list_all}
use Rattle.std.specs.Borrow.{Bor}
use Rattle.std.proofs.lemmas.Bool.{and_parts, and_from}
use Rattle.lab_defs_text.specs.Agreement.{Agrees, FaultAgrees}
use Rattle.lab_defs_text.specs.Faults.{TextFault}
use Rattle.lab_defs_text.specs.Steps.{◌>>=◌}
use Rattle.lab_defs_text.specs.Words.{Bytes, are_names}
use Rattle.lab_defs_text.specs.Games.{GameModel}
use Rattle.lab_defs_text.specs.Parts.{part_ok, parts_ok}
use Rattle.lab_defs_text.specs.Drafts as draft
use Rattle.lab_defs_text.specs.Drafts.{parts_of, place_name}
use Rattle.lab_defs_text.specs.Assembly.{assembled}
use Rattle.lab_defs_text.specs.Readings.{game_of}
use Rattle.lab_defs_text.specs.Texts.{IsText, is_within}
use Rattle.lab_defs_text.proofs.PartsLemmas.{parts_fit}
use Rattle.lab_defs_text.proofs.ReadTextLemmas.{text_law}
use Rattle.lab_world.specs.declared.game.Game.{Game}
use Rattle.lab_world.specs.declared.parts.Parts.{Parts}
use Rattle.lab_world.specs.Drafts.{named_draft_of, are_apart, may_assemble}
use Rattle.lab_world.specs.Games.{game_model}
use Rattle.lab_world.specs.Sizes.{sizes_ok}
use Rattle.lab_text.specs.declared.fault.TextFault.{TextFault as Fault}
use Rattle.lab_text.specs.declared.draft.Draft.{Draft}
use Rattle.lab_text.specs.Faults.{text_fault}
use Rattle.lab_text.specs.Drafts.{draft_is, all_parts}
use Rattle.lab_text.proofs.FaultSteps.{fault_same}
use Rattle.lab_text.proofs.SizeSteps.{read_sizes}

-- parts in order whose sizes fit may be assembled
in_order_fit : (d : draft.Draft) → parts_ok d ≡ true → sizes_ok d.places ≡ true → may_assemble d ≡ true
in_order_fit d e sizes =
    let names = map place_name d.places in
    let fine = list_all part_ok d.places && sizes_ok d.places in
    let a = and_parts (is_within 1 4096 d.grid) (is_within 1 32 d.horizon && (are_names d.tokens && (are_names names && list_all part_ok d.places))) e in
    let b = and_parts (is_within 1 32 d.horizon) (are_names d.tokens && (are_names names && list_all part_ok d.places)) a.1 in
    let c = and_parts (are_names d.tokens) (are_names names && list_all part_ok d.places) b.1 in
    let f = and_parts (are_names names) (list_all part_ok d.places) c.1 in
    and_from (is_within 1 4096 d.grid) (is_within 1 32 d.horizon && (are_apart d.tokens && (are_apart names && fine))) a.0
    (and_from (is_within 1 32 d.horizon) (are_apart d.tokens && (are_apart names && fine)) b.0
    (and_from (are_apart d.tokens) (are_apart names && fine) (and_parts (nat_lt 0 (length d.tokens)) (are_apart d.tokens) c.0).1
    (and_from (are_apart names) fine (and_parts (nat_lt 0 (length names)) (are_apart names) f.0).1 (and_from (list_all part_ok d.places) (sizes_ok d.places) f.1 sizes))))

-- parts that were read may be assembled
pub all_fit : (bytes : Bytes) (x : Draft) (p : Parts (Bor Bytes)) → length bytes < 2 ^ 32 → parts_of bytes ≡ Ok (draft_is x) → p ≡ all_parts x → may_assemble (named_draft_of p) ≡ true
all_fit bytes x p short e f =
    ap (λ (q : Parts (Bor Bytes)). may_assemble (named_draft_of q)) f ∙ in_order_fit (draft_is x) (parts_fit bytes (draft_is x) e) (read_sizes bytes (draft_is x) short e)

-- the game of a text is that of the parts that were read
pub game_is : (bytes : Bytes) (x : Draft) (p : Parts (Bor Bytes)) → parts_of bytes ≡ Ok (draft_is x) → p ≡ all_parts x → game_of bytes ≡ assembled (named_draft_of p)
game_is bytes x p e f = ap (λ r. r >>= assembled) e ∙ ap (λ (q : Parts (Bor Bytes)). assembled (named_draft_of q)) (sym f)

-- a fault of the parts is one of the text
pub parts_fault : (bytes : Bytes) (fault : Option TextFault) → FaultAgrees fault (parts_of bytes) → FaultAgrees fault (game_of bytes)
parts_fault bytes fault e = fault_same fault (parts_of bytes) (game_of bytes) (λ f h. ap (λ r. r >>= assembled) h) e

-- a fault of the whole is one of the text
pub whole_fault : (bytes : Bytes) (x : Draft) (p : Parts (Bor Bytes)) (fault : Option TextFault) → parts_of bytes ≡ Ok (draft_is x) → p ≡ all_parts x → FaultAgrees fault (assembled (named_draft_of p)) → FaultAgrees fault (game_of bytes)
whole_fault bytes x p fault e f h = subst (λ r. FaultAgrees fault r) (sym (game_is bytes x p e f)) h

-- a fault that was answered is that of the text
pub fault_told : (bytes : Bytes) (result : Result Game Fault) (told : Fault) (fault : Option TextFault) → result ≡ Err told → text_fault told ≡ fault → FaultAgrees fault (game_of bytes)
    → Agrees game_model text_fault result (game_of bytes)
fault_told bytes result told fault e f h =
    subst (λ r. Agrees game_model text_fault r (game_of bytes)) (sym e) (subst (λ o. FaultAgrees o (game_of bytes)) (sym f) h)

-- a game that was read has the text
pub text_read : (bytes : Bytes) (g : GameModel) → game_of bytes ≡ Ok g → IsText bytes g
text_read bytes g e = (text_law bytes g).0 e

-- what was read of a text of a game is that game
pub only_read : (bytes : Bytes) (result : Result Game Fault) → Agrees game_model text_fault result (game_of bytes) → (g : GameModel) → IsText bytes g → Agrees game_model text_fault result (Ok g)
only_read bytes result e g t = subst (λ r. Agrees game_model text_fault result r) ((text_law bytes g).1 t) e
