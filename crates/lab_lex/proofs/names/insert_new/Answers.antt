use Rattle.std.proofs.Common.{◌≡◌, ◌∙◌, sym, ap, map, string_bytes, position, false, cond, ◌++◌, ◌∷◌, [], length, arith, length-append}
use Rattle.std.specs.List.{list_any}
use Rattle.std.specs.Str.{bytes_eq}
use Rattle.std.proofs.lemmas.List.{map-append}
use Rattle.lab_lex.proofs.Positions.{position-map, list_any-from_None}
use Rattle.lab_lex.proofs.names.insert_new.Goals as goal

-- the name is not there, so it goes last
keys_are : (c : goal.In-Ok-insert) → c.insert.new.self.keys ≡ c.args.names.now.keys ++ c.in-Ok.text ∷ []
keys_are c =
    let any : list_any (λ k. bytes_eq (string_bytes c.in-Ok.text) (string_bytes k)) c.args.names.now.keys ≡ false =
    list_any-from_None (λ k. bytes_eq (string_bytes c.in-Ok.text) (string_bytes k)) c.args.names.now.keys
    (ap (λ n. position (λ k. bytes_eq n (string_bytes k)) c.args.names.now.keys) c.in-Ok.ensures.ok
    ∙ sym (position-map (bytes_eq c.args.name.now) string_bytes c.args.names.now.keys) ∙ c.requires) in
    c.in-Ok-insert.ensures.keys ∙ ap (λ b. cond b c.args.names.now.keys (c.args.names.now.keys ++ c.in-Ok.text ∷ [])) any

pub returns-clause-ok : goal.returns-clause-ok
returns-clause-ok c =
    ap (map string_bytes) (keys_are c) ∙ map-append string_bytes c.args.names.now.keys (c.in-Ok.text ∷ [])
    ∙ ap (λ n. map string_bytes c.args.names.now.keys ++ n ∷ []) c.in-Ok.ensures.ok

pub returns-clause-len : goal.returns-clause-len
returns-clause-len c = ap length (keys_are c) ∙ omega (arith, length-append c.args.names.now.keys (c.in-Ok.text ∷ []))
