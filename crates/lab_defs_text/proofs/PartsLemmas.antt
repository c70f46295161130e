-- A text that is read is the text of its parts.
use Rattle.std.proofs.Common.{◌≡◌, ℕ, ◌+◌, true, cond, List, [], ◌∷◌, ◌++◌, length, map, Result, Ok, Err, refl, sym, ap, subst, ◌∙◌, append_assoc, inl, inr}
use Rattle.std.specs.Prelude.{◌&&◌, nat_lt}
use Rattle.std.specs.List.{list_all}
use Rattle.std.specs.List.{join_with_byte}
use Rattle.std.proofs.lemmas.Bool.{cases_Bool, and_from}
use Rattle.std.proofs.lemmas.List.{length-map}
use Rattle.std.proofs.lemmas.List.Splits.{join_with_byte-slice_split}
use Rattle.lab_defs_text.specs.Faults.{LineFault}
use Rattle.lab_defs_text.specs.Steps.{◌>>=◌}
use Rattle.lab_defs_text.specs.Words.{Bytes, lines, are_names}
use Rattle.lab_defs_text.specs.Lines.{Line, bytes_of, text_of}
use Rattle.lab_defs_text.specs.Reading.{Kind, start_kind, done_kind, kind_of, line_at}
use Rattle.lab_defs_text.specs.Texts.{is_within}
use Rattle.lab_defs_text.specs.Parts.{part_ok, parts_ok}
use Rattle.lab_defs_text.specs.Drafts.{Draft, place_name, with_line, on_line, empty, is_done, at_done, cut, read_from, parts_of}
use Rattle.lab_defs_text.proofs.StepLemmas.{bind_ok, ok_is, first_chosen, second_chosen}
use Rattle.lab_defs_text.proofs.ReadingLemmas.{line_read}
use Rattle.lab_defs_text.proofs.SoFarLemmas.{apart_names, so_far, IsDraft, GoesOn, goes_on}

-- bytes are the text of lines, which lead from some parts to others
record ReadsTo (k : Kind) (d e : Draft) (bytes : Bytes) : Type 0 where
  pub lines : List Line
  pub draft : IsDraft done_kind e
  pub text : bytes ≡ text_of lines
  pub parts : so_far done_kind e ≡ so_far k d ++ lines

-- the kind of the last line
done_is : (k : Kind) → is_done k ≡ true → k ≡ done_kind
done_is done_kind e = refl
done_is k e = absurd cc

-- what ends without a line feed is not read
cut_is : {A : Type 0} (n : ℕ) (l : Bytes) (e : Draft) → cut n l ≡ Ok e → A
cut_is n [] e q = absurd cc
cut_is n (c ∷ cs) e q = absurd cc

-- a line that was not refused
on_line_ok : {A : Type 0} (n : ℕ) (r : Result A LineFault) (x : A) → on_line n r ≡ Ok x → r ≡ Ok x
on_line_ok n (Ok y) x e = cc
on_line_ok n (Err f) x e = absurd cc

-- nothing stands behind the last line
record AtEnd (m : Bytes) (ms : List Bytes) (d e : Draft) : Type 0 where
  pub last : m ∷ ms ≡ [] ∷ []
  pub same : d ≡ e

-- the end of a text that is read
at_end : (n : ℕ) (d e : Draft) (m : Bytes) (ms : List Bytes) → at_done n d (m ∷ ms) ≡ Ok e → AtEnd m ms d e
at_end n d e [] [] q = record { last = refl; same = ok_is d e q }
at_end n d e [] (x ∷ xs) q = absurd cc
at_end n d e (c ∷ cs) ms q = absurd cc

-- a line before others
joined_line : (l m : Bytes) (ms : List Bytes) (x : Line) (ls : List Line) → l ≡ bytes_of x → join_with_byte 10 (m ∷ ms) ≡ text_of ls → join_with_byte 10 (l ∷ m ∷ ms) ≡ text_of (x ∷ ls)
joined_line l m ms x ls p q = rw (p, q) refl

-- a line between others
more_lines : (a b : List Line) (x : Line) (c : List Line) (d : List Line) → a ≡ b ++ x ∷ [] → d ≡ a ++ c → d ≡ b ++ x ∷ c
more_lines a b x c d p q = q ∙ ap (λ (ls : List Line). ls ++ c) p ∙ append_assoc b (x ∷ []) c

-- pieces that are read are lines
read_sound : (n : ℕ) (last : Kind) (d e : Draft) (ps : List Bytes) → IsDraft last d → read_from n last d ps ≡ Ok e → ReadsTo last d e (join_with_byte 10 ps)
read_sound n last d e [] i q = absurd cc
read_sound n last d e (l ∷ []) i q = cut_is n l e q
read_sound n last d e (l ∷ m ∷ ms) i q =
    let a = bind_ok (on_line n (line_at last l)) (λ x. on_line n (with_line n last d x) >>= λ f. cond (is_done (kind_of x)) (at_done n f (m ∷ ms)) (read_from (n + 1) (kind_of x) f (m ∷ ms))) e q in
    let b = bind_ok (on_line n (with_line n last d a.0)) (λ f. cond (is_done (kind_of a.0)) (at_done n f (m ∷ ms)) (read_from (n + 1) (kind_of a.0) f (m ∷ ms))) e a.2 in
    let r = line_read last l a.0 (on_line_ok n (line_at last l) a.0 a.1) in
    let g = goes_on n last d b.0 a.0 i r.line r.follows (on_line_ok n (with_line n last d a.0) b.0 b.1) in
    elim (cases_Bool (is_done (kind_of a.0))) [
      | inl t ↦ (let f : at_done n b.0 (m ∷ ms) ≡ Ok e = first_chosen (is_done (kind_of a.0)) (at_done n b.0 (m ∷ ms)) (read_from (n + 1) (kind_of a.0) b.0 (m ∷ ms)) (Ok e) t b.2 in
          let z = at_end n b.0 e m ms f in
          let k = done_is (kind_of a.0) t in
          let h : GoesOn done_kind e (so_far last d ++ a.0 ∷ []) = subst (λ (x : Draft). GoesOn done_kind x (so_far last d ++ a.0 ∷ [])) z.same (subst (λ (j : Kind). GoesOn j b.0 (so_far last d ++ a.0 ∷ [])) k g) in
          record { lines = a.0 ∷ []; draft = h.draft; text = joined_line l m ms a.0 [] r.bytes (ap (join_with_byte 10) z.last); parts = h.lines })
      | inr t ↦ (let f : read_from (n + 1) (kind_of a.0) b.0 (m ∷ ms) ≡ Ok e = second_chosen (is_done (kind_of a.0)) (at_done n b.0 (m ∷ ms)) (read_from (n + 1) (kind_of a.0) b.0 (m ∷ ms)) (Ok e) t b.2 in
          let h = read_sound (n + 1) (kind_of a.0) b.0 e (m ∷ ms) g.draft f in
          record {
            lines = a.0 ∷ h.lines;
            draft = h.draft;
            text = joined_line l m ms a.0 h.lines r.bytes h.text;
            parts = more_lines (so_far (kind_of a.0) b.0) (so_far last d) a.0 h.lines (so_far done_kind e) g.lines h.parts;
          })
    ]

-- parts of a text have its lines
pub record IsTextOf (b : Bytes) (e : Draft) : Type 0 where
  pub draft : IsDraft done_kind e
  pub text : b ≡ text_of (so_far done_kind e)

-- a text that is read is the text of its parts
pub parts_sound : (b : Bytes) (e : Draft) → parts_of b ≡ Ok e → IsTextOf b e
parts_sound b e q =
    let r = read_sound 1 start_kind empty e (lines b) (refl, refl) q in
    record { draft = r.draft; text = sym (join_with_byte-slice_split 10 b) ∙ r.text ∙ ap text_of (sym r.parts) }

-- the parts of a text that is read are in order
pub parts_fit : (b : Bytes) (e : Draft) → parts_of b ≡ Ok e → parts_ok e ≡ true
parts_fit b e q =
    let d = (parts_sound b e q).draft in
    let c = d.0 in
    let names = map place_name e.places in
    and_from (is_within 1 4096 e.grid) (is_within 1 32 e.horizon && (are_names e.tokens && (are_names names && list_all part_ok e.places))) c.front_fine.grid_fine
    (and_from (is_within 1 32 e.horizon) (are_names e.tokens && (are_names names && list_all part_ok e.places)) c.front_fine.horizon_fine
    (and_from (are_names e.tokens) (are_names names && list_all part_ok e.places) c.front_fine.tokens_fine
    (and_from (are_names names) (list_all part_ok e.places)
    (and_from (nat_lt 0 (length names)) (apart_names names) (ap (λ n. nat_lt 0 n) (length-map e.places place_name) ∙ d.1) c.names) c.places)))
