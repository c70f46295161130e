-- Places with their names, and lines that add to them.
use Rattle.std.proofs.Common.{◌≡◌, ℕ, ◌+◌, ◌<◌, ◌≤◌, ℤ, Bool, true, false, List, [], ◌∷◌, ◌++◌, length, map, Ok, Err, refl, ap, sym, ◌∙◌, arith, length-append, append-nil}
use Rattle.std.specs.Borrow.{Bor}
use Rattle.std.proofs.lemmas.Bool.{cond-false}
use Rattle.std.proofs.lemmas.List.{map-append, get_or_past}
use Rattle.std.proofs.Math.Seq.{get_or-append_seam}
use Rattle.lab_lex.specs.Names.{name_bytes}
use Rattle.lab_defs_text.specs.Words.{Bytes, stands_in}
use Rattle.lab_defs_text.specs.Faults.{LineFault, twice_at}
use Rattle.lab_defs_text.specs.Texts.{name_of}
use Rattle.lab_defs_text.specs.Lines.{world_line, end_line, root_line}
use Rattle.lab_defs_text.specs.Reading.{rest_at, one_word, two_words, name_at, payoff_word, world_kind, end_kind, root_kind}
use Rattle.lab_defs_text.specs.Drafts as draft
use Rattle.lab_world.specs.declared.parts.PartPlace.{PartPlace}
use Rattle.lab_world.specs.declared.parts.PartPlace.TheVariants as place
use Rattle.lab_world.specs.Models.{recall_model}
use Rattle.lab_world.specs.Drafts.{part_row_of, part_place_of, part_places_of}
use Rattle.lab_text.specs.declared.line_kind.LineKind.{LineKind}
use Rattle.lab_text.specs.declared.line_kind.LineKind.TheVariants as kind
use Rattle.lab_text.specs.declared.draft.Draft.{Draft}
use Rattle.lab_text.specs.declared.draft.OpenWorld.{OpenWorld}
use Rattle.lab_text.specs.Drafts.{kind_is, draft_is, applied, closed_places, closed_world, closed_row, whole_worlds, Closed, whole_row, whole_world, open_world_of, open_row_of}

-- ---- places and their names

-- no names are those of no place
places_none : (ns : List Bytes) → part_places_of ns [] ≡ []
places_none [] = refl
places_none (n ∷ ns) = refl

-- one place more has the next name
places_more : (ns : List Bytes) (ps : List (PartPlace (Bor Bytes))) (p : PartPlace (Bor Bytes)) → length ps < length ns → part_places_of ns (ps ++ p ∷ []) ≡ part_places_of ns ps ++ part_place_of (name_of ns (length ps)) p ∷ []
places_more [] ps p h = absurd (omega arith)
places_more (n ∷ ns) [] p h = ap (λ (xs : List draft.PartPlace). part_place_of n p ∷ xs) (places_none ns)
places_more (n ∷ ns) (q ∷ ps) p h = ap (λ (xs : List draft.PartPlace). part_place_of n q ∷ xs) (places_more ns ps p (omega arith))

-- a name behind those of the places changes none
places_same : (ns ms : List Bytes) (ps : List (PartPlace (Bor Bytes))) → length ps ≤ length ns → part_places_of (ns ++ ms) ps ≡ part_places_of ns ps
places_same [] ms [] h = places_none ms
places_same [] ms (p ∷ ps) h = absurd (omega arith)
places_same (n ∷ ns) ms [] h = refl
places_same (n ∷ ns) ms (p ∷ ps) h = ap (λ (xs : List draft.PartPlace). part_place_of n p ∷ xs) (places_same ns ms ps (omega arith))

-- the name of a place is the one that it is given
name_given : (n : Bytes) (p : PartPlace (Bor Bytes)) → draft.place_name (part_place_of n p) ≡ n
name_given n (place.World line one two rows) = refl
name_given n (place.End line payoff) = refl

-- the names of the places, where each has one
names_are : (ns : List Bytes) (ps : List (PartPlace (Bor Bytes))) → length ns ≡ length ps → map draft.place_name (part_places_of ns ps) ≡ ns
names_are [] ps h = refl
names_are (n ∷ ns) [] h = absurd (omega arith)
names_are (n ∷ ns) (p ∷ ps) h = let a = name_given n p in let b = names_are ns ps (omega arith) in rw (a, b) refl

-- the name behind others
name_last : (ns : List Bytes) (n : Bytes) (k : ℕ) → k ≡ length ns → name_of (ns ++ n ∷ []) k ≡ n
name_last ns n k h = ap (λ i. name_of (ns ++ n ∷ []) i) h ∙ get_or-append_seam ns n [] []

-- no name stands past the last one
name_past : (ns : List Bytes) (k : ℕ) → length ns ≤ k → name_of ns k ≡ []
name_past ns k h = get_or_past ns k [] h

-- ---- the last world, where it is whole

-- how many places there are with it
closed_length : (last : LineKind) (x : Draft) → length (closed_places last x) ≡ length x.places.items + whole_worlds last
closed_length kind.To x = length-append x.places.items (whole_world x.open_world x.open_row ∷ [])
closed_length last x = omega arith

-- the places with it
whole_is : (last : LineKind) (x : Draft) → length x.names ≡ length x.places.items + whole_worlds last → draft.whole_places (kind_is last) (draft_is x) ≡ part_places_of x.names (closed_places last x)
whole_is kind.To x h =
    let more = places_more x.names x.places.items (whole_world x.open_world x.open_row) (omega arith) in
    sym (more ∙ ap (λ rs. part_places_of x.names x.places.items
    ++ draft.part_world (draft.with_rows (open_world_of (name_of x.names (length x.places.items)) x.open_world) rs) ∷ []) (map-append part_row_of x.open_world.rows.items (whole_row x.open_row ∷ [])))
whole_is last x h = refl

-- their names
whole_names : (last : LineKind) (x : Draft) → length x.names ≡ length x.places.items + whole_worlds last → map draft.place_name (draft.whole_places (kind_is last) (draft_is x)) ≡ x.names
whole_names last x h = ap (map draft.place_name) (whole_is last x h) ∙ names_are x.names (closed_places last x) (omega (arith, h, closed_length last x))

-- the world that stays open has no name
cleared_world_is : (last : LineKind) (x : Draft) → length x.names ≡ length x.places.items + whole_worlds last → draft.cleared_world (kind_is last) (draft_is x) ≡ closed_world last x
cleared_world_is kind.To x h = refl
cleared_world_is last x h = ap (λ n. open_world_of n x.open_world) (name_past x.names (length x.places.items) (omega arith))

-- the row that stays open
cleared_row_is : (last : LineKind) (x : Draft) → draft.cleared_row (kind_is last) (draft_is x) ≡ closed_row last x
cleared_row_is kind.To x = refl
cleared_row_is last x = refl

-- the places that are closed, with names of which more may stand behind theirs
places_closed : (last : LineKind) (old closed : Draft) (names more : List Bytes) → length old.names ≡ length old.places.items + whole_worlds last → Closed last old closed
    → names ≡ closed.names ++ more → part_places_of names closed.places.items ≡ draft.whole_places (kind_is last) (draft_is old)
places_closed last old closed names more h c e =
    ap (λ ns. part_places_of ns closed.places.items) (e ∙ ap (λ ns. ns ++ more) c.names) ∙ ap (part_places_of (old.names ++ more)) c.places
    ∙ places_same old.names more (closed_places last old) (omega (arith, h, closed_length last old)) ∙ sym (whole_is last old h)

-- ---- names that must be new

-- a name that was new
new_is : {A : Type 0} (twice : Bool) (x y : A) → draft.unless_twice twice x ≡ Ok y → (twice ≡ false) × (y ≡ x)
new_is false x y e = (refl, cc)
new_is true x y e = absurd cc

-- a name that was not new, whatever is made of it
old_is : {A B : Type 0} (twice : Bool) (x : A) (y : B) (f : LineFault) → draft.unless_twice twice x ≡ Err f → draft.unless_twice twice y ≡ Err f
old_is false x y f e = absurd cc
old_is true x y f e = cc

-- ---- lines

-- the parts with a world that begins
abbrev begun : ℕ → LineKind → Draft → Bytes → draft.Draft
begun n last x name = record (draft_is x) {
  places = draft.whole_places (kind_is last) (draft_is x);
  open_world = record { name = name; line = n; one = []; two = []; rows = [] };
  open_row = draft.cleared_row (kind_is last) (draft_is x);
}

-- the parts with an end
abbrev ended : ℕ → LineKind → Draft → Bytes → ℤ → draft.Draft
ended n last x name payoff = record (draft_is x) {
  places = draft.whole_places (kind_is last) (draft_is x) ++ draft.part_end name n payoff ∷ [];
  open_world = draft.cleared_world (kind_is last) (draft_is x);
  open_row = draft.cleared_row (kind_is last) (draft_is x);
}

-- the line of a world has a name that must be new
world_applied : (n : ℕ) (last : LineKind) (old closed : Draft) (ws : List Bytes) (w name : Bytes) → length old.names ≡ length old.places.items + whole_worlds last → Closed last old closed
    → one_word ws ≡ Ok w → name_at 2 w ≡ Ok name → applied n last old (rest_at world_kind ws) ≡ draft.unless_twice (stands_in name closed.names) (begun n last old name)
world_applied n last old closed ws w name h c a b =
    let read : rest_at world_kind ws ≡ Ok (world_line name) = rw (a, b) refl in
    ap (applied n last old) read ∙ ap (λ ns. draft.unless_twice (stands_in name ns) (begun n last old name)) (whole_names last old h ∙ sym c.names)

-- likewise the line of an end
end_applied : (n : ℕ) (last : LineKind) (old closed : Draft) (ws : List Bytes) (w v name : Bytes) (payoff : ℤ) → length old.names ≡ length old.places.items + whole_worlds last → Closed last old closed
    → two_words ws ≡ Ok (w, v) → name_at 2 w ≡ Ok name → payoff_word 3 v ≡ Ok payoff → applied n last old (rest_at end_kind ws) ≡ draft.unless_twice (stands_in name closed.names) (ended n last old name payoff)
end_applied n last old closed ws w v name payoff h c a b p =
    let read : rest_at end_kind ws ≡ Ok (end_line name payoff) = rw (a, b, p) refl in
    ap (applied n last old) read ∙ ap (λ ns. draft.unless_twice (stands_in name ns) (ended n last old name payoff)) (whole_names last old h ∙ sym c.names)

-- a world begins
pub world_begins : (n : ℕ) (last : LineKind) (old closed : Draft) (ws : List Bytes) (w name : Bytes) (names : List Bytes) (world : OpenWorld) → length old.names ≡ length old.places.items + whole_worlds last → Closed last old closed
    → one_word ws ≡ Ok w → name_at 2 w ≡ Ok name → draft.unless_twice (stands_in name closed.names) (closed.names ++ name ∷ []) ≡ Ok names
    → open_world_of [] world ≡ record { name = []; line = n; one = []; two = []; rows = [] }
    → applied n last old (rest_at world_kind ws) ≡ Ok (record {
      grid = closed.grid;
      horizon = closed.horizon;
      recall = recall_model closed.recall;
      tokens = closed.tokens;
      places = part_places_of names closed.places.items;
      open_world = open_world_of (name_of names (length closed.places.items)) world;
      open_row = open_row_of closed.open_row;
      root = name_bytes closed.root;
      root_line = closed.root_line;
    })
world_begins n last old closed ws w name names world h c a b t e =
    let new = new_is (stands_in name closed.names) (closed.names ++ name ∷ []) names t in
    let places = places_closed last old closed names (name ∷ []) h c new.1 in
    let count = ap length c.places in
    let last_name = ap (λ ns. name_of ns (length closed.places.items)) new.1 ∙ name_last closed.names name (length closed.places.items) (omega (arith, count, h, closed_length last old, ap length c.names)) in
    let its_world = ap (λ m. open_world_of m world) last_name ∙ ap (λ (x : draft.PartWorld). record x { name = name }) e in
    let row = c.row ∙ sym (cleared_row_is last old) in
    world_applied n last old closed ws w name h c a b
    ∙ cond-false (stands_in name closed.names) (Err (twice_at 2)) (Ok (begun n last old name)) new.0
    ∙ cc (places, its_world, row, c.grid, c.horizon, c.recall, c.tokens, c.root, c.root_line)

-- a world that has the name of another place
pub world_refused : (n : ℕ) (last : LineKind) (old closed : Draft) (ws : List Bytes) (w name : Bytes) (f : LineFault) → length old.names ≡ length old.places.items + whole_worlds last → Closed last old closed
    → one_word ws ≡ Ok w → name_at 2 w ≡ Ok name → draft.unless_twice (stands_in name closed.names) (closed.names ++ name ∷ []) ≡ Err f → applied n last old (rest_at world_kind ws) ≡ Err f
world_refused n last old closed ws w name f h c a b t =
    world_applied n last old closed ws w name h c a b ∙ old_is (stands_in name closed.names) (closed.names ++ name ∷ []) (begun n last old name) f t

-- an end is added
pub end_added : (n : ℕ) (last : LineKind) (old closed : Draft) (ws : List Bytes) (w v name : Bytes) (payoff : ℤ) (names : List Bytes) (pushed : List (PartPlace (Bor Bytes))) → length old.names ≡ length old.places.items + whole_worlds last
    → Closed last old closed → two_words ws ≡ Ok (w, v) → name_at 2 w ≡ Ok name → payoff_word 3 v ≡ Ok payoff → draft.unless_twice (stands_in name closed.names) (closed.names ++ name ∷ []) ≡ Ok names
    → pushed ≡ closed.places.items ++ place.End n payoff ∷ []
    → applied n last old (rest_at end_kind ws) ≡ Ok (record {
      grid = closed.grid;
      horizon = closed.horizon;
      recall = recall_model closed.recall;
      tokens = closed.tokens;
      places = part_places_of names pushed;
      open_world = open_world_of (name_of names (length pushed)) closed.open_world;
      open_row = open_row_of closed.open_row;
      root = name_bytes closed.root;
      root_line = closed.root_line;
    })
end_added n last old closed ws w v name payoff names pushed h c a b p t e =
    let new = new_is (stands_in name closed.names) (closed.names ++ name ∷ []) names t in
    let count = ap length c.places in
    let even : length closed.places.items ≡ length closed.names = omega (arith, count, h, closed_length last old, ap length c.names) in
    let longer : length names ≡ length closed.names + 1 = ap length new.1 ∙ length-append closed.names (name ∷ []) in
    let more : length pushed ≡ length closed.places.items + 1 = ap length e ∙ length-append closed.places.items (place.End n payoff ∷ []) in
    let its_name = ap (λ ns. name_of ns (length closed.places.items)) new.1 ∙ name_last closed.names name (length closed.places.items) even in
    let places = ap (part_places_of names) e ∙ places_more names closed.places.items (place.End n payoff) (omega arith)
    ∙ ap (λ m. part_places_of names closed.places.items ++ draft.part_end m n payoff ∷ []) its_name
    ∙ ap (λ ps. ps ++ draft.part_end name n payoff ∷ []) (places_closed last old closed names (name ∷ []) h c new.1) in
    let world = ap (λ m. open_world_of m closed.open_world) (name_past names (length pushed) (omega arith)) ∙ c.world ∙ sym (cleared_world_is last old h) in
    let row = c.row ∙ sym (cleared_row_is last old) in
    end_applied n last old closed ws w v name payoff h c a b p
    ∙ cond-false (stands_in name closed.names) (Err (twice_at 2)) (Ok (ended n last old name payoff)) new.0
    ∙ cc (places, world, row, c.grid, c.horizon, c.recall, c.tokens, c.root, c.root_line)

-- an end that has the name of another place
pub end_refused : (n : ℕ) (last : LineKind) (old closed : Draft) (ws : List Bytes) (w v name : Bytes) (payoff : ℤ) (f : LineFault) → length old.names ≡ length old.places.items + whole_worlds last → Closed last old closed
    → two_words ws ≡ Ok (w, v) → name_at 2 w ≡ Ok name → payoff_word 3 v ≡ Ok payoff → draft.unless_twice (stands_in name closed.names) (closed.names ++ name ∷ []) ≡ Err f → applied n last old (rest_at end_kind ws) ≡ Err f
end_refused n last old closed ws w v name payoff f h c a b p t =
    end_applied n last old closed ws w v name payoff h c a b p ∙ old_is (stands_in name closed.names) (closed.names ++ name ∷ []) (ended n last old name payoff) f t

-- the root is named
pub root_named : (n : ℕ) (last : LineKind) (old closed : Draft) (ws : List Bytes) (w name : Bytes) → length old.names ≡ length old.places.items + whole_worlds last → Closed last old closed
    → one_word ws ≡ Ok w → name_at 2 w ≡ Ok name
    → applied n last old (rest_at root_kind ws) ≡ Ok (record {
      grid = closed.grid;
      horizon = closed.horizon;
      recall = recall_model closed.recall;
      tokens = closed.tokens;
      places = part_places_of closed.names closed.places.items;
      open_world = open_world_of (name_of closed.names (length closed.places.items)) closed.open_world;
      open_row = open_row_of closed.open_row;
      root = name;
      root_line = n;
    })
root_named n last old closed ws w name h c a b =
    let read : rest_at root_kind ws ≡ Ok (root_line name) = rw (a, b) refl in
    let count = ap length c.places in
    let places = places_closed last old closed closed.names [] h c (sym (append-nil closed.names)) in
    let world = ap (λ m. open_world_of m closed.open_world) (name_past closed.names (length closed.places.items) (omega (arith, count, h, closed_length last old, ap length c.names))) ∙ c.world ∙ sym (cleared_world_is last old h) in
    let row = c.row ∙ sym (cleared_row_is last old) in
    ap (applied n last old) read ∙ cc (places, world, row, c.grid, c.horizon, c.recall, c.tokens)
