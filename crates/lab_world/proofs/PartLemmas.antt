-- What parts that are in order give for the game that is made of them.
use Rattle.std.proofs.Common.{◌≡◌, ◌<◌, ℕ, Bool, true, false, cond, string_bytes, Option, List, [], ◌∷◌, length, map, Result, Ok, Err, refl, sym, ap, subst, ◌∙◌, arith}
use Rattle.std.specs.Prelude.{◌&&◌, nat_lt, String}
use Rattle.std.specs.List.{list_all}
use Rattle.std.specs.Borrow.{Bor}
use Rattle.std.specs.Global.{Global}
use Rattle.std.specs.Cmp.Lexicographic.{pointwise}
use Rattle.std.specs.Str.{bytes_eq}
use Rattle.std.proofs.lemmas.Bool.{and_parts, and_from, lt-ltb}
use Rattle.std.proofs.lemmas.List.{length-map}
use Rattle.lab_math.specs.Sums.{sum_over}
use Rattle.lab_defs_text.specs.Agreement.{FaultAgrees}
use Rattle.lab_defs_text.specs.Faults.{TextFault, no_root}
use Rattle.lab_defs_text.specs.Steps.{◌>>=◌, each}
use Rattle.lab_defs_text.specs.Words.{Bytes}
use Rattle.lab_defs_text.specs.Games as model
use Rattle.lab_defs_text.specs.Texts.{is_within, game_ok}
use Rattle.lab_defs_text.specs.Drafts as draft
use Rattle.lab_defs_text.specs.Reading.{done_kind}
use Rattle.lab_defs_text.specs.Parts.{part_ok}
use Rattle.lab_defs_text.specs.Assembly.{KnownPlace, known, known_place, placed, ordered, is_world_at, assembled}
use Rattle.lab_defs_text.proofs.SplitLemmas.{bytes_eq_refl}
use Rattle.lab_defs_text.proofs.SoFarLemmas.{apart_names, IsDraft}
use Rattle.lab_defs_text.proofs.WholeLemmas.{game_is, some_parts}
use Rattle.lab_lex.specs.Names.{name_bytes}
use Rattle.lab_world.specs.declared.parts.PartPlace.{PartPlace}
use Rattle.lab_world.specs.declared.parts.PartPlace.TheVariants as part
use Rattle.lab_world.specs.declared.parts.Parts.{Parts}
use Rattle.lab_world.specs.declared.place.Place.{Place}
use Rattle.lab_world.specs.declared.place.Recall.{Recall}
use Rattle.lab_world.specs.declared.place.WorldId.{WorldId}
use Rattle.lab_world.specs.Drafts.{part_place_by, part_place_of, part_places_by, part_places_of, draft_of, named_draft_of, are_apart, may_assemble}
use Rattle.lab_world.specs.Models.{place_model, parts_model}
use Rattle.lab_world.specs.Sizes.{place_size, sizes_ok}
use Rattle.lab_world.specs.Wholes.{all_action_names, place_fits, is_whole_game}
use Rattle.lab_world.specs.Stages.{Rooted, rooted}
use Rattle.lab_world.proofs.EachLemmas.{fault_first}

-- ---- names of places

-- places whose names do not matter
pub record Named (ns ts names : List Bytes) (ps : List (PartPlace (Bor Bytes))) : Type 0 where
  pub names_are : map draft.place_name (part_places_of names ps) ≡ names
  pub known_same : each (known_place ns ts) (part_places_of names ps) ≡ each (known_place ns ts) (map (part_place_of []) ps)
  pub ok_same : list_all part_ok (part_places_of names ps) ≡ list_all part_ok (map (part_place_of []) ps)
  pub size_same : sum_over place_size (part_places_of names ps) ≡ sum_over place_size (map (part_place_of []) ps)

-- one place more
named_more : (ns ts : List Bytes) (n : Bytes) (p : PartPlace (Bor Bytes)) (names : List Bytes) (ps : List (PartPlace (Bor Bytes))) → draft.place_name (part_place_of n p) ≡ n → known_place ns ts (part_place_of n p) ≡ known_place ns ts (part_place_of [] p)
    → part_ok (part_place_of n p) ≡ part_ok (part_place_of [] p) → place_size (part_place_of n p) ≡ place_size (part_place_of [] p) → Named ns ts names ps → Named ns ts (n ∷ names) (p ∷ ps)
named_more ns ts n p names ps a b c s r = record {
  names_are = rw (a, r.names_are) refl;
  known_same = rw (b, r.known_same) refl;
  ok_same = rw (c, r.ok_same) refl;
  size_same = rw (s, r.size_same) refl;
}

-- places with as many names
pub named : (ns ts names : List Bytes) (ps : List (PartPlace (Bor Bytes))) → length names ≡ length ps → Named ns ts names ps
named ns ts [] [] e = record { names_are = refl; known_same = refl; ok_same = refl; size_same = refl }
named ns ts [] (p ∷ ps) e = absurd (omega (arith, e))
named ns ts (n ∷ names) [] e = absurd (omega (arith, e))
named ns ts (n ∷ names) (part.World line one two rows ∷ ps) e = named_more ns ts n (part.World line one two rows) names ps refl refl refl refl (named ns ts names ps (omega (arith, e)))
named ns ts (n ∷ names) (part.End line z ∷ ps) e = named_more ns ts n (part.End line z) names ps refl refl refl refl (named ns ts names ps (omega (arith, e)))

-- ---- names in a text

-- a place by another name
abbrev renamed : Bytes → draft.PartPlace → draft.PartPlace
renamed n (draft.part_world w) = draft.part_world (record w { name = n })
renamed n (draft.part_end m line z) = draft.part_end n line z

abbrev all_renamed : List Bytes → List draft.PartPlace → List draft.PartPlace
all_renamed (n ∷ ns) (p ∷ ps) = renamed n p ∷ all_renamed ns ps
all_renamed _ _ = []

-- places with their names are places by other names
places_renamed : {T : Type 0} (text : T → Bytes) (ns : List Bytes) (ps : List (PartPlace T)) → part_places_by text ns ps ≡ all_renamed ns (map (part_place_by text []) ps)
places_renamed text [] [] = refl
places_renamed text [] (p ∷ ps) = refl
places_renamed text (n ∷ ns) [] = refl
places_renamed text (n ∷ ns) (part.World line one two rows ∷ ps) = ap (λ (xs : List draft.PartPlace). part_place_by text n (part.World line one two rows) ∷ xs) (places_renamed text ns ps)
places_renamed text (n ∷ ns) (part.End line z ∷ ps) = ap (λ (xs : List draft.PartPlace). part_place_by text n (part.End line z) ∷ xs) (places_renamed text ns ps)

-- parts whose names stand in others
abbrev pub with_named : Parts (String Global) → List (PartPlace (Bor Bytes)) → Bor Bytes → Parts (Bor Bytes)
with_named p ps root = record { grid = p.grid; horizon = p.horizon; recall = p.recall; tokens = p.tokens; names = p.names; places = ps; root = root; root_line = p.root_line }

-- what holds of such parts
pub record NamedParts (p : Parts (String Global)) (q : Parts (Bor Bytes)) : Type 0 where
  pub draft : named_draft_of q ≡ draft_of p
  pub count : length q.places ≡ length p.places

pub parts_named : (p : Parts (String Global)) (ps : List (PartPlace (Bor Bytes))) (root : Bor Bytes) → map (part_place_of []) ps ≡ map (part_place_by string_bytes []) p.places → root.now ≡ string_bytes p.root
    → NamedParts p (with_named p ps root)
parts_named p ps root a b =
    let places : part_places_of p.names ps ≡ part_places_by string_bytes p.names p.places =
    places_renamed name_bytes p.names ps ∙ ap (all_renamed p.names) a ∙ sym (places_renamed string_bytes p.names p.places) in
    record {
      draft = cc (places, b);
      count = sym (length-map ps (part_place_of [])) ∙ ap length a ∙ length-map p.places (part_place_by string_bytes []);
    }

-- ---- the game

-- the last step goes through the first
through : {A B C : Type 0} (r : Result A TextFault) (f : A → Result C TextFault) (h : A → Result B TextFault) (g : B → Result C TextFault) → ((x : A) → f x ≡ (h x >>= g)) → (r >>= f) ≡ ((r >>= h) >>= g)
through (Ok x) f h g e = e x
through (Err d) f h g e = refl

-- likewise of a test
through_test : {B C : Type 0} (b : Bool) (x : B) (d : TextFault) (g : B → Result C TextFault) → cond b (g x) (Err d) ≡ (cond b (Ok x) (Err d) >>= g)
through_test true x d g = refl
through_test false x d g = refl

-- the game with these places and this root
abbrev game_with : draft.Draft → List Bytes → Rooted → Result model.GameModel TextFault
game_with d names x = Ok (record { grid = d.grid; horizon = d.horizon; recall = d.recall; tokens = d.tokens; names = names; places = x.places; root = x.root })

-- the places and the root that known places make
abbrev rooted_from : draft.Draft → List Bytes → Result (List KnownPlace) TextFault → Result Rooted TextFault
rooted_from d names ks =
    ks >>= λ k. known names d.root_line 2 d.root >>= λ r. each placed k >>= λ qs. each ordered qs >>= λ places. cond (is_world_at r places) (Ok (record { places = places; root = r })) (Err (no_root d.root_line))

-- the game that known places make
abbrev game_from : draft.Draft → List Bytes → Result (List KnownPlace) TextFault → Result model.GameModel TextFault
game_from d names ks = rooted_from d names ks >>= game_with d names

-- all steps with the last among them are the steps to the root and the last
assembled_from : (d : draft.Draft) (names : List Bytes) (ks : Result (List KnownPlace) TextFault)
    → (ks >>= λ k. known names d.root_line 2 d.root >>= λ r. each placed k >>= λ qs. each ordered qs >>= λ places. cond (is_world_at r places) (game_with d names (record { places = places; root = r })) (Err (no_root d.root_line))) ≡ game_from d names ks
assembled_from d names ks =
    through ks _ _ (game_with d names) (λ k. through (known names d.root_line 2 d.root) _ _ (game_with d names) (λ r. through (each placed k) _ _ (game_with d names) (λ qs. through (each ordered qs) _ _ (game_with d names)
    (λ places. through_test (is_world_at r places) (record { places = places; root = r }) (no_root d.root_line) (game_with d names)))))

-- parts are assembled to their places and their root, with what else they declare
assembled_is : (p : Parts (Bor Bytes)) → length p.names ≡ length p.places → assembled (named_draft_of p) ≡ (rooted p.names p.tokens p.root_line (name_bytes p.root) (map (part_place_of []) p.places) >>= game_with (named_draft_of p) p.names)
assembled_is p e =
    let d = named_draft_of p in
    let n = named p.names p.tokens p.names p.places e in
    let known_same = ap (λ (ns : List Bytes). each (known_place ns p.tokens) d.places) n.names_are ∙ n.known_same in
    assembled_from d (map draft.place_name d.places) (each (known_place (map draft.place_name d.places) p.tokens) d.places)
    ∙ ap (λ (ns : List Bytes). game_from d ns (each (known_place (map draft.place_name d.places) p.tokens) d.places)) n.names_are ∙ ap (game_from d p.names) known_same

-- the places and the root of parts, by the same places
pub rooted_same : (p : Parts (Bor Bytes)) (ps : List (PartPlace (Bor Bytes))) → p.places ≡ ps
    → rooted p.names p.tokens p.root_line (name_bytes p.root) (map (part_place_of []) p.places) ≡ rooted p.names p.tokens p.root_line (name_bytes p.root) (map (part_place_of []) ps)
rooted_same p ps a = ap (λ (xs : List (PartPlace (Bor Bytes))). rooted p.names p.tokens p.root_line (name_bytes p.root) (map (part_place_of []) xs)) a

-- the game that parts are assembled to
pub assembled_game : (p : Parts (Bor Bytes)) (r : Rooted) (actions : List Bytes) (places : List Place) → length p.names ≡ length p.places → rooted p.names p.tokens p.root_line (name_bytes p.root) (map (part_place_of []) p.places) ≡ Ok r
    → map (place_model actions) places ≡ r.places → assembled (named_draft_of p) ≡ Ok (parts_model p.grid p.horizon p.recall p.tokens p.names actions places (record { 0 = r.root }))
assembled_game p r actions places e made same =
    assembled_is p e ∙ ap (λ q. q >>= game_with (named_draft_of p) p.names) made ∙ ap (λ (ms : List model.Place). game_with (named_draft_of p) p.names (record { places = ms; root = r.root })) (sym same)

-- the fault of parts that make no game
pub assembled_fault : (p : Parts (Bor Bytes)) (o : Option TextFault) → length p.names ≡ length p.places → FaultAgrees o (rooted p.names p.tokens p.root_line (name_bytes p.root) (map (part_place_of []) p.places)) → FaultAgrees o (assembled (named_draft_of p))
assembled_fault p o e h = fault_first o (rooted p.names p.tokens p.root_line (name_bytes p.root) (map (part_place_of []) p.places)) (game_with (named_draft_of p) p.names) (assembled (named_draft_of p)) h (sym (assembled_is p e))

-- ---- what is made is whole

-- what the test of parts says
pub record PartsFit (d : draft.Draft) : Type 0 where
  pub grid : is_within 1 4096 d.grid ≡ true
  pub horizon : is_within 1 32 d.horizon ≡ true
  pub tokens : are_apart d.tokens ≡ true
  pub names : are_apart (map draft.place_name d.places) ≡ true
  pub places : list_all part_ok d.places ≡ true
  pub sizes : sizes_ok d.places ≡ true

-- parts that pass the test are such
pub parts_that_fit : (d : draft.Draft) → may_assemble d ≡ true → PartsFit d
parts_that_fit d e =
    let names = map draft.place_name d.places in
    let fine = list_all part_ok d.places && sizes_ok d.places in
    let a = and_parts (is_within 1 4096 d.grid) (is_within 1 32 d.horizon && (are_apart d.tokens && (are_apart names && fine))) e in
    let b = and_parts (is_within 1 32 d.horizon) (are_apart d.tokens && (are_apart names && fine)) a.1 in
    let c = and_parts (are_apart d.tokens) (are_apart names && fine) b.1 in
    let f = and_parts (are_apart names) fine c.1 in
    let g = and_parts (list_all part_ok d.places) (sizes_ok d.places) f.1 in
    record { grid = a.0; horizon = b.0; tokens = c.0; names = f.0; places = g.0; sizes = g.1 }

-- parts that make a game are those of a text
parts_are_draft : (d : draft.Draft) (g : model.GameModel) → may_assemble d ≡ true → assembled d ≡ Ok g → IsDraft done_kind d
parts_are_draft d g e made =
    let p = parts_that_fit d e in
    let s = some_parts d g p.places made in
    let tokens = and_from (nat_lt 0 (length d.tokens)) (apart_names d.tokens) (lt-ltb 0 (length d.tokens) s.tokens) p.tokens in
    (record { front_fine = record { grid_fine = p.grid; horizon_fine = p.horizon; tokens_fine = tokens }; names = p.names; places = p.places }, lt-ltb 0 (length d.places) (subst (λ n. 0 < n) (length-map d.places draft.place_name) s.places))

-- a list of names is itself, by the test too
names_same : (xs : List Bytes) → pointwise bytes_eq xs xs ≡ true
names_same [] = refl
names_same (x ∷ xs) = and_from (bytes_eq x x) (pointwise bytes_eq xs xs) (bytes_eq_refl x) (names_same xs)

-- a game that parts are assembled to is whole
pub whole_is : (d : draft.Draft) (grid horizon : ℕ) (recall : Recall) (tokens names actions : List Bytes) (places : List Place) (root : WorldId) → may_assemble d ≡ true
    → assembled d ≡ Ok (parts_model grid horizon recall tokens names actions places root) → list_all (place_fits (length actions)) places ≡ true → actions ≡ all_action_names [] (map (place_model actions) places)
    → is_whole_game grid horizon recall tokens names actions places root ≡ true
whole_is d grid horizon recall tokens names actions places root ok made fits listed =
    let g = parts_model grid horizon recall tokens names actions places root in
    let same = ap (pointwise bytes_eq actions) (sym listed) ∙ names_same actions in
    and_from (game_ok g) (list_all (place_fits (length actions)) places && pointwise bytes_eq actions (all_action_names [] g.places)) (game_is d g (parts_are_draft d g ok made) made).fine
    (and_from (list_all (place_fits (length actions)) places) (pointwise bytes_eq actions (all_action_names [] g.places)) fits same)
