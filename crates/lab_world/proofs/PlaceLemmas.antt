-- Places by numbers, and names of actions that are added behind others.
use Rattle.std.proofs.Common.{◌≡◌, ◌≤◌, true, List, [], ◌∷◌, ◌++◌, length, map, refl, sym, ap, subst, ◌∙◌, arith, append_assoc, append-nil, length-append}
use Rattle.std.specs.Prelude.{◌&&◌}
use Rattle.std.specs.List.{list_all}
use Rattle.std.proofs.lemmas.Bool.{and_parts, and_from}
use Rattle.std.proofs.lemmas.List.{map-append}
use Rattle.lab_math.proofs.ListTests.{all_push}
use Rattle.lab_defs_text.specs.Words.{Bytes}
use Rattle.lab_defs_text.specs.Games as model
use Rattle.lab_defs_text.proofs.ListLemmas.{all_weaker}
use Rattle.lab_world.specs.declared.place.World.{World}
use Rattle.lab_world.specs.declared.place.Place.{Place}
use Rattle.lab_world.specs.declared.place.Place.TheVariants as place
use Rattle.lab_world.specs.Models.{row_model, action_list, world_model, place_model}
use Rattle.lab_world.specs.Wholes.{with_new, all_action_names, place_fits}
use Rattle.lab_world.specs.declared.stages.NumberedPlaces.{NumberedPlaces}
use Rattle.lab_world.specs.Stages.{total_fits}
use Rattle.lab_world.specs.Made.{AreNumbered}
use Rattle.lab_world.proofs.ActionNameLemmas.{with_new_rest, ids_below, ids_below_more, ids_below_new, action_list_append, action_list_new}

-- names of actions come at the end
pub action_names_rest : (names : List Bytes) (ps : List model.Place) → (rest : List Bytes) × (all_action_names names ps ≡ names ++ rest)
action_names_rest names [] = ([], sym (append-nil names))
action_names_rest names (model.a_world w ∷ ps) =
    let a = with_new_rest names w.one in
    let b = with_new_rest (with_new names w.one) w.two in
    let c = action_names_rest (with_new (with_new names w.one) w.two) ps in (
      a.0 ++ (b.0 ++ c.0),
      c.1 ∙ ap (λ (xs : List Bytes). xs ++ c.0) (b.1 ∙ ap (λ (xs : List Bytes). xs ++ b.0) a.1) ∙ append_assoc (names ++ a.0) b.0 c.0 ∙ append_assoc names a.0 (b.0 ++ c.0),
    )
action_names_rest names (model.an_end z ∷ ps) = action_names_rest names ps

-- names at the end change no place whose ids are in range
place_append : (xs rest : List Bytes) (p : Place) → place_fits (length xs) p ≡ true → place_model (xs ++ rest) p ≡ place_model xs p
place_append xs rest (place.World w) e =
    let a = and_parts (ids_below (length xs) w.one) (ids_below (length xs) w.two && list_all total_fits w.rows) e in
    let b = and_parts (ids_below (length xs) w.two) (list_all total_fits w.rows) a.1 in
    rw (action_list_append xs rest w.one a.0, action_list_append xs rest w.two b.0) refl
place_append xs rest (place.End z) e = refl

-- likewise of places
places_append : (xs rest : List Bytes) (ps : List Place) → list_all (place_fits (length xs)) ps ≡ true → map (place_model (xs ++ rest)) ps ≡ map (place_model xs) ps
places_append xs rest [] e = refl
places_append xs rest (p ∷ ps) e =
    let a = and_parts (place_fits (length xs) p) (list_all (place_fits (length xs)) ps) e in
    rw (place_append xs rest p a.0, places_append xs rest ps a.1) refl

-- with more names they are still in range
fits_more : (xs rest : List Bytes) (p : Place) → place_fits (length xs) p ≡ true → place_fits (length (xs ++ rest)) p ≡ true
fits_more xs rest (place.World w) e =
    let a = and_parts (ids_below (length xs) w.one) (ids_below (length xs) w.two && list_all total_fits w.rows) e in
    let b = and_parts (ids_below (length xs) w.two) (list_all total_fits w.rows) a.1 in
    let n = length (xs ++ rest) in
    let le : length xs ≤ n = omega (arith, length-append xs rest) in
    and_from (ids_below n w.one) (ids_below n w.two && list_all total_fits w.rows) (ids_below_more (length xs) n w.one le a.0)
    (and_from (ids_below n w.two) (list_all total_fits w.rows) (ids_below_more (length xs) n w.two le b.0) b.1)
fits_more xs rest (place.End z) e = refl

-- the actions of both seats, where those of the second may be new
pub record WorldNamed (actions : List Bytes) (w : World) (m : model.World) : Type 0 where
  pub same : world_model actions w ≡ m
  pub fits : place_fits (length actions) (place.World w) ≡ true

-- equal parts make equal worlds
world_same : (a b c d : List Bytes) (rows others : List (List model.Outcome)) → a ≡ c → b ≡ d → rows ≡ others → ◌≡◌ {A = model.World} (record { one = a; two = b; rows = rows }) (record { one = c; two = d; rows = others })
world_same a b c d rows others p q r = cc

-- the actions of a world by numbers are those of its model
pub world_named : (middle actions : List Bytes) (w : World) (m : model.World) → actions ≡ with_new middle m.two → action_list middle w.one ≡ m.one → ids_below (length middle) w.one ≡ true → action_list actions w.two ≡ m.two → ids_below (length actions) w.two ≡ true
    → map row_model w.rows ≡ m.rows → list_all total_fits w.rows ≡ true → WorldNamed actions w m
world_named middle actions w m table one one_below two two_below rows totals =
    let kept : action_list actions w.one ≡ m.one = ap (λ (xs : List Bytes). action_list xs w.one) table ∙ action_list_new middle m.two w.one one_below ∙ one in
    let below : ids_below (length actions) w.one ≡ true = subst (λ (xs : List Bytes). ids_below (length xs) w.one ≡ true) (sym table) (ids_below_new middle m.two w.one one_below) in
    record {
      same = world_same (action_list actions w.one) (action_list actions w.two) m.one m.two (map row_model w.rows) m.rows kept two rows;
      fits = and_from (ids_below (length actions) w.one) (ids_below (length actions) w.two && list_all total_fits w.rows) below (and_from (ids_below (length actions) w.two) (list_all total_fits w.rows) two_below totals);
    }

-- the names of the actions of places and of one more
action_names_push : (names : List Bytes) (ms : List model.Place) (m : model.Place) → all_action_names (all_action_names names ms) (m ∷ []) ≡ all_action_names names (ms ++ m ∷ [])
action_names_push names [] m = refl
action_names_push names (model.a_world w ∷ ms) m = action_names_push (with_new (with_new names w.one) w.two) ms m
action_names_push names (model.an_end z ∷ ms) m = action_names_push names ms m

-- no places, and no names
pub none_numbered : (n : NumberedPlaces) → n.actions ≡ [] → n.places.items ≡ [] → AreNumbered n []
none_numbered n table items = record {
  same = ap (map (place_model n.actions)) items;
  names = table;
  fits = ap (list_all (place_fits (length n.actions))) items;
}

-- one place more, whose names of actions may be new
pub place_more : (before after : NumberedPlaces) (p : Place) (m : model.Place) (ms : List model.Place) → after.actions ≡ all_action_names before.actions (m ∷ []) → after.places.items ≡ before.places.items ++ p ∷ []
    → place_model after.actions p ≡ m → place_fits (length after.actions) p ≡ true → AreNumbered before ms → AreNumbered after (ms ++ m ∷ [])
place_more before after p m ms table items same fit h =
    let old = before.actions in
    let new = after.actions in
    let found = before.places.items in
    let more = action_names_rest old (m ∷ []) in
    let grown : new ≡ old ++ more.0 = table ∙ more.1 in
    let kept : map (place_model new) found ≡ ms = ap (λ (xs : List Bytes). map (place_model xs) found) grown ∙ places_append old more.0 found h.fits ∙ h.same in
    let still : list_all (place_fits (length new)) found ≡ true = subst (λ (xs : List Bytes). list_all (place_fits (length xs)) found ≡ true) (sym grown)
    (all_weaker (place_fits (length old)) (place_fits (length (old ++ more.0))) (fits_more old more.0) found h.fits) in
    record {
      same = ap (map (place_model new)) items ∙ map-append (place_model new) found (p ∷ []) ∙ rw (kept, same) refl;
      names = table ∙ ap (λ (xs : List Bytes). all_action_names xs (m ∷ [])) h.names ∙ action_names_push [] ms m;
      fits = subst (λ (ps : List Place). list_all (place_fits (length new)) ps ≡ true) (sym items) (all_push (place_fits (length new)) found p still fit);
    }
