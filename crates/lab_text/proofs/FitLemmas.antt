-- What holds of the parts of a game.
use Rattle.std.proofs.Common.{◌≡◌, ℕ, ◌*◌, ◌/◌, ◌<◌, true, [], length, get_or, map, sym, ◌∙◌, ap, arith}
use Rattle.std.proofs.lemmas.List.{length-map}
use Rattle.std.specs.Prelude.{◌&&◌, nat_lt, slice_index_or}
use Rattle.std.specs.List.{list_all}
use Rattle.std.specs.Str.{bytes_eq}
use Rattle.std.specs.Cmp.Lexicographic.{pointwise}
use Rattle.std.proofs.lemmas.Bool.{and_parts}
use Rattle.std.proofs.lemmas.Nat.{div_below}
use Rattle.lab_math.proofs.ListTests.{item_at, image_at}
use Rattle.lab_defs_text.specs.Texts.{game_ok, place_ok, row_ok, outcome_ok}
use Rattle.lab_defs_text.proofs.GameLemmas.{GameFine, game_fine, WorldFine, world_fine, names_fine, root_below}
use Rattle.lab_world.specs.declared.game.Game.{Game}
use Rattle.lab_world.specs.declared.place.Place.{Place}
use Rattle.lab_world.specs.declared.place.Place.TheVariants as place
use Rattle.lab_world.specs.declared.place.World.{World}
use Rattle.lab_world.specs.declared.place.Row.{Row}
use Rattle.lab_world.specs.Models.{outcome_model, row_model, world_model, place_model, action_list}
use Rattle.lab_world.specs.Wholes.{place_fits, all_action_names}
use Rattle.lab_world.specs.Games.{game_model}
use Rattle.lab_text.specs.Parts.{Fits}

-- a game of the program is one of the definitions
pub whole_fine : (g : Game) → GameFine (game_model g)
whole_fine g =
    game_fine (game_model g) (and_parts (game_ok (game_model g)) (list_all (place_fits (length g.actions)) g.places && pointwise bytes_eq g.actions (all_action_names [] (game_model g).places)) g.whole).0

-- the ids of its actions are known
pub whole_known : (g : Game) → list_all (place_fits (length g.actions)) g.places ≡ true
whole_known g =
    let rest = (and_parts (game_ok (game_model g)) (list_all (place_fits (length g.actions)) g.places && pointwise bytes_eq g.actions (all_action_names [] (game_model g).places)) g.whole).1 in
    (and_parts (list_all (place_fits (length g.actions)) g.places) (pointwise bytes_eq g.actions (all_action_names [] (game_model g).places)) rest).0

-- it has as many places as names of places
pub place_count : (g : Game) → length g.places ≡ length g.names
place_count g = sym (length-map g.places (place_model g.actions)) ∙ (whole_fine g).same

-- its root is a place
pub root_known : (g : Game) → g.root.0 < length g.names
root_known g =
    let f = whole_fine g in
    let h = root_below g.root.0 (game_model g).places f.root in
    omega (arith, h, f.same)

-- each place fits into it
pub place_known : (g : Game) (i : ℕ) (p : Place) → i < length g.names → p ≡ get_or g.places i p → Fits g p
place_known g i p h e =
    let k : i < length g.places = omega (arith, h, place_count g) in
    record { ok = image_at (place_ok (game_model g)) (place_model g.actions) g.places i p k e (whole_fine g).places; known = item_at (place_fits (length g.actions)) g.places i p k e (whole_known g) }

-- a world that fits is one of the definitions
world_known : (g : Game) (w : World) → Fits g (place.World w) → WorldFine (game_model g) (world_model g.actions w)
world_known g w f = world_fine (game_model g) (world_model g.actions w) f.ok

-- seat 2 has an action
pub some_two : (g : Game) (w : World) → Fits g (place.World w) → 0 < length w.two
some_two g w f =
    let h = (names_fine (action_list g.actions w.two) (world_known g w f).two).some in omega (arith, h, length-map w.two (λ i. slice_index_or g.actions i.0 []))

-- the first action of a row
pub first_below : (g : Game) (w : World) (k : ℕ) → Fits g (place.World w) → k < length w.rows → k / length w.two < length w.one
first_below g w k f h =
    let count = (world_known g w f).count in
    let rows = length-map w.rows row_model in
    let one = length-map w.one (λ i. slice_index_or g.actions i.0 []) in
    let two = length-map w.two (λ i. slice_index_or g.actions i.0 []) in
    let same : length w.rows ≡ length w.one * length w.two = sym rows ∙ count ∙ ap (λ n. n * length (action_list g.actions w.two)) one ∙ ap (λ n. length w.one * n) two in
    div_below k (length w.two) (length w.one) (some_two g w f) (omega (arith, h, same))

-- the outcomes of a row
pub row_known : (g : Game) (w : World) (k : ℕ) (r : Row) → Fits g (place.World w) → k < length w.rows → r ≡ get_or w.rows k r
    → list_all (outcome_ok (game_model g)) (map outcome_model r.outcomes) ≡ true
row_known g w k r f h e =
    (and_parts (nat_lt 0 (length (row_model r))) (list_all (outcome_ok (game_model g)) (row_model r)) (image_at (row_ok (game_model g)) row_model w.rows k r h e (world_known g w f).rows)).1
