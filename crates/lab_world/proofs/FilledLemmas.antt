-- The worlds of a game have actions and rows, and their actions are named.
use Rattle.std.proofs.Common.{◌≡◌, ℕ, zero, suc, ◌*◌, ◌<◌, true, List, [], ◌∷◌, length, get_or, map, refl, sym, ◌∙◌, ap, subst, arith}
use Rattle.std.proofs.lemmas.List.{length-map}
use Rattle.std.specs.Prelude.{◌&&◌, ◌==◌, nat_lt, slice_index_or}
use Rattle.std.specs.List.{list_all}
use Rattle.std.proofs.lemmas.Bool.{and_parts, and_from, lt-ltb, ltb-true, eqb-true}
use Rattle.lab_math.proofs.ListTests.{item_at, image_at, all_from_each}
use Rattle.lab_defs_text.specs.Games.{GameModel}
use Rattle.lab_defs_text.specs.Texts.{place_ok, row_ok, outcome_ok}
use Rattle.lab_defs_text.proofs.GameLemmas.{game_fine, world_fine, names_fine}
use Rattle.lab_defs_game.specs.Chance.{row_total}
use Rattle.lab_world.specs.declared.game.Game.{Game}
use Rattle.lab_world.specs.declared.place.ActionId.{ActionId}
use Rattle.lab_world.specs.declared.place.Place.{Place}
use Rattle.lab_world.specs.declared.place.Place.TheVariants as place
use Rattle.lab_world.specs.declared.place.World.{World}
use Rattle.lab_world.specs.declared.place.Row.{Row}
use Rattle.lab_world.specs.Models.{outcome_model, row_model, world_model, place_model, action_list}
use Rattle.lab_world.specs.Wholes.{place_fits}
use Rattle.lab_world.specs.Games.{game_model}
use Rattle.lab_world.specs.Filled.{is_row, IsFilled}
use Rattle.lab_world.specs.Filled.{ids_fit}
use Rattle.lab_world.proofs.CallerLemmas.{whole_parts, total_pos}

-- the row with a number
row_is : (g : GameModel) (rows : List Row) → list_all (row_ok g) (map row_model rows) ≡ true → list_all (λ (r : Row). r.total == row_total (row_model r)) rows ≡ true → list_all is_row rows ≡ true
row_is g rows ok totals = all_from_each is_row (record { total = 0; outcomes = [] }) rows at
  where
    at : (i : ℕ) → i < length rows → is_row (get_or rows i (record { total = 0; outcomes = [] })) ≡ true
    at i l =
        let r : Row = get_or rows i (record { total = 0; outcomes = [] }) in
        let e : r ≡ get_or rows i r = same rows i (record { total = 0; outcomes = [] }) l in
        let whole = and_parts (nat_lt 0 (length (row_model r))) (list_all (outcome_ok g) (row_model r)) (image_at (row_ok g) row_model rows i r l e ok) in
        let total : r.total == row_total (row_model r) ≡ true = item_at (λ (r : Row). r.total == row_total (row_model r)) rows i r l e totals in
        let model = ltb-true 0 (length (row_model r)) whole.0 in
        let some : 0 < length r.outcomes = omega (arith, model, length-map r.outcomes outcome_model) in
        let pos : 0 < r.total = subst (λ n. 0 < n) (sym (eqb-true r.total (row_total (row_model r)) total)) (total_pos g (row_model r) model whole.1) in
        and_from (nat_lt 0 (length r.outcomes)) _ (lt-ltb 0 (length r.outcomes) some) (and_from (r.total == row_total (row_model r)) (nat_lt 0 r.total) total (lt-ltb 0 r.total pos))
      where
        same : (rs : List Row) (i : ℕ) (d : Row) → i < length rs → get_or rs i d ≡ get_or rs i (get_or rs i d)
        same [] i d l = absurd (omega (arith, l))
        same (r ∷ rs) zero d l = refl
        same (r ∷ rs) (suc i) d l = same rs i d (omega (arith, l))

-- a world of a game
pub filled : (g : Game) (i : ℕ) (p : Place) (w : World) → i < length g.places → p ≡ get_or g.places i p → p ≡ place.World w → IsFilled w
filled g i p w l e is =
    let parts = whole_parts g in
    let ok = subst (λ q. place_ok (game_model g) (place_model g.actions q) ≡ true) is (image_at (place_ok (game_model g)) (place_model g.actions) g.places i p l e (game_fine (game_model g) parts.0).places) in
    let fine = world_fine (game_model g) (world_model g.actions w) ok in
    let fits = subst (λ q. place_fits (length g.actions) q ≡ true) is (item_at (place_fits (length g.actions)) g.places i p l e parts.1) in
    let one = list_all (λ (i : ActionId). nat_lt i.0 (length g.actions)) w.one in
    let two = list_all (λ (i : ActionId). nat_lt i.0 (length g.actions)) w.two in
    let totals = list_all (λ (r : Row). r.total == row_total (row_model r)) w.rows in
    let long1 = length-map w.one (λ (i : ActionId). slice_index_or g.actions i.0 []) in
    let long2 = length-map w.two (λ (i : ActionId). slice_index_or g.actions i.0 []) in
    let some1 = (names_fine (action_list g.actions w.one) fine.one).some in
    let some2 = (names_fine (action_list g.actions w.two) fine.two).some in
    record {
      one = omega (arith, some1, long1);
      two = omega (arith, some2, long2);
      count = sym (length-map w.rows row_model) ∙ fine.count ∙ ap (λ n. n * length (action_list g.actions w.two)) long1 ∙ ap (λ n. length w.one * n) long2;
      rows = row_is (game_model g) w.rows fine.rows (and_parts two totals (and_parts one (two && totals) fits).1).1;
    }

-- the actions of a world of a game are among its actions
pub ids_known : (g : Game) (i : ℕ) (p : Place) (w : World) → i < length g.places → p ≡ get_or g.places i p → p ≡ place.World w → ids_fit (length g.actions) w ≡ true
ids_known g i p w l e is =
    let one = list_all (λ (i : ActionId). nat_lt i.0 (length g.actions)) w.one in
    let two = list_all (λ (i : ActionId). nat_lt i.0 (length g.actions)) w.two in
    let totals = list_all (λ (r : Row). r.total == row_total (row_model r)) w.rows in
    let fits = subst (λ q. place_fits (length g.actions) q ≡ true) is (item_at (place_fits (length g.actions)) g.places i p l e (whole_parts g).1) in
    let all = and_parts one (two && totals) fits in
    and_from one two all.0 (and_parts two totals all.1).0
