-- What holds of every game, for those that read it.
use Rattle.std.proofs.Common.{◌≡◌, ◌<◌, ◌≤◌, ◌⊎◌, true, List, [], ◌∷◌, length, refl, inl, inr, arith}
use Rattle.std.specs.Prelude.{◌&&◌, nat_le}
use Rattle.std.specs.List.{list_all}
use Rattle.std.specs.Str.{bytes_eq}
use Rattle.std.specs.Cmp.Lexicographic.{pointwise}
use Rattle.std.proofs.lemmas.Bool.{and_parts, leb-true}
use Rattle.lab_defs_text.specs.Games.{GameModel, Outcome}
use Rattle.lab_defs_text.specs.Texts.{game_ok, outcome_ok}
use Rattle.lab_defs_text.proofs.GameLemmas.{game_fine, outcome_fine}
use Rattle.lab_defs_game.specs.Chance.{row_total}
use Rattle.lab_world.specs.declared.game.Game.{Game}
use Rattle.lab_world.specs.declared.seat.Seat.{Seat}
use Rattle.lab_world.specs.declared.seat.Seat.TheVariants.{One, Two}
use Rattle.lab_world.specs.Seats.{seat_number}
use Rattle.lab_world.specs.Wholes.{place_fits, all_action_names}
use Rattle.lab_world.specs.Games.{game_model}

-- what holds of the parts of a game: it is one of the definitions, and its places fit
pub whole_parts : (g : Game) → (game_ok (game_model g) ≡ true) × (list_all (place_fits (length g.actions)) g.places ≡ true)
whole_parts g =
    let fits = list_all (place_fits (length g.actions)) g.places in
    let names = pointwise bytes_eq g.actions (all_action_names [] (game_model g).places) in
    let whole = and_parts (game_ok (game_model g)) (fits && names) g.whole in
    (whole.0, (and_parts fits names whole.1).0)

-- outcomes weigh something together
pub total_pos : (g : GameModel) (os : List Outcome) → 0 < length os → list_all (outcome_ok g) os ≡ true → 0 < row_total os
total_pos g [] some ok = absurd (omega (arith, some))
total_pos g (o ∷ os) some ok =
    let first = outcome_fine g o (and_parts (outcome_ok g o) (list_all (outcome_ok g) os) ok).0 in
    let least = leb-true 1 o.weight (and_parts (nat_le 1 o.weight) (nat_le o.weight 1048576) first.weight).0 in
    omega (arith, least)

-- the horizon is at most 32
pub horizon_small : (g : Game) → g.horizon ≤ 32
horizon_small g = leb-true g.horizon 32 (and_parts (nat_le 1 g.horizon) (nat_le g.horizon 32) (game_fine (game_model g) (whole_parts g).0).horizon).1

-- the grid is at least 1
pub grid_some : (g : Game) → 0 < g.grid
grid_some g = leb-true 1 g.grid (and_parts (nat_le 1 g.grid) (nat_le g.grid 4096) (game_fine (game_model g) (whole_parts g).0).grid).0

-- the horizon is at least 1
pub horizon_some : (g : Game) → 0 < g.horizon
horizon_some g = leb-true 1 g.horizon (and_parts (nat_le 1 g.horizon) (nat_le g.horizon 32) (game_fine (game_model g) (whole_parts g).0).horizon).0

-- the number of a seat is 1 or 2
pub one_or_two : (s : Seat) → (seat_number s ≡ 1) ⊎ (seat_number s ≡ 2)
one_or_two One = inl refl
one_or_two Two = inr refl
