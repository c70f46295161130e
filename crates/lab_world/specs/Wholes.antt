-- When the parts of a game fit together.
use Rattle.std.specs.Prelude.{ℕ, List, [], ◌∷◌, ◌++◌, length, Bool, true, ◌&&◌, ◌==◌, nat_lt, if◌then◌else◌}
use Rattle.std.specs.List.{list_all}
use Rattle.std.specs.Cmp.Lexicographic.{pointwise}
use Rattle.std.specs.Str.{bytes_eq}
use Rattle.lab_defs_text.specs.Words.{Bytes, stands_in}
use Rattle.lab_defs_text.specs.Games as model
use Rattle.lab_defs_text.specs.Texts.{game_ok}
use Rattle.lab_defs_game.specs.Chance.{row_total}
use Rattle.lab_world.specs.declared.place.ActionId.{ActionId}
use Rattle.lab_world.specs.declared.place.Row.{Row}
use Rattle.lab_world.specs.declared.place.WorldId.{WorldId}
use Rattle.lab_world.specs.declared.place.Place.{Place}
use Rattle.lab_world.specs.declared.place.Place.TheVariants as place
use Rattle.lab_world.specs.declared.place.Recall.{Recall}
use Rattle.lab_world.specs.Models.{parts_model, row_model}

-- names, and behind them those of others that are new
abbrev pub with_new : List Bytes → List Bytes → List Bytes
with_new names [] = names
with_new names (n ∷ ns) = with_new (if stands_in n names then names else names ++ n ∷ []) ns

-- the names of actions in the order in which they first stand, `names` being those of earlier places
abbrev pub all_action_names : List Bytes → List model.Place → List Bytes
all_action_names names [] = names
all_action_names names (model.a_world w ∷ ps) = all_action_names (with_new (with_new names w.one) w.two) ps
all_action_names names (model.an_end z ∷ ps) = all_action_names names ps

-- ids of actions are in range, and totals are those of the weights
abbrev pub place_fits : ℕ → Place → Bool
place_fits actions (place.World w) =
    list_all (λ (i : ActionId). nat_lt i.0 actions) w.one && (list_all (λ (i : ActionId). nat_lt i.0 actions) w.two && list_all (λ (r : Row). r.total == row_total (row_model r)) w.rows)
place_fits actions (place.End z) = true

-- a game of the definitions, whose actions are named by just the names that stand in it
abbrev pub is_whole_game : (grid horizon : ℕ) → Recall → (tokens names actions : List Bytes) → List Place → WorldId → Bool
is_whole_game grid horizon recall tokens names actions places root =
    game_ok (parts_model grid horizon recall tokens names actions places root)
    && (list_all (place_fits (length actions)) places && pointwise bytes_eq actions (all_action_names [] (parts_model grid horizon recall tokens names actions places root).places))
