-- The model of the parts of a game.
use Rattle.std.specs.Prelude.{ℕ, List, map}
use Rattle.lab_defs_text.specs.Words.{Bytes}
use Rattle.lab_defs_text.specs.Games as model
use Rattle.lab_defs_text.specs.Texts.{name_of}
use Rattle.lab_world.specs.declared.place.ActionId.{ActionId}
use Rattle.lab_world.specs.declared.place.Outcome.{Outcome}
use Rattle.lab_world.specs.declared.place.Row.{Row}
use Rattle.lab_world.specs.declared.place.World.{World}
use Rattle.lab_world.specs.declared.place.WorldId.{WorldId}
use Rattle.lab_world.specs.declared.place.Place.{Place}
use Rattle.lab_world.specs.declared.place.Place.TheVariants as place
use Rattle.lab_world.specs.declared.place.Recall.{Recall}
use Rattle.lab_world.specs.declared.place.Recall.TheVariants as recall

abbrev pub recall_model : Recall → model.Recall
recall_model recall.Acts = model.by_acts
recall_model recall.Seen = model.by_seen

abbrev pub outcome_model : Outcome → model.Outcome
outcome_model o = record { weight = o.weight; next = o.next.0; own1 = o.own1.0; own2 = o.own2.0; public = o.public.0 }

abbrev pub row_model : Row → List model.Outcome
row_model r = map outcome_model r.outcomes

-- ids as the names of their actions
abbrev pub action_list : List Bytes → List ActionId → List Bytes
action_list actions ids = map (λ i. name_of actions i.0) ids

abbrev pub world_model : List Bytes → World → model.World
world_model actions w = record { one = action_list actions w.one; two = action_list actions w.two; rows = map row_model w.rows }

abbrev pub place_model : List Bytes → Place → model.Place
place_model actions (place.World w) = model.a_world (world_model actions w)
place_model actions (place.End z) = model.an_end z

abbrev pub parts_model : (grid horizon : ℕ) → Recall → (tokens names actions : List Bytes) → List Place → WorldId → model.GameModel
parts_model grid horizon memory tokens names actions places root = record {
  grid = grid;
  horizon = horizon;
  recall = recall_model memory;
  tokens = tokens;
  names = names;
  places = map (place_model actions) places;
  root = root.0;
}
