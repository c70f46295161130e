-- What is kept of what a seat has seen along a history.
use Rattle.std.specs.Prelude.{ℕ, List, [], map, Bool, true, if◌then◌else◌}
use Rattle.lab_defs_text.specs.Games.{GameModel, Place}
use Rattle.lab_defs_text.specs.Texts.{is_world}
use Rattle.lab_defs_game.specs.Histories.{History, histories, place_of}
use Rattle.lab_defs_game.specs.Sets as model
use Rattle.lab_unfold.specs.declared.item.Item.{Item}
use Rattle.lab_unfold.specs.declared.link.Kept.{Kept}
use Rattle.lab_unfold.specs.declared.link.Kept.TheVariants.{Public, Tokens, Whole}

-- an item as the program has it
abbrev pub item_in : model.Item → Item
item_in x = record { action = x.action; own = x.own; public = x.public }

-- what is kept of an item
abbrev pub kept_of : Kept → Item → Item
kept_of Public x = record { action = 0; own = 0; public = x.public }
kept_of Tokens x = record { action = 0; own = x.own; public = x.public }
kept_of Whole x = x

-- whether what is seen along a history that leads to a place counts
abbrev pub counted_at : Kept → Place → Bool
counted_at Public p = true
counted_at Tokens p = is_world p
counted_at Whole p = is_world p

-- whether what is seen along a history counts
abbrev pub counted : GameModel → Kept → History → Bool
counted g kept h = counted_at kept (place_of g h)

-- what is kept of a seen list
abbrev pub kept_list : Kept → List model.Item → List Item
kept_list kept xs = map (λ x. kept_of kept (item_in x)) xs

-- what is kept of what is seen along a history, if it counts
abbrev pub trace : GameModel → ℕ → Kept → History → List Item
trace g seat kept h = if counted g kept h then kept_list kept (model.seen g seat h) else []

-- that of each history
abbrev pub traces : GameModel → ℕ → Kept → List (List Item)
traces g seat kept = map (trace g seat kept) (histories g)
