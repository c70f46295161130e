-- What a seat sees of one step, as the program has it.
use Rattle.std.specs.Prelude.{List, [], ◌∷◌, Option, Some, None}
use Rattle.lab_defs_game.specs.Sets as model
use Rattle.lab_unfold.specs.declared.item.Item.{Item}

-- as the definitions have it
abbrev pub item_model : Item → model.Item
item_model i = record { action = i.action; own = i.own; public = i.public }

-- the last item of a list, if there is one
abbrev pub last_item : List model.Item → Option model.Item
last_item [] = None
last_item (x ∷ []) = Some x
last_item (x ∷ y ∷ xs) = last_item (y ∷ xs)
