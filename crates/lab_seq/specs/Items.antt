-- The items of a list that may hold one item by itself.
use Rattle.std.specs.Prelude.{List, [], ◌∷◌}
use Rattle.lab_seq.specs.declared.few.Items.{Items}
use Rattle.lab_seq.specs.declared.few.Items.TheVariants.{One, More}

abbrev pub items_of : {T : Type 0} → Items T → List T
items_of (One x) = x ∷ []
items_of (More s) = s
