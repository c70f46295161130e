-- Information sets as items of paths.
use Rattle.std.specs.Prelude.{ℕ, ◌≡◌, ◌+◌, ◌-◌, ◌<◌, ◌≤◌, List, length, map, take, Bool, true, false, ◌&&◌, ◌==◌, Option, Some, None, ⊤, slice_index, slice_index_or}
use Rattle.std.specs.List.{range_with_len}
use Rattle.lab_defs_game.specs.Keys.{count}
use Rattle.lab_form.specs.declared.items.SetId.{SetId}
use Rattle.lab_tree.specs.declared.info.SetInfo.{SetInfo}
use Rattle.lab_tree.specs.declared.info.Follow.{Follow}
use Rattle.lab_tree.specs.declared.info.PathItem.{PathItem}

-- whether two steps are one
abbrev pub same_parent : Option (SetId × ℕ) → Option (SetId × ℕ) → Bool
same_parent None None = true
same_parent None (Some u) = false
same_parent (Some t) None = false
same_parent (Some t) (Some u) = (t.0.0 == u.0.0) && (t.1 == u.1)

-- whether two sets follow the same step, at the same node
abbrev pub is_kin : SetInfo → SetInfo → Bool
is_kin a b = (a.node.0 == b.node.0) && same_parent a.parent b.parent

-- the set with a number
abbrev pub set_read : List SetInfo → ℕ → SetInfo
set_read sets i = slice_index_or sets i (record { id = record { 0 = 0 }; node = record { 0 = 0 }; parent = None; actions = 0; first_weight = 0 })

-- how many sets before a set follow the same step at the same node
abbrev pub place_at : List SetInfo → ℕ → ℕ
place_at sets i = count (is_kin (set_read sets i)) (take i sets)

-- how many do in all
abbrev pub kin_count : List SetInfo → ℕ → ℕ
kin_count sets i = count (is_kin (set_read sets i)) sets

-- that of the set that is so many before the last one
abbrev pub count_back : List SetInfo → ℕ → ℕ
count_back sets k = kin_count sets (length sets - 1 - k)

-- those between two sets that follow the same step at the same node do so too
abbrev pub AreGrouped : List SetInfo → Type 0
AreGrouped sets = (i j k : ℕ) → i ≤ j → j ≤ k → k < length sets → is_kin (set_read sets i) (set_read sets k) ≡ true → is_kin (set_read sets i) (set_read sets j) ≡ true

-- which item a set is on each path through it: as many as are on the way up to its node and before it there
abbrev pub index_of : List SetInfo → (starts bases : List ℕ) → ℕ → ℕ
index_of sets starts bases j = slice_index bases (set_read sets j).node.0 + (j - slice_index starts (set_read sets j).node.0)

-- how a set follows another
abbrev pub follow_of : List SetInfo → (starts bases : List ℕ) → ℕ → Option (SetId × ℕ) → Option Follow
follow_of sets starts bases i None = None
follow_of sets starts bases i (Some t) = Some (record { from = index_of sets starts bases t.0.0; action = t.1; place = place_at sets i; count = kin_count sets i })

-- a set as an item of paths
abbrev pub item_of : List SetInfo → (starts bases : List ℕ) → ℕ → PathItem
item_of sets starts bases i = record { set = (set_read sets i).id; follows = follow_of sets starts bases i (set_read sets i).parent }

-- all sets as such
abbrev pub items_of : List SetInfo → (starts bases : List ℕ) → List PathItem
items_of sets starts bases = map (item_of sets starts bases) (range_with_len 0 (length sets))

-- a step, where there is one, is out of a set before this number
abbrev pub IsEarlier : ℕ → Option (SetId × ℕ) → Type 0
IsEarlier i None = ⊤
IsEarlier i (Some t) = t.0.0 < i

-- each set follows an earlier one, and is after where those of its node begin
pub record AreAtNodes (sets : List SetInfo) (starts bases : List ℕ) : Type 0 where
  pub long : length bases ≤ length starts
  pub small : (n : ℕ) → n < length bases → slice_index bases n ≤ slice_index starts n
  pub node : (j : ℕ) → j < length sets → (set_read sets j).node.0 < length bases
  pub start : (j : ℕ) → j < length sets → slice_index starts (set_read sets j).node.0 ≤ j
  pub parent : (j : ℕ) → j < length sets → IsEarlier j (set_read sets j).parent
