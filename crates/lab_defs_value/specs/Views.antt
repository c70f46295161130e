-- A view of a subgame: all that a rule is told of it. The sets of the opponent on the public path to its node, with their bounds; the steps
-- between them; and the form of the subgame.
use Rattle.std.specs.Prelude.{◌≡◌, ◌↔◌, ℕ, zero, suc, ◌+◌, ◌-◌, ◌^◌, ◌<◌, ◌≤◌, unsigned_abs, nat_le, ℤ, pos, ◌+ℤ◌, ◌-ℤ◌, ◌≤ℤ◌, List, [], ◌∷◌, length, map, filter, Bool, false, ◌&&◌, ◌==◌, if◌then◌else◌, slice_index, slice_index_or, Option, Some, None, All}
use Rattle.std.specs.List.{range_with_len}
use Rattle.lab_math.specs.Sums.{total}
use Rattle.lab_math.specs.Greatest.{greatest_of}
use Rattle.lab_defs_text.specs.Games.{GameModel}
use Rattle.lab_defs_game.specs.Seats.{IsSeat, other, grid_of}
use Rattle.lab_defs_game.specs.Keys.{count}
use Rattle.lab_defs_game.specs.Nodes.{Follow, PathItem, path_items, node_sets}
use Rattle.lab_defs_game.specs.Forms.{Form, actions_of, parent_of}
use Rattle.lab_defs_value.specs.Rounding.{share_size, even_part}
use Rattle.lab_defs_value.specs.Parents.{IsForm}
use Rattle.lab_defs_value.specs.Replies.{strategy_of, factors_in}
use Rattle.lab_defs_value.specs.Bounds.{at, through}
use Rattle.lab_defs_value.specs.Allowances.{Rule, cfrd, reach, margin}
use Rattle.lab_defs_value.specs.Subgames.{subgame_form}
use Rattle.lab_defs_value.specs.Gadgets.{gadget}
use Rattle.lab_defs_value.specs.Smallness.{factors_at, IsSmall}

-- a set on the path: its number in the game, its bound, and the step of the path that it follows, with its place among those that do
pub record PathSet : Type 0 where
  pub set : ℕ
  pub bound : ℤ
  pub follows : Option (ℕ × ℕ)

-- a step of the path: the place on the path of the set that it leaves, the action, what that action backs up, and how many sets of the path follow
pub record PathStep : Type 0 where
  pub from : ℕ
  pub action : ℕ
  pub through : ℤ
  pub count : ℕ

-- what a rule is told: the keeper, the grids, the form of the subgame, the path, and how many of its last sets are the root sets of the subgame
pub record View : Type 0 where
  pub keeper : ℕ
  pub grid1 : ℕ
  pub grid2 : ℕ
  pub form : Form
  pub sets : List PathSet
  pub steps : List PathStep
  pub roots : ℕ

-- the set of a path at a place
abbrev pub path_set : View → ℕ → PathSet
path_set v i = slice_index_or v.sets i (record { set = 0; bound = pos 0; follows = None })

-- the step of a path with a number
abbrev pub path_step : View → ℕ → PathStep
path_step v k = slice_index_or v.steps k (record { from = 0; action = 0; through = pos 0; count = 0 })

-- how many sets of the path are above the node
abbrev pub above : View → ℕ
above v = length v.sets - v.roots

-- whether a set of the path follows the step k
abbrev pub follows_step : ℕ → Option (ℕ × ℕ) → Bool
follows_step k None = false
follows_step k (Some f) = f.0 == k

-- whether it does so at a place among those that do
abbrev pub follows_at : (k place : ℕ) → Option (ℕ × ℕ) → Bool
follows_at k place None = false
follows_at k place (Some f) = (f.0 == k) && (f.1 == place)

-- ---- what holds of a view

-- how many steps are above the set at a place, n at most
abbrev pub steps_above : View → ℕ → ℕ → ℕ
steps_above v zero i = 0
steps_above v (suc n) i = elim (path_set v i).follows [ None ↦ 0 | Some f ↦ suc (steps_above v n (path_step v f.0).from) ]

-- a step that a set at place i follows is there, leaves an earlier set that is no root set, and has the set's place among its followers
abbrev pub IsFollow : View → (i : ℕ) → Option (ℕ × ℕ) → Type 0
IsFollow v i None = i ≡ 0
IsFollow v i (Some f) = (f.0 < length v.steps) × ((path_step v f.0).from < i) × ((path_step v f.0).from < above v) × (f.1 < (path_step v f.0).count) × (0 < i)

-- a view that a rule may be told
pub record IsView (v : View) : Type 0 where
  pub seat : IsSeat v.keeper
  pub form1 : IsForm v.form 1
  pub form2 : IsForm v.form 2
  pub small : IsSmall v.grid1 v.grid2 v.form
  -- there is a root set, and the opponent's first sets in the form, the only ones there without a parent, are the root sets
  pub some : 1 ≤ v.roots
  pub roots : v.roots ≤ length v.sets
  pub there : v.roots ≤ length (actions_of v.form (other v.keeper))
  pub first : (I : ℕ) → I < length (actions_of v.form (other v.keeper)) → (parent_of v.form (other v.keeper) I ≡ None) ↔ (I < v.roots)
  -- the first set of the path follows no step, and each other set one that leaves an earlier set above the node
  pub follows : (i : ℕ) → i < length v.sets → IsFollow v i (path_set v i).follows
  -- the followers of a step have the places from 0 up to and without its count
  pub places : (k place : ℕ) → k < length v.steps → place < (path_step v k).count → count (λ (s : PathSet). follows_at k place s.follows) v.sets ≡ 1
  -- a step backs up no more than the bound of the set that it leaves
  pub through : All (λ (e : PathStep). e.through ≤ℤ (path_set v e.from).bound) v.steps
  -- nothing is too large or too deep
  pub bounds : All (λ (s : PathSet). unsigned_abs s.bound ≤ 2 ^ 117) v.sets
  pub throughs : All (λ (e : PathStep). unsigned_abs e.through ≤ 2 ^ 117) v.steps
  pub depth : (i : ℕ) → i < length v.sets → steps_above v (length v.sets) i ≤ 32
  -- there is a row, and the opponent brings as many factors to each, 32 at most
  pub row : 1 ≤ length v.form.rows
  pub factors : All (λ z. factors_at v.form (other v.keeper) z ≡ factors_in v.form (other v.keeper)) v.form.rows
  pub decisions : factors_in v.form (other v.keeper) ≤ 32

-- ---- what a rule makes of it

-- what the followers of a step share: the allowance of the set that it leaves, and what the bound there has over what the step backs up
abbrev pub step_pool : View → (ℕ → ℕ) → PathStep → ℕ
step_pool v allow e = share_size (pos (allow e.from) +ℤ ((path_set v e.from).bound -ℤ e.through))

-- the part of a set in the pool of the step that it follows
abbrev pub step_share : View → (ℕ → ℕ) → Option (ℕ × ℕ) → ℕ
step_share v allow None = 0
step_share v allow (Some f) = even_part (step_pool v allow (path_step v f.0)) (path_step v f.0).count f.1

-- the allowance by reach of the set at a place with at most n steps above it
abbrev pub reach_view : View → ℕ → ℕ → ℕ
reach_view v zero i = 0
reach_view v (suc n) i = step_share v (reach_view v n) (path_set v i).follows

-- the allowance of the set at a place
abbrev pub view_allowance : Rule → View → ℕ → ℕ
view_allowance cfrd v i = 0
view_allowance margin v i = 0
view_allowance reach v i = reach_view v (length v.sets) i

-- the limit of a root set, the first one having the number 0: its bound, raised by an allowance for each
abbrev pub root_limit : View → (allowances : List ℕ) → ℕ → ℤ
root_limit v allowances i = (path_set v (above v + i)).bound +ℤ pos (slice_index allowances i)

-- the allowances of the root sets
abbrev pub root_allowances : Rule → View → List ℕ
root_allowances rule v = map (λ i. view_allowance rule v (above v + i)) (range_with_len 0 v.roots)

-- the gadget of a rule on a view, by an allowance for each root set
abbrev pub view_gadget : Rule → View → (allowances : List ℕ) → Form
view_gadget rule v allowances = gadget rule (other v.keeper) v.roots (factors_in v.form (other v.keeper)) (root_limit v allowances) v.form

-- ---- values backed up along the path

-- what a step backs up where the sets that follow it have values in place of their bounds
abbrev pub step_value : View → (ℕ → ℤ) → ℕ → ℤ
step_value v V k =
    (path_step v k).through
    +ℤ total (λ j. V j -ℤ (path_set v j).bound) (filter (λ j. follows_step k (path_set v j).follows) (range_with_len 0 (length v.sets)))

-- the steps that leave the set at a place
abbrev pub steps_from : View → ℕ → List ℕ
steps_from v i = filter (λ k. (path_step v k).from == i) (range_with_len 0 (length v.steps))

-- the value that is backed up to the set at a place, by values W of the root sets, where at most n sets come after it: at a root set its value, at any other the greatest of its bound and what its steps back up
abbrev pub backed_up_within : View → (W : ℕ → ℤ) → ℕ → ℕ → ℤ
backed_up_within v W zero i = W (i - above v)
backed_up_within v W (suc n) i =
    if nat_le (above v) i then W (i - above v)
    else greatest_of ((path_set v i).bound ∷ map (step_value v (backed_up_within v W n)) (steps_from v i))

-- the value that is backed up to the set at a place
abbrev pub backed_up_to : View → (W : ℕ → ℤ) → ℕ → ℤ
backed_up_to v W i = backed_up_within v W (length v.sets) i

-- ---- the view of a game

-- whether an item of a path is the first of those that follow its step
abbrev pub begins_step : PathItem → Bool
begins_step item = elim item.follows [ None ↦ false | Some f ↦ f.place == 0 ]

-- the first items of the steps of a path, in path order: a step for each
abbrev pub step_items : List PathItem → List PathItem
step_items items = filter begins_step items

-- whether two items follow one step
abbrev pub same_step : Follow → PathItem → Bool
same_step f item = elim item.follows [ None ↦ false | Some e ↦ (e.before == f.before) && (e.action == f.action) ]

-- the place of the first item that follows the step of f
abbrev pub step_number : List PathItem → Follow → ℕ
step_number [] f = 0
step_number (item ∷ items) f = if same_step f item then 0 else suc (step_number items f)

-- an item of a path as a set of a view: with its bound, and the number of its step
abbrev pub path_set_in : (items : List PathItem) → List ℤ → PathItem → PathSet
path_set_in items bounds item = record {
  set = item.set;
  bound = at bounds item.set;
  follows = elim item.follows [ None ↦ None | Some f ↦ Some (step_number (step_items items) f, f.place) ];
}

-- the step of a first item, by what an action backs up
abbrev pub path_step_in : (items : List PathItem) → (ℕ → ℕ → ℤ) → PathItem → PathStep
path_step_in items Q item = elim item.follows [
  | None ↦ record { from = 0; action = 0; through = pos 0; count = 0 }
  | Some f ↦ record { from = f.before; action = f.action; through = Q (slice_index_or items f.before (record { set = 0; follows = None })).set f.action; count = f.total }
]

-- the view of the subgame of a node, by a table of the keeper and its bounds
abbrev pub view_of : GameModel → (keeper : ℕ) → (node table : List ℕ) → List ℤ → View
view_of g keeper node table bounds =
    let items = path_items g (other keeper) node in
    record {
      keeper = keeper;
      grid1 = grid_of g 1;
      grid2 = grid_of g 2;
      form = subgame_form g keeper node table;
      sets = map (path_set_in items bounds) items;
      steps = map (path_step_in items (through (strategy_of g keeper table) (at bounds))) (step_items items);
      roots = length (node_sets g (other keeper) node);
    }
