-- The items of the paths of a seat.
use Rattle.std.specs.Prelude.{ℕ, ◌≡◌, ◌<◌, ◌^◌, List, length, Option}
use Rattle.lab_tree.specs.declared.info.NodeId.{NodeId}
use Rattle.lab_tree.specs.declared.info.PathItem.{PathItem}
use Rattle.lab_tree.specs.declared.info.SetInfo.{SetInfo}
use Rattle.lab_tree.specs.Places.{items_of, AreGrouped, AreAtNodes}
use Rattle.lab_tree.specs.Ways.{AreWays, bases_of}

-- the sets of a seat as items of paths, and how many items are on the way up to each node
pub record PathsValue : Type 0 where
  pub items : List PathItem
  pub bases : List ℕ

-- those of sets, by where the sets of each node start and by the parent of each node
abbrev pub paths_by : List SetInfo → (starts : List ℕ) → List (Option NodeId) → PathsValue
paths_by sets starts parents = record { items = items_of sets starts (bases_of starts parents); bases = bases_of starts parents }

-- items that are on ways, and how many are before each node
pub record ArePaths (v : PathsValue) (starts : List ℕ) (parents : List (Option NodeId)) : Type 0 where
  pub ways : AreWays (length v.items) starts parents
  pub bases : v.bases ≡ bases_of starts parents

-- sets that have paths: they are at nodes on ways, those that follow the same step at the same node side by side
pub record HavePaths (sets : List SetInfo) (starts : List ℕ) (parents : List (Option NodeId)) : Type 0 where
  pub few : length sets < 2 ^ 32
  pub ways : AreWays (length sets) starts parents
  pub grouped : AreGrouped sets
  pub nodes : AreAtNodes sets starts (bases_of starts parents)
