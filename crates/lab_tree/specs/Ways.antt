-- Ways to nodes, and what is on them.
use Rattle.std.specs.Prelude.{ℕ, ◌≡◌, ◌+◌, ◌-◌, ◌<◌, ◌≤◌, List, [], ◌∷◌, ◌++◌, length, Option, Some, None, ⊤, slice_index, slice_index_or, slice_range}
use Rattle.std.specs.List.Sorted.{IsNonDecreasing}
use Rattle.lab_tree.specs.declared.info.NodeId.{NodeId}

-- a list made one by one, each element from its number, those before it and the member of the other list
abbrev pub built : {X Y : Type 0} → (ℕ → List Y → X → Y) → List Y → List X → List Y
built step done [] = done
built step done (x ∷ xs) = built step (done ++ step (length done) done x ∷ []) xs

-- a node, where there is one, is one before this number
abbrev pub IsBefore : ℕ → Option NodeId → Type 0
IsBefore n None = ⊤
IsBefore n (Some p) = p.0 < n

-- each node follows an earlier one, or none; what is at it is between its start and the next one's
pub record AreWays (count : ℕ) (starts : List ℕ) (parents : List (Option NodeId)) : Type 0 where
  pub long : length starts ≡ length parents + 1
  pub rise : IsNonDecreasing starts
  pub end : (n : ℕ) → n < length starts → slice_index starts n ≤ count
  pub before : (n : ℕ) → n < length parents → IsBefore n (slice_index_or parents n None)

-- what is on the way up to a node
abbrev pub way_before : {X : Type 0} → List (List X) → Option NodeId → List X
way_before paths None = []
way_before paths (Some p) = slice_index_or paths p.0 []

-- what is on the way to a node, it included
abbrev pub path_next : {X : Type 0} → List X → List ℕ → ℕ → List (List X) → Option NodeId → List X
path_next items starts n paths p = way_before paths p ++ slice_range items (slice_index starts n) (slice_index starts (n + 1))

-- that for each node
abbrev pub all_paths : {X : Type 0} → List X → List ℕ → List (Option NodeId) → List (List X)
all_paths items starts parents = built (path_next items starts) [] parents

-- that for one
abbrev pub path_in : {X : Type 0} → List X → List ℕ → List (Option NodeId) → ℕ → List X
path_in items starts parents n = slice_index_or (all_paths items starts parents) n []

-- how many are on the way up to a node
abbrev pub base_next : List ℕ → ℕ → List ℕ → Option NodeId → ℕ
base_next starts n bases None = 0
base_next starts n bases (Some p) = slice_index bases p.0 + (slice_index starts (p.0 + 1) - slice_index starts p.0)

-- that for each node
abbrev pub bases_of : List ℕ → List (Option NodeId) → List ℕ
bases_of starts parents = built (base_next starts) [] parents
