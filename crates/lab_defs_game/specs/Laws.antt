-- Laws of histories, nodes, sets, spans and paths.
use Rattle.std.specs.Prelude.{Option, Bool, false, ℤ, ◌-◌, ◌&&◌, ◌^◌, ◌⊎◌, ◌≡◌, ℕ, ◌+◌, ◌<◌, ◌≤◌, List, [], ◌∷◌, ◌++◌, length, map, filter, take, true, ◌==◌, if◌then◌else◌, Some, None, ◌↔◌, slice_index_or}
use Rattle.std.specs.Int.{◌∣◌}
use Rattle.std.specs.List.{Contains, range_with_len}
use Rattle.std.specs.List.Sorted.{IsStrictlySortedBy}
use Rattle.std.specs.declared.cmp.Ordering.{Ordering}
use Rattle.std.specs.declared.cmp.Ordering.TheVariants.{Less}
use Rattle.std.specs.Ordering.{nat_cmp, on, then_cmp}
use Rattle.std.specs.Cmp.Lexicographic.{slice_cmp}
use Rattle.lab_math.specs.Sums.{total}
use Rattle.lab_defs_text.specs.Games.{GameModel, Place, by_seen}
use Rattle.lab_defs_text.specs.Texts.{place_at, is_world}
use Rattle.lab_defs_game.specs.Seats.{IsSeat}
use Rattle.lab_defs_game.specs.Keys.{count, number_of}
use Rattle.lab_defs_game.specs.Histories.{History, Step, actions_at, row_of, outcome_of, place_of, reached, with_longer, histories, inner_histories, terminal_histories, action_names}
use Rattle.lab_defs_game.specs.Sets.{Item, seen, public_list, publics, set_cmp, sets, set_number, most_decisions}
use Rattle.lab_defs_game.specs.Chance.{totals_at, chance_unit, chance, scale}
use Rattle.lab_defs_game.specs.Paths.{SetAction, path_along, parent, is_taken}
use Rattle.lab_defs_game.specs.Nodes.{nodes, node_number, node_of, node_sets, Follow, path_item, begins, span_from, span_to, path, following, depth, sets_inside, ends_by_nodes, public_of, path_sets, root_sets, subgame_sets}
use Rattle.lab_defs_game.specs.Accepted.{IsAccepted}
use Rattle.lab_defs_game.specs.Recall.{legal_differs, forgotten, one_set, differ, owns, actions, confused, recall_fault}
use Rattle.lab_defs_game.specs.Unfolding.{too_many_histories, horizon_passed, size_passed, history_limit, history_count, top_payoff, size, told_scale, unfold_fault}

-- ---- histories

-- a step is open at a place: an action of each seat, and an outcome of their row
abbrev pub IsStep : Place → Step → Type 0
IsStep p s = (s.action1 < actions_at 1 p) × (s.action2 < actions_at 2 p) × (s.outcome < length (row_of p s.action1 s.action2))

-- each step is open where the steps before it lead, the first one at the place n
abbrev pub IsLegal : GameModel → ℕ → History → Type 0
IsLegal g n [] = Unit {0}
IsLegal g n (s ∷ h) = IsStep (place_at g n) s × IsLegal g (outcome_of g n s).next h

-- the histories are the legal lists of steps that are no longer than the horizon
abbrev pub HistoryLaw : Type 0
HistoryLaw = (g : GameModel) (h : History) → Contains (histories g) h ↔ (IsLegal g g.root h × (length h ≤ g.horizon))

-- by the first seat's action, then by the second's, then by the outcome
abbrev pub step_cmp : Step → Step → Ordering
step_cmp = then_cmp (on (λ s. s.action1) nat_cmp) (then_cmp (on (λ s. s.action2) nat_cmp) (on (λ s. s.outcome) nat_cmp))

-- by length, and then lexicographically by the steps
abbrev pub history_cmp : History → History → Ordering
history_cmp = then_cmp (on length nat_cmp) (slice_cmp step_cmp)

-- the histories are in this order, each once
abbrev pub HistoryOrderLaw : Type 0
HistoryOrderLaw = (g : GameModel) → IsStrictlySortedBy history_cmp (histories g)

-- the histories of at most t steps are as many as their count says
abbrev pub HistoryCountLaw : Type 0
HistoryCountLaw = (g : GameModel) (t : ℕ) → length (with_longer g t ([] ∷ [])) ≡ history_count g t

-- ---- what is not unfolded

-- up to no depth within the horizon there are too many histories
abbrev pub IsFew : GameModel → Type 0
IsFew g = (t : ℕ) → t ≤ g.horizon → history_count g t ≤ history_limit

-- a history with as many steps as the horizon that is not terminal
abbrev pub IsOpen : GameModel → History → Type 0
IsOpen g h = Contains (histories g) h × (length h ≡ g.horizon) × (is_world (place_of g h) ≡ true)

-- too many histories: at the first depth, at most the horizon, up to which they pass the limit
abbrev pub TooManyLaw : Type 0
TooManyLaw = (g : GameModel) (d : ℕ) → (unfold_fault g ≡ Some (too_many_histories d))
    ↔ ((d ≤ g.horizon) × (history_limit < history_count g d) × ((s : ℕ) → s < d → history_count g s ≤ history_limit))

-- the horizon is passed: where there are not too many, at the place of the first open history
abbrev pub HorizonLaw : Type 0
HorizonLaw = (g : GameModel) (n : ℕ) → (unfold_fault g ≡ Some (horizon_passed n))
    ↔ (IsFew g × ((h : History) × IsOpen g h × ((k : History) → IsOpen g k → (k ≡ h) ⊎ (history_cmp h k ≡ Less)) × (n ≡ reached g g.root h)))

-- the size is passed: where neither is so, with the greatest payoff, the scale and the most decisions
abbrev pub SizePassedLaw : Type 0
SizePassedLaw = (g : GameModel) (top : ℕ) (k : Option ℕ) (most1 most2 : ℕ) → (unfold_fault g ≡ Some (size_passed top k most1 most2))
    ↔ (IsFew g × ((h : History) → IsOpen g h → ⊥) × (2 ^ 64 < size g)
    × (top ≡ top_payoff g) × (k ≡ told_scale (scale g)) × (most1 ≡ most_decisions g 1) × (most2 ≡ most_decisions g 2))

-- a game is unfolded exactly where none is so
abbrev pub AcceptedLaw : Type 0
AcceptedLaw = (g : GameModel) → (unfold_fault g ≡ None) ↔ (IsFew g × ((h : History) → IsOpen g h → ⊥) × (size g ≤ 2 ^ 64))

-- ---- chance

-- the unit of a step is a multiple of the total of each row of a world where a non-terminal history of that many steps leads, and divides each other such multiple
abbrev pub UnitLaw : Type 0
UnitLaw = (g : GameModel) (t : ℕ) →
    ((h : History) (n : ℕ) → Contains (inner_histories g) h → length h ≡ t → Contains (totals_at (place_of g h)) n → n ∣ chance_unit g t)
    × ((m : ℕ) → ((h : History) (n : ℕ) → Contains (inner_histories g) h → length h ≡ t → Contains (totals_at (place_of g h)) n → n ∣ m) → chance_unit g t ∣ m)

-- no history within the horizon has a chance above the scale
abbrev pub ChanceLaw : Type 0
ChanceLaw = (g : GameModel) (h : History) → length h ≤ g.horizon → chance g h ≤ scale g

-- ---- nodes and sets

-- each history that is not terminal is in one set of each seat: the one that its number names, and no other
abbrev pub SetLaw : Type 0
SetLaw = (g : GameModel) (seat : ℕ) (h : History) → Contains (inner_histories g) h
    → (set_number g seat (seen g seat h) < length (sets g seat))
    × ((i : ℕ) → i < length (sets g seat) → (slice_index_or (sets g seat) i [] ≡ seen g seat h) ↔ (i ≡ set_number g seat (seen g seat h)))

-- each set has a history that is not terminal
abbrev pub SetHistoryLaw : Type 0
SetHistoryLaw = (g : GameModel) (seat i : ℕ) → i < length (sets g seat) → (h : History) × Contains (inner_histories g) h × (seen g seat h ≡ slice_index_or (sets g seat) i [])

-- each history is at one node: the one that its number names, and no other
abbrev pub NodeLaw : Type 0
NodeLaw = (g : GameModel) (h : History) → Contains (histories g) h
    → (node_of g h < length (nodes g)) × ((i : ℕ) → i < length (nodes g) → (slice_index_or (nodes g) i [] ≡ public_list g h) ↔ (i ≡ node_of g h))

-- each node has a history
abbrev pub NodeHistoryLaw : Type 0
NodeHistoryLaw = (g : GameModel) (i : ℕ) → i < length (nodes g) → (h : History) × Contains (histories g) h × (public_list g h ≡ slice_index_or (nodes g) i [])

-- each set of an accepted game has a row: a terminal history whose path passes through it
abbrev pub SetRowLaw : Type 0
SetRowLaw = (g : GameModel) → IsAccepted g → (seat : ℕ) → IsSeat seat → (i : ℕ) → i < length (sets g seat)
    → (h : History) × Contains (ends_by_nodes g) h × Contains (map (λ (t : SetAction). t.set) (path_along g seat h)) i

-- all histories of a set are at one node
abbrev pub SetNodeLaw : Type 0
SetNodeLaw = (g : GameModel) (seat : ℕ) (h : History) → publics (seen g seat h) ≡ public_list g h

-- all histories of a node have as many steps as it is deep
abbrev pub DepthLaw : Type 0
DepthLaw = (g : GameModel) (h : History) → depth (public_list g h) ≡ length h

-- the terminal histories, node by node, are all of them: the same histories, as many, and each sum is the same
abbrev pub NodeEndLaw : Type 0
NodeEndLaw = (g : GameModel)
    → ((h : History) → Contains (ends_by_nodes g) h ↔ Contains (terminal_histories g) h)
    × (length (ends_by_nodes g) ≡ length (terminal_histories g))
    × ((f : History → ℤ) → total f (ends_by_nodes g) ≡ total f (terminal_histories g))

-- ---- subgames

-- one list begins another exactly where the other is the one with something after it
abbrev pub BeginsLaw : Type 0
BeginsLaw = (xs ys : List ℕ) → (begins xs ys ≡ true) ↔ ((rest : List ℕ) × (ys ≡ xs ++ rest))

-- the sets inside the subgame of a node are those with numbers in its span
abbrev pub SpanLaw : Type 0
SpanLaw = (g : GameModel) (seat : ℕ) (node : List ℕ) (i : ℕ) → i < length (sets g seat)
    → (begins node (publics (slice_index_or (sets g seat) i [])) ≡ true) ↔ ((span_from g seat node ≤ i) × (i < span_to g seat node))

-- those at the node itself come first in it
abbrev pub NodeSetLaw : Type 0
NodeSetLaw = (g : GameModel) (seat : ℕ) (node : List ℕ) (i : ℕ) → i < length (sets g seat)
    → (publics (slice_index_or (sets g seat) i []) ≡ node) ↔ ((span_from g seat node ≤ i) × (i < span_from g seat node + length (node_sets g seat node)))

-- where a seat has a set inside a subgame, each seat has one at its node
abbrev pub RootLaw : Type 0
RootLaw = (g : GameModel) (seat other : ℕ) (node : List ℕ) → 0 < length (sets_inside g seat node) → 0 < length (node_sets g other node)

-- by number, the sets on a path, at a node and inside a subgame are those whose public list is one of its prefixes, is it, and has it as a prefix
abbrev pub NumberLaw : Type 0
NumberLaw = (g : GameModel) (seat : ℕ) (node : List ℕ) →
    (path_sets g seat node ≡ filter (λ I. begins (public_of g seat I) node) (range_with_len 0 (length (sets g seat))))
    × (root_sets g seat node ≡ filter (λ I. begins (public_of g seat I) node && begins node (public_of g seat I)) (range_with_len 0 (length (sets g seat))))
    × (subgame_sets g seat node ≡ filter (λ I. begins node (public_of g seat I)) (range_with_len 0 (length (sets g seat))))

-- those at a node and inside its subgame have consecutive numbers, from the start of its span on
abbrev pub ConsecutiveLaw : Type 0
ConsecutiveLaw = (g : GameModel) (seat : ℕ) (node : List ℕ) →
    (root_sets g seat node ≡ range_with_len (span_from g seat node) (length (node_sets g seat node)))
    × (subgame_sets g seat node ≡ range_with_len (span_from g seat node) (span_to g seat node - span_from g seat node))

-- the nodes of a subgame have numbers from its node's on
abbrev pub NodeSpanLaw : Type 0
NodeSpanLaw = (g : GameModel) (node : List ℕ) (i : ℕ) → i < length (nodes g)
    → (begins node (slice_index_or (nodes g) i []) ≡ true) ↔ ((node_number g node ≤ i) × (i < node_number g node + count (begins node) (nodes g)))

-- what follows a set inside is inside, and the parent of a set inside is inside exactly where its number is not below the span
abbrev pub InsideLaw : Type 0
InsideLaw = (g : GameModel) (seat : ℕ) (node : List ℕ) (s : List Item) (x : Item) → Contains (sets g seat) (s ++ x ∷ [])
    → (begins node (publics s) ≡ true → begins node (publics (s ++ x ∷ [])) ≡ true)
    × (begins node (publics (s ++ x ∷ [])) ≡ true → (begins node (publics s) ≡ true) ↔ (span_from g seat node ≤ set_number g seat s))

-- ---- parents and paths

-- a set without its last item is a set, its parent, and has a lower number
abbrev pub ParentLaw : Type 0
ParentLaw = (g : GameModel) (seat : ℕ) (s : List Item) (x : Item) → Contains (sets g seat) (s ++ x ∷ [])
    → Contains (sets g seat) s × (set_number g seat s < set_number g seat (s ++ x ∷ []))
    × (parent g seat (s ++ x ∷ []) ≡ Some (record { set = set_number g seat s; action = x.action }))

-- the set where nothing has been seen has number 0, and it alone has no parent
abbrev pub FirstSetLaw : Type 0
FirstSetLaw = (g : GameModel) (seat : ℕ) (s : List Item) → Contains (sets g seat) s
    → ((s ≡ []) ↔ (set_number g seat s ≡ 0)) × ((s ≡ []) ↔ (parent g seat s ≡ None))

-- a step further along a history, the path has one more set and action: the parent of what is seen then
abbrev pub AlongLaw : Type 0
AlongLaw = (g : GameModel) (seat : ℕ) (h : History) (s : Step) →
    let t : SetAction = record { set = set_number g seat (seen g seat h); action = if seat == 1 then s.action1 else s.action2 } in
    (path_along g seat (h ++ s ∷ []) ≡ path_along g seat h ++ t ∷ []) × (parent g seat (seen g seat (h ++ s ∷ [])) ≡ Some t)

-- the parent of a set on a path is on the path, before it
abbrev pub PathParentLaw : Type 0
PathParentLaw = (g : GameModel) (seat : ℕ) (node : List ℕ) (s : List Item) (x : Item) → Contains (path g seat node) (s ++ x ∷ [])
    → Contains (path g seat node) s × (number_of set_cmp (path g seat node) s < number_of set_cmp (path g seat node) (s ++ x ∷ []))

-- those on a path that follow a set by an action have the places 0, 1, .. in their order
abbrev pub FollowerLaw : Type 0
FollowerLaw = (g : GameModel) (seat : ℕ) (node : List ℕ) (t : SetAction) →
    map (λ i. following g seat t (take i (path g seat node)))
    (filter (λ i. is_taken t (parent g seat (slice_index_or (path g seat node) i []))) (range_with_len 0 (length (path g seat node))))
    ≡ range_with_len 0 (following g seat t (path g seat node))

-- an item of a path that follows does so by its parent's action, the parent being the set of an earlier item, and as one of those that do
abbrev pub FollowLaw : Type 0
FollowLaw = (g : GameModel) (seat : ℕ) (node : List ℕ) (i : ℕ) (f : Follow) → i < length (path g seat node) → (path_item g seat node i).follows ≡ Some f
    → (f.before < i) × (parent g seat (slice_index_or (path g seat node) i []) ≡ Some (record { set = (path_item g seat node f.before).set; action = f.action })) × (f.place < f.total)

-- the first item of a path, and it alone, follows none
abbrev pub FirstItemLaw : Type 0
FirstItemLaw = (g : GameModel) (seat : ℕ) (node : List ℕ) (i : ℕ) → i < length (path g seat node) → ((path_item g seat node i).follows ≡ None) ↔ (i ≡ 0)

-- ---- perfect recall

-- the histories of each set of a seat have the same names of its actions
abbrev pub AlikeNames : GameModel → ℕ → Type 0
AlikeNames g seat = (h k : History) → Contains (inner_histories g) h → Contains (inner_histories g) k → seen g seat h ≡ seen g seat k → action_names seat (place_of g h) ≡ action_names seat (place_of g k)

-- the tokens that a seat has seen tell its own actions
abbrev pub Remembers : GameModel → ℕ → Type 0
Remembers g seat = (h k : History) → Contains (inner_histories g) h → Contains (inner_histories g) k
    → owns (seen g seat h) ≡ owns (seen g seat k) → publics (seen g seat h) ≡ publics (seen g seat k) → actions (seen g seat h) ≡ actions (seen g seat k)

-- no fault is found exactly where the histories of each set agree on their actions, and the tokens tell the own actions, if what is seen has to
abbrev pub RecallLaw : Type 0
RecallLaw = (g : GameModel) → (recall_fault g ≡ None) ↔ (AlikeNames g 1 × AlikeNames g 2 × (g.recall ≡ by_seen → Remembers g 1 × Remembers g 2))

-- of these histories, the one with the number n is the first that clashes with an earlier one, and that with the number m is the first that it is akin to
abbrev pub IsFirstPair : (akin clash : History → History → Bool) → List History → ℕ → ℕ → Type 0
IsFirstPair akin clash hs m n =
    (n < length hs) × ((k : ℕ) × (k < n) × (clash (slice_index_or hs k []) (slice_index_or hs n []) ≡ true))
    × ((j : ℕ) → j < n → (k : ℕ) → k < j → clash (slice_index_or hs k []) (slice_index_or hs j []) ≡ false)
    × (m < n) × (akin (slice_index_or hs m []) (slice_index_or hs n []) ≡ true) × ((k : ℕ) → k < m → akin (slice_index_or hs k []) (slice_index_or hs n []) ≡ false)

-- names of legal actions differ: in a set of seat 1, or else in one of seat 2
abbrev pub LegalDiffersLaw : Type 0
LegalDiffersLaw = (g : GameModel) (seat m n : ℕ) → (recall_fault g ≡ Some (legal_differs seat m n))
    ↔ (((seat ≡ 1) × IsFirstPair (one_set g 1) (differ g 1) (histories g) m n)
    ⊎ ((seat ≡ 2) × AlikeNames g 1 × IsFirstPair (one_set g 2) (differ g 2) (histories g) m n))

-- own actions are forgotten: where no names differ and what is seen has to tell them, by seat 1, or else by seat 2
abbrev pub ForgottenLaw : Type 0
ForgottenLaw = (g : GameModel) (seat m n : ℕ) → (recall_fault g ≡ Some (forgotten seat m n))
    ↔ (AlikeNames g 1 × AlikeNames g 2 × (g.recall ≡ by_seen)
    × (((seat ≡ 1) × IsFirstPair (confused g 1) (confused g 1) (histories g) m n)
    ⊎ ((seat ≡ 2) × Remembers g 1 × IsFirstPair (confused g 2) (confused g 2) (histories g) m n)))
