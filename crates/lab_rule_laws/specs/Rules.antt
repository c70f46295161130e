-- Best replies that are computed from the last set back, what a rule's allowances keep, and what gadgets are worth.
use Rattle.std.specs.Prelude.{◌≡◌, ℕ, zero, suc, ◌-◌, ◌^◌, ◌<◌, ◌≤◌, ℤ, pos, ◌*ℤ◌, ◌≤ℤ◌, ◌+ℤ◌, ◌-ℤ◌, List, [], ◌∷◌, length, map, filter, nat_lt, true, false, None, if◌then◌else◌, int_le, slice_index, ◌+◌}
use Rattle.std.specs.List.{range_with_len}
use Rattle.std.specs.Int.{int_max}
use Rattle.lab_math.specs.Sums.{total, sum_over}
use Rattle.lab_math.specs.Greatest.{greatest_of}
use Rattle.lab_defs_text.specs.Games.{GameModel}
use Rattle.lab_defs_text.specs.Texts.{game_ok, one_of}
use Rattle.lab_defs_game.specs.Forms.{Form, parent_of, game_actions}
use Rattle.lab_defs_game.specs.Nodes.{span_from, span_to, root_sets}
use Rattle.lab_defs_game.specs.Recall.{recall_fault}
use Rattle.lab_defs_game.specs.Seats.{IsSeat, grid_of, other}
use Rattle.lab_defs_value.specs.Parents.{IsForm}
use Rattle.lab_defs_value.specs.Replies.{Strategy, Reply, IsReply, strategy_of, opponent, reply_sets, reply_factors, earned}
use Rattle.lab_defs_value.specs.BestValues.{IsBest, IsChoice, pure_reply, best_response_value}
use Rattle.lab_defs_value.specs.Bounds.{at, through, Holds, IsBackedUp}
use Rattle.lab_defs_value.specs.Allowances.{Rule, cfrd, reach, margin, path_followers, allowance, Ascends}
use Rattle.lab_defs_value.specs.Passes.{limit}
use Rattle.lab_defs_value.specs.Laws.{Sound}
use Rattle.lab_defs_value.specs.Splices.{FitsSpan, spliced}
use Rattle.lab_defs_value.specs.Subgames.{weights_inside, subgame_form}
use Rattle.lab_defs_value.specs.Gadgets.{gadget_sets, gadget, node_limit, gadget_form}
use Rattle.lab_defs_value.specs.MatchingLaws.{FollowsRoots}

-- the first of the numbers up to n where h is greatest
abbrev pub first_greatest : (n : ℕ) → (h : ℕ → ℤ) → ℕ
first_greatest zero h = 0
first_greatest (suc n) h = let first = first_greatest n h in if int_le (h (suc n)) (h first) then first else suc n

-- the first action at a set that backs up most
abbrev pub first_action : Strategy → (ℕ → ℤ) → ℕ → ℕ
first_action s B J = first_greatest (slice_index (reply_sets s) J - 1) (through s B J)

-- the number of a set in a list that has those of the last sets
abbrev pub at_last : Strategy → List ℤ → ℕ → ℤ
at_last s numbers J = at numbers (J - (length (reply_sets s) - length numbers))

-- the values of the last n sets, in set order: each the greatest of what its actions back up, by the values after it
abbrev pub last_values : Strategy → (n : ℕ) → List ℤ
last_values s zero = []
last_values s (suc n) =
    let behind = last_values s n in
    let J = length (reply_sets s) - suc n in
    through s (at_last s behind) J (first_action s (at_last s behind) J) ∷ behind

-- the values of all sets, from the last set back to the first
abbrev pub backed_up_values : Strategy → List ℤ
backed_up_values s = last_values s (length (reply_sets s))

-- the first greatest action at each set
abbrev pub best_actions : Strategy → List ℕ
best_actions s = let values = backed_up_values s in map (first_action s (at values)) (range_with_len 0 (length (reply_sets s)))

-- no number up to n is greater than the first greatest one, and those before it are less
abbrev pub FirstGreatestLaw : Type 0
FirstGreatestLaw = (n : ℕ) (h : ℕ → ℤ)
    → (first_greatest n h ≤ n) × ((k : ℕ) → k ≤ n → h k ≤ℤ h (first_greatest n h)) × ((k : ℕ) → k < first_greatest n h → (h k +ℤ pos 1) ≤ℤ h (first_greatest n h))

-- the values backed up from the last set to the first are the best values: no reply earns more, by its number to the factors, and the one pure reply by the first greatest actions earns each of them
abbrev pub BestRepliesLaw : Type 0
BestRepliesLaw = (s : Strategy) → Sound s →
    let values = backed_up_values s in
    (length values ≡ length (reply_sets s))
    × IsBackedUp s (at values)
    × IsChoice (reply_sets s) (best_actions s)
    × ((I : ℕ) → I < length (reply_sets s)
    → IsBest s I (at values I)
    × (at values I ≡ best_response_value s I)
    × ((r : Reply) → IsReply (reply_sets s) r → earned s r I ≤ℤ (pos (r.all ^ reply_factors s) *ℤ at values I))
    × (earned s (pure_reply (best_actions s)) I ≡ at values I))

-- ---- the rules

-- what an action backs up where the sets on the path that follow it have values in place of their bounds
abbrev pub through_along : (s : Strategy) (B : ℕ → ℤ) (path : List ℕ) (V : ℕ → ℤ) (J a : ℕ) → ℤ
through_along s B path V J a = through s B J a +ℤ total (λ I. V I -ℤ B I) (path_followers s path J a)

-- the actions of a set that some set on the path follows
abbrev pub path_actions : (s : Strategy) (path : List ℕ) (J : ℕ) → List ℕ
path_actions s path J = filter (λ a. nat_lt 0 (length (path_followers s path J a))) (range_with_len 0 (slice_index (reply_sets s) J))

-- the value that is backed up along the path: the greatest of the set's bound and of what those actions back up
abbrev pub backed_along : (s : Strategy) (B : ℕ → ℤ) (path : List ℕ) (V : ℕ → ℤ) (J : ℕ) → ℤ
backed_along s B path V J = greatest_of (B J ∷ map (through_along s B path V J) (path_actions s path J))

-- values of the sets on a path: at those of the node within the limits of a rule, at the others no more than what is backed up
pub record IsAlong (rule : Rule) (s : Strategy) (B : ℕ → ℤ) (path node : List ℕ) (V : ℕ → ℤ) : Type 0 where
  pub limits : (I : ℕ) → one_of node I ≡ true → V I ≤ℤ limit B (allowance rule s B path) I
  pub backed : (J : ℕ) → one_of path J ≡ true → one_of node J ≡ false → V J ≤ℤ backed_along s B path V J

-- by each rule, what an action backs up and the allowances of the sets on the path that follow it are within the limit of its set
abbrev pub AllowanceLaw : Type 0
AllowanceLaw = (rule : Rule) (s : Strategy) → Sound s → (B : ℕ → ℤ) → Holds s B → (path : List ℕ) → Ascends 0 (length (reply_sets s)) path
    → (J a : ℕ) → J < length (reply_sets s) → a < slice_index (reply_sets s) J → 0 < length (path_followers s path J a)
    → (through s B J a +ℤ pos (sum_over (allowance rule s B path) (path_followers s path J a))) ≤ℤ limit B (allowance rule s B path) J

-- so each rule keeps the bounds: where the values at the node are within its limits, those on the path are, and at a set that follows none, as set 0, the value is at most the bound
abbrev pub RuleLaw : Type 0
RuleLaw = (rule : Rule) (s : Strategy) → Sound s → (B : ℕ → ℤ) → Holds s B → (path node : List ℕ) → Ascends 0 (length (reply_sets s)) path
    → (V : ℕ → ℤ) → IsAlong rule s B path node V
    → (I : ℕ) → one_of path I ≡ true
    → (V I ≤ℤ limit B (allowance rule s B path) I) × (parent_of s.form (opponent s) I ≡ None → V I ≤ℤ B I) × (I ≡ 0 → V I ≤ℤ B I)

-- ---- gadgets

-- a seat that plays a table in a form
abbrev pub played : Form → (keeper grid : ℕ) → (table : List ℕ) → Strategy
played f keeper grid table = record { form = f; keeper = keeper; grid = grid; table = table }

-- the opponent comes into a form at root sets, its first ones, and these alone follow none
pub record IsEntered (f : Form) (opponent roots : ℕ) : Type 0 where
  pub form : IsForm f opponent
  pub some : 1 ≤ roots
  pub alone : FollowsRoots f opponent roots
  pub first : (i : ℕ) → i < roots → parent_of f opponent i ≡ None

-- what a gadget set is worth: the greater of the limit and the value of its root set, or the greatest that a root set's value is above its limit
abbrev pub gadget_set_value : Rule → (roots : ℕ) → (limits values : ℕ → ℤ) → ℕ → ℤ
gadget_set_value cfrd roots limits values i = int_max (limits i) (values i)
gadget_set_value reach roots limits values i = int_max (limits i) (values i)
gadget_set_value margin roots limits values i = greatest_of (map (λ k. values k -ℤ limits k) (range_with_len 0 roots))

-- the best values on a gadget: at its gadget sets these, and after them those of the subgame
abbrev pub GadgetValueLaw : Type 0
GadgetValueLaw = (rule : Rule) (keeper roots factors grid : ℕ) (limits : ℕ → ℤ) (f : Form) (table : List ℕ) → IsEntered f (other keeper) roots →
    let inner = played f keeper grid table in
    let whole = played (gadget rule (other keeper) roots factors limits f) keeper grid table in
    let further = length (gadget_sets rule roots) in
    ((i : ℕ) → i < further → best_response_value whole i ≡ gadget_set_value rule roots limits (best_response_value inner) i)
    × ((J : ℕ) → J < length (reply_sets inner) → best_response_value whole (further + J) ≡ best_response_value inner J)

-- so in an accepted game, whatever weights the keeper proposes in the subgame of a node where it decides
abbrev pub GameGadgetValueLaw : Type 0
GameGadgetValueLaw = (g : GameModel) (rule : Rule) (keeper : ℕ) (node table : List ℕ) (bounds : List ℤ) (weights : List ℕ) → game_ok g ≡ true → recall_fault g ≡ None
    → IsSeat keeper → 0 < weights_inside g keeper node →
    let inner = played (subgame_form g keeper node table) keeper (grid_of g keeper) weights in
    let whole = played (gadget_form g rule keeper node table bounds) keeper (grid_of g keeper) weights in
    let roots = length (root_sets g (other keeper) node) in
    let further = length (gadget_sets rule roots) in
    ((i : ℕ) → i < further → best_response_value whole i ≡ gadget_set_value rule roots (node_limit g rule keeper node table bounds) (best_response_value inner) i)
    × ((J : ℕ) → J < length (reply_sets inner) → best_response_value whole (further + J) ≡ best_response_value inner J)

-- in an accepted game the best values in the subgame of a node are those of the whole game, where the keeper's table has the weights in it
abbrev pub SubgameValueLaw : Type 0
SubgameValueLaw = (g : GameModel) (keeper : ℕ) (node table weights : List ℕ) → game_ok g ≡ true → recall_fault g ≡ None → IsSeat keeper
    → FitsSpan (game_actions g keeper) (span_from g keeper node) (span_to g keeper node) table weights →
    let inner = played (subgame_form g keeper node table) keeper (grid_of g keeper) weights in
    let whole = strategy_of g keeper (spliced (game_actions g keeper) (span_from g keeper node) (span_to g keeper node) table weights) in
    (J : ℕ) → J < length (reply_sets inner) → best_response_value inner J ≡ best_response_value whole (span_from g (other keeper) node + J)
