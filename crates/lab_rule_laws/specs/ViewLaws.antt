-- Laws of what a rule is told: it keeps the bounds, and what it is told of a game is what the definitions say of it.
use Rattle.std.specs.Prelude.{◌≡◌, ℕ, ◌+◌, ◌*◌, ◌^◌, ◌<◌, ◌≤◌, ℤ, ◌≤ℤ◌, List, [], length, map, All, slice_index, slice_index_or}
use Rattle.lab_defs_text.specs.Games.{GameModel}
use Rattle.lab_defs_game.specs.Seats.{IsSeat, other}
use Rattle.lab_defs_game.specs.Nodes.{nodes, path_sets, root_sets}
use Rattle.lab_defs_game.specs.Forms.{sets_of, actions_of}
use Rattle.lab_defs_game.specs.Accepted.{IsAccepted}
use Rattle.lab_defs_value.specs.Tables.{first_weight}
use Rattle.lab_defs_value.specs.Replies.{strategy_of}
use Rattle.lab_defs_value.specs.Bounds.{at, HasBounds}
use Rattle.lab_defs_value.specs.Allowances.{Rule, allowance}
use Rattle.lab_defs_value.specs.Passes.{limit}
use Rattle.lab_defs_value.specs.Subgames.{weights_inside}
use Rattle.lab_defs_value.specs.Gadgets.{gadget_form}
use Rattle.lab_defs_value.specs.Views.{View, IsView, PathSet, path_set, view_allowance, root_allowances, root_limit, view_gadget, backed_up_to, view_of}

-- no rule allows a root set more than 2^123
abbrev pub ViewAllowanceLaw : Type 0
ViewAllowanceLaw = (rule : Rule) (v : View) → IsView v → All (λ n. n ≤ 2 ^ 123) (root_allowances rule v)

-- each rule keeps the bounds: where the values of the root sets are within bound and allowance, the value that is backed up to the first set of the path is within its bound
abbrev pub ViewLaw : Type 0
ViewLaw = (rule : Rule) (v : View) → IsView v → (W : ℕ → ℤ)
    → ((i : ℕ) → i < v.roots → W i ≤ℤ root_limit v (root_allowances rule v) i)
    → backed_up_to v W 0 ≤ℤ (path_set v 0).bound

-- the gadget on a view has the keeper's sets as they are, one more set for each root set and one more at most, one more row for each root set, and two more weights of the opponent for each root set at most
abbrev pub ViewGadgetLaw : Type 0
ViewGadgetLaw = (rule : Rule) (v : View) → IsView v → (allowances : List ℕ) →
    let h = view_gadget rule v allowances in
    let o = other v.keeper in
    (sets_of h v.keeper ≡ sets_of v.form v.keeper)
    × (length (sets_of h o) ≤ length (sets_of v.form o) + v.roots + 1)
    × (length h.rows ≡ length v.form.rows + v.roots)
    × (first_weight (actions_of h o) (length (actions_of h o)) ≤ first_weight (actions_of v.form o) (length (actions_of v.form o)) + 2 * v.roots)

-- in an accepted game the subgame of a node where the keeper decides has a view, by bounds that may be kept
abbrev pub GameViewLaw : Type 0
GameViewLaw = (g : GameModel) → IsAccepted g → (keeper : ℕ) → IsSeat keeper → (n : ℕ) → n < length (nodes g) → (table : List ℕ) (bounds : List ℤ) → HasBounds g keeper table bounds →
    let node = slice_index_or (nodes g) n [] in
    0 < weights_inside g keeper node → IsView (view_of g keeper node table bounds)

-- and what a rule makes of it is what the definitions say of the game: the sets of the path with their allowances, the limits of the root sets, and the gadget
abbrev pub ViewRuleLaw : Type 0
ViewRuleLaw = (g : GameModel) → IsAccepted g → (keeper : ℕ) → IsSeat keeper → (n : ℕ) → n < length (nodes g) → (table : List ℕ) (bounds : List ℤ) → HasBounds g keeper table bounds →
    let node = slice_index_or (nodes g) n [] in
    let v = view_of g keeper node table bounds in
    let o = other keeper in
    0 < weights_inside g keeper node → (rule : Rule) →
    let allow = allowance rule (strategy_of g keeper table) (at bounds) (path_sets g o node) in
    (map (λ (s : PathSet). s.set) v.sets ≡ path_sets g o node)
    × ((i : ℕ) → i < length v.sets → view_allowance rule v i ≡ allow (path_set v i).set)
    × ((i : ℕ) → i < v.roots → root_limit v (root_allowances rule v) i ≡ limit (at bounds) allow (slice_index (root_sets g o node) i))
    × (view_gadget rule v (root_allowances rule v) ≡ gadget_form g rule keeper node table bounds)
