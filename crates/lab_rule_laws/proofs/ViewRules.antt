-- What a rule makes of the view of a game is what the definitions say of the game.
use Rattle.std.proofs.Common.{◌≡◌, ℕ, zero, suc, ◌+◌, ◌-◌, ◌<◌, ◌≤◌, ℤ, pos, ◌+ℤ◌, ◌-ℤ◌, List, [], ◌++◌, Bool, Option, Some, None, map, filter, take, length, get_or, refl, sym, ap, ◌∙◌, subst, arith}
use Rattle.std.specs.Prelude.{slice_index, nat_lt}
use Rattle.std.specs.List.{range_with_len}
use Rattle.std.proofs.lemmas.List.{length-map, take-map}
use Rattle.std.proofs.lemmas.List.FromFn.{get_or-map-range_with_len, get_or-range_with_len}
use Rattle.lab_math.proofs.Members.{In}
use Rattle.lab_math.proofs.Ranges.{map_range_same}
use Rattle.lab_defs_text.specs.Games.{GameModel}
use Rattle.lab_defs_game.specs.Keys.{count}
use Rattle.lab_defs_game.specs.Seats.{IsSeat, other}
use Rattle.lab_defs_game.specs.Accepted.{IsAccepted}
use Rattle.lab_defs_game.specs.Sets.{Item, sets, set_cmp, set_number, most_decisions}
use Rattle.lab_defs_game.specs.Paths.{SetAction, is_taken, parent}
use Rattle.lab_defs_game.specs.Forms.{Form, form_of, parent_at, parent_of, path_of}
use Rattle.lab_defs_game.specs.Nodes.{nodes, PathItem, path, path_sets, node_sets, root_sets, path_place, following, span_from}
use Rattle.lab_defs_game.proofs.NumberLemmas.{length-filter, count_cong, at_number, number_below}
use Rattle.lab_defs_game.proofs.Orders.{set_total}
use Rattle.lab_defs_game.proofs.GameLemmas.{sets_ascending}
use Rattle.lab_defs_game.proofs.FormLemmas.{game_parents_at}
use Rattle.lab_defs_game.proofs.SetNumbers.{root_sets_between}
use Rattle.lab_defs_game.proofs.Ways.{path_has}
use Rattle.lab_defs_value.specs.Rounding.{share_size, even_part}
use Rattle.lab_defs_value.specs.Replies.{Strategy, strategy_of, factors_in}
use Rattle.lab_defs_value.specs.Bounds.{at, HasBounds}
use Rattle.lab_defs_value.specs.Allowances.{Rule, cfrd, reach, margin, path_followers, shared, allowance}
use Rattle.lab_defs_value.specs.Passes.{limit}
use Rattle.lab_defs_value.specs.Subgames.{subgame_form}
use Rattle.lab_defs_value.specs.Gadgets.{gadget_sets, entered_path, with_path, terminate_row, gadget, node_limit, gadget_form}
use Rattle.lab_defs_value.specs.Views.{View, PathSet, PathStep, path_set, above, step_items, step_number, step_share, view_allowance, root_allowances, root_limit, view_gadget, path_set_in, view_of}
use Rattle.lab_defs_value.proofs.Pools.{path_law, reach_law}
use Rattle.lab_defs_value.proofs.GadgetSets.{map_both}
use Rattle.lab_defs_value.proofs.GameGadgets.{decides_law}
use Rattle.lab_defs_value.proofs.GameValues.{form_sets}
use Rattle.lab_defs_value.proofs.GameStrategies.{other_seat, sound, reply_count}
use Rattle.lab_rule_laws.specs.ViewLaws.{ViewRuleLaw}
use Rattle.lab_rule_laws.proofs.PathSteps.{count_map, passed_below, count_taken, map_places}
use Rattle.lab_rule_laws.proofs.PathPlaces.{on_path, at_node, number_of_place, place_low, place_named, place_listed, above_many, root_place}
use Rattle.lab_rule_laws.proofs.GamePaths.{parent_here, item, follow_of, step_before, number_low}
use Rattle.lab_rule_laws.proofs.SubgameFactors.{subgame_factors}
use Rattle.lab_rule_laws.proofs.ViewShares.{reach_is}
use Rattle.lab_rule_laws.proofs.ViewItems.{items, backs, sets_many, set_at, set_number_at, bound_at, follows_none, follows_some, step_at}
use Rattle.lab_rule_laws.proofs.GameViews.{view_holds, row_there}

-- a gadget looks at the limits of its root sets alone
gadget_cong : (rule : Rule) (opponent roots factors : ℕ) (first second : ℕ → ℤ) (f : Form) → ((i : ℕ) → i < roots → first i ≡ second i) → gadget rule opponent roots factors first f ≡ gadget rule opponent roots factors second f
gadget_cong rule opponent roots factors first second f same =
    let rows = map (λ z. with_path opponent (entered_path rule (length (gadget_sets rule roots)) (path_of z opponent)) z) f.rows in
    ap (λ more. record { sets1 = (gadget rule opponent roots factors first f).sets1; sets2 = (gadget rule opponent roots factors first f).sets2; rows = rows ++ more })
    (map_range_same (λ i. terminate_row rule opponent factors i (first i)) (λ i. terminate_row rule opponent factors i (second i)) 0 0 roots
    (λ k l. ap (terminate_row rule opponent factors (0 + k)) (same (0 + k) (omega (arith, l)))))

module _ (g : GameModel) (ok : IsAccepted g) (keeper : ℕ) (is : IsSeat keeper) (node table : List ℕ) (bounds : List ℤ) (has : HasBounds g keeper table bounds) (some : 1 ≤ at_node g (other keeper) node) where
  -- the seat that replies, and the strategy
  abbrev seat : ℕ
  seat = other keeper

  abbrev s : Strategy
  s = strategy_of g keeper table

  -- the view
  abbrev view : View
  view = view_of g keeper node table bounds

  abbrev size : ℕ
  size = on_path g (other keeper) node

  -- the path by numbers
  abbrev numbers : List ℕ
  numbers = path_sets g (other keeper) node

  -- ---- the sets of the path

  -- those of the view have the numbers of the path
  pub sets_are : map (λ (s : PathSet). s.set) view.sets ≡ path_sets g seat node
  sets_are =
      map_both (λ (s : PathSet). s.set) (path_set_in (items g keeper node table bounds) bounds) (λ (x : PathItem). x.set) (items g keeper node table bounds) (λ x. refl)
      ∙ map_both (λ (x : PathItem). x.set) (item g seat node) (number_of_place g seat node) (range_with_len 0 size) (λ i. refl)
      ∙ map_places (set_number g seat) [] (path g seat node)

  -- the parent of a set by its number
  parent_number : (u : List Item) → In u (sets g seat) → parent_of (form_of g) seat (set_number g seat u) ≡ parent g seat u
  parent_number u i =
      ap (λ ss. parent_at ss (set_number g seat u)) (form_sets g seat (other_seat keeper is))
      ∙ game_parents_at g seat (set_number g seat u) (number_below set_cmp set_total (sets g seat) u (sets_ascending g seat) i)
      ∙ ap (parent g seat) (at_number set_cmp set_total (sets g seat) u [] (sets_ascending g seat) i)

  -- whether a set follows a step, by its number and by what it is
  abbrev by_number : SetAction → ℕ → Bool
  by_number t I = is_taken t (parent_of (form_of g) (other keeper) I)

  abbrev by_set : SetAction → List Item → Bool
  by_set t u = is_taken t (parent g (other keeper) u)

  number_agrees : (t : SetAction) (u : List Item) → In u (path g seat node) → by_number t (set_number g seat u) ≡ by_set t u
  number_agrees t u i = ap (is_taken t) (parent_number u (path_has g seat node u i).0)

  -- as many sets follow a step
  total_same : (t : SetAction) → length (path_followers s numbers t.set t.action) ≡ following g seat t (path g seat node)
  total_same t =
      length-filter (by_number t) numbers ∙ count_map (by_number t) (set_number g seat) (path g seat node)
      ∙ count_cong (λ u. by_number t (set_number g seat u)) (by_set t) (path g seat node) (number_agrees t) ∙ sym (length-filter (by_set t) (path g seat node))

  -- and as many before a set
  place_same : (i : ℕ) (t : SetAction) → i < size → count (λ K. nat_lt K (number_of_place g seat node i)) (path_followers s numbers t.set t.action) ≡ following g seat t (take i (path g seat node))
  place_same i t l =
      let ps = path g seat node in
      ap (λ I. count (λ K. nat_lt K I) (filter (by_number t) numbers)) (sym (place_listed g seat node i l))
      ∙ passed_below (by_number t) 0 (length (sets g seat)) numbers (path_law g seat node) i (subst (λ n. i < n) (sym (length-map ps (set_number g seat))) l)
      ∙ ap (count (by_number t)) (take-map (set_number g seat) i ps)
      ∙ count_map (by_number t) (set_number g seat) (take i ps)
      ∙ count_taken (λ u. by_number t (set_number g seat u)) (by_set t) ps i (number_agrees t)
      ∙ sym (length-filter (by_set t) (take i ps))

  -- ---- allowances

  -- the allowance by reach in the game, by what the set at a place follows
  game_reach : (i : ℕ) → i < size → allowance reach s (at bounds) numbers (number_of_place g seat node i)
      ≡ shared s (at bounds) numbers (allowance reach s (at bounds) numbers) (number_of_place g seat node i) (parent_here g seat node i)
  game_reach i l =
      let I = number_of_place g seat node i in
      let low : I < length (sets g seat) = place_low g seat node i l in
      reach_law s (sound g ok keeper is table) (at bounds) numbers I (subst (λ n. I < n) (sym (reply_count g ok keeper is)) low)
      ∙ ap (shared s (at bounds) numbers (allowance reach s (at bounds) numbers) I)
      (ap (λ ss. parent_at ss I) (form_sets g seat (other_seat keeper is)) ∙ game_parents_at g seat I low ∙ ap (parent g seat) (place_named g seat node i l))

  -- the allowance by reach on the view is that of the game
  reach_same : (m i : ℕ) → i < m → i < size → view_allowance reach view i ≡ allowance reach s (at bounds) numbers (number_of_place g seat node i)
  reach_same zero i less l = absurd (omega (arith, less))
  reach_same (suc m) i less l = by (parent_here g seat node i) refl (λ j low there. reach_same m j (omega (arith, low, less)) there)
    where
      allow : ℕ → ℕ
      allow = view_allowance reach view

      game_allow : ℕ → ℕ
      game_allow = allowance reach s (at bounds) numbers

      set_is : (path_set view i).follows ≡ (path_set_in (items g keeper node table bounds) bounds (item g seat node i)).follows
      set_is = ap (λ (s : PathSet). s.follows) (set_at g keeper node table bounds i l)

      own : view_allowance reach view i ≡ step_share view (view_allowance reach view) (path_set view i).follows
      own = reach_is view (view_holds g ok keeper is node table bounds has some) i (subst (λ n. i < n) (sym (sets_many g keeper node table bounds)) l)

      by : (q : Option SetAction) → parent_here g seat node i ≡ q
          → ((j : ℕ) → j < i → j < size → view_allowance reach view j ≡ allowance reach s (at bounds) numbers (number_of_place g seat node j))
          → view_allowance reach view i ≡ allowance reach s (at bounds) numbers (number_of_place g seat node i)
      by None e rest =
          own ∙ ap (step_share view (view_allowance reach view)) (set_is ∙ follows_none g keeper node table bounds i e)
          ∙ sym (game_reach i l ∙ ap (shared s (at bounds) numbers (allowance reach s (at bounds) numbers) (number_of_place g seat node i)) e)
      by (Some t) e rest =
          let number = step_number (step_items (items g keeper node table bounds)) (follow_of g seat node i t) in
          let low = number_low g seat node i t l e in
          let before = step_before g seat node i t l e in
          let place = path_place g seat node t.set in
          let there : place < size = omega (arith, before.0, l) in
          let at_step = step_at g keeper node table bounds number low.0 t low.1 in
          let Q = backs g keeper node table bounds t.set t.action in
          let total = following g seat t (path g seat node) in
          let here = following g seat t (take i (path g seat node)) in
          let G = allowance reach s (at bounds) numbers in
          own ∙ ap (step_share view (view_allowance reach view)) (set_is ∙ follows_some g keeper node table bounds i t e)
          ∙ ap (λ (x : PathStep). even_part (share_size (pos (view_allowance reach view x.from) +ℤ ((path_set view x.from).bound -ℤ x.through))) x.count here) at_step
          ∙ ap (λ n. even_part (share_size (pos n +ℤ ((path_set view place).bound -ℤ Q))) total here) (rest place before.0 there ∙ ap G before.1)
          ∙ ap (λ z. even_part (share_size (pos (G t.set) +ℤ (z -ℤ Q))) total here) (bound_at g keeper node table bounds place there ∙ ap (at bounds) before.1)
          ∙ ap (λ n. even_part (share_size (pos (G t.set) +ℤ (at bounds t.set -ℤ Q))) n here) (sym (total_same t))
          ∙ ap (even_part (share_size (pos (G t.set) +ℤ (at bounds t.set -ℤ Q))) (length (path_followers s numbers t.set t.action))) (sym (place_same i t l))
          ∙ sym (game_reach i l ∙ ap (shared s (at bounds) numbers G (number_of_place g seat node i)) e)

  -- so by each rule
  pub allowance_same : (rule : Rule) (i : ℕ) → i < size → view_allowance rule view i ≡ allowance rule s (at bounds) numbers (number_of_place g seat node i)
  allowance_same cfrd i l = refl
  allowance_same margin i l = refl
  allowance_same reach i l = reach_same (suc i) i (omega arith) l

  -- ---- limits and gadgets

  -- the limit of a root set
  pub limit_same : (rule : Rule) (i : ℕ) → i < at_node g seat node → root_limit view (root_allowances rule view) i ≡ node_limit g rule keeper node table bounds i
  limit_same rule i l =
      let p : ℕ = above view + i in
      let many = sets_many g keeper node table bounds in
      let parts = above_many g seat node some in
      let low : p < size = omega (arith, l, many, parts) in
      let first : above view ≡ size - at_node g seat node = ap (λ n. n - at_node g seat node) many in
      let allow = allowance rule s (at bounds) numbers in
      let number : number_of_place g seat node p ≡ slice_index (root_sets g seat node) i =
      ap (λ n. number_of_place g seat node (n + i)) first ∙ root_place g seat node some i l
      ∙ sym (ap (λ ns. slice_index ns i) (root_sets_between g seat node) ∙ get_or-range_with_len (span_from g seat node) (at_node g seat node) i 0 l) in
      ap (λ n. (path_set view p).bound +ℤ pos n) (get_or-map-range_with_len (λ i. view_allowance rule view (above view + i)) 0 (at_node g seat node) i i 0 l (omega arith) ∙ allowance_same rule p low)
      ∙ ap (λ z. z +ℤ pos (allow (number_of_place g seat node p))) (bound_at g keeper node table bounds p low)
      ∙ ap (limit (at bounds) allow) number

  -- and the gadget
  pub gadget_same : (rule : Rule) → view_gadget rule view (root_allowances rule view) ≡ gadget_form g rule keeper node table bounds
  gadget_same rule =
      let f = subgame_form g keeper node table in
      let row = row_there g ok keeper is node table bounds has some in
      let roots : length (root_sets g seat node) ≡ at_node g seat node = length-map (node_sets g seat node) (set_number g seat) in
      gadget_cong rule seat (at_node g seat node) (factors_in f seat) (root_limit view (root_allowances rule view)) (node_limit g rule keeper node table bounds) f (limit_same rule)
      ∙ ap (λ n. gadget rule seat (at_node g seat node) n (node_limit g rule keeper node table bounds) f) (subgame_factors g ok node table keeper is row.0 row.1)
      ∙ ap (λ n. gadget rule seat n (most_decisions g seat) (node_limit g rule keeper node table bounds) f) (sym roots)

-- the law of rules on the views of a game
pub view_rule_law : ViewRuleLaw
view_rule_law g ok keeper is n l table bounds has decides rule =
    let node = get_or (nodes g) n [] in
    let seat = other keeper in
    let some = decides_law g keeper seat node decides in
    let view = view_of g keeper node table bounds in
    let many = sets_many g keeper node table bounds in
    let allow = allowance rule (strategy_of g keeper table) (at bounds) (path_sets g seat node) in (
      sets_are g ok keeper is node table bounds has some,
      λ i l. let low : i < on_path g seat node = omega (arith, l, many) in
          allowance_same g ok keeper is node table bounds has some rule i low ∙ ap allow (sym (set_number_at g keeper node table bounds i low)),
      limit_same g ok keeper is node table bounds has some rule,
      gadget_same g ok keeper is node table bounds has some rule,
    )
