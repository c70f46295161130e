-- The view of a game's subgame by its items: what it says of the set at each place, and of each step.
use Rattle.std.proofs.Common.{◌≡◌, ℕ, ◌<◌, List, [], ◌∷◌, ◌++◌, true, false, Option, Some, None, take, length, get_or, sym, ap, ◌∙◌, subst, arith, inl, inr, ◌⊎◌, zero-add}
use Rattle.std.specs.Prelude.{ℤ, pos}
use Rattle.std.proofs.lemmas.List.{get_or-map, length-map}
use Rattle.std.proofs.lemmas.List.FromFn.{get_or-map-range_with_len, length-map-range_with_len}
use Rattle.lab_defs_text.specs.Games.{GameModel}
use Rattle.lab_defs_game.specs.Seats.{other}
use Rattle.lab_defs_game.specs.Histories.{reached}
use Rattle.lab_defs_game.specs.Sets.{Item, item_of, seen, sets, set_cmp, set_number, publics}
use Rattle.lab_defs_game.specs.Paths.{SetAction, parent}
use Rattle.lab_defs_game.specs.Nodes.{begins, PathItem, path, path_items, path_place, following, follow_at}
use Rattle.lab_defs_game.proofs.NumberLemmas.{at_number}
use Rattle.lab_defs_game.proofs.Orders.{set_total, publics-push}
use Rattle.lab_defs_game.proofs.GameLemmas.{Follows, set_cases, set_has, sets_ascending, parent_is}
use Rattle.lab_defs_value.specs.Replies.{strategy_of}
use Rattle.lab_defs_value.specs.Bounds.{at, through}
use Rattle.lab_defs_value.specs.Views.{View, PathSet, PathStep, path_set, path_step, step_items, step_number, path_set_in, path_step_in, view_of}
use Rattle.lab_rule_laws.proofs.RuleNodes.{not_begun}
use Rattle.lab_rule_laws.proofs.PathPlaces.{on_path, path_at, number_of_place, path_there, place_named}
use Rattle.lab_rule_laws.proofs.GamePaths.{parent_here, item, follow_of, item_follows, step_before, chosen, steps_many, step_item, first_at}

-- ---- parents on a path

module _ (g : GameModel) (seat : ℕ) (node : List ℕ) where
  -- the public list of a set on the path has one token more than that of the set that it follows
  pub one_more : (i : ℕ) (t : SetAction) → i < on_path g seat node → parent_here g seat node i ≡ Some t
      → (x : ℕ) × (publics (path_at g seat node i) ≡ publics (path_at g seat node (path_place g seat node t.set)) ++ x ∷ [])
  one_more i t l e = by (set_cases g seat s (path_there g seat node i l).0)
    where
      s : List Item
      s = path_at g seat node i

      before : ℕ
      before = path_place g seat node t.set

      never : ◌≡◌ {A = Option SetAction} None (Some t) → ⊥
      never q = cc

      content : (u : SetAction) → ◌≡◌ {A = Option SetAction} (Some u) (Some t) → u.set ≡ t.set
      content u q = cc

      by : (s ≡ []) ⊎ Follows g seat s → (x : ℕ) × (publics s ≡ publics (path_at g seat node before) ++ x ∷ [])
      by (inl q) = absurd (never (sym (ap (parent g seat) q) ∙ e))
      by (inr f) =
          let law = step_before g seat node i t l e in
          let u = seen g seat f.history in
          let token = item_of g seat (reached g g.root f.history) f.step in
          let number : set_number g seat u ≡ t.set = content (record { set = set_number g seat u; action = token.action }) (sym (parent_is g seat s f) ∙ e) in
          let low : before < on_path g seat node = omega (arith, law.0, l) in
          let same : path_at g seat node before ≡ u =
          sym (place_named g seat node before low) ∙ ap (λ n. get_or (sets g seat) n []) (law.1 ∙ sym number) ∙ at_number set_cmp set_total (sets g seat) u [] (sets_ascending g seat) (set_has g seat f.history f.there) in
          (token.public, ap publics f.made ∙ publics-push u token ∙ ap (λ x. publics x ++ token.public ∷ []) (sym same))

  -- so a set that another of the path follows is not at the node
  pub parent_above : (i : ℕ) (t : SetAction) → i < on_path g seat node → parent_here g seat node i ≡ Some t → publics (path_at g seat node (path_place g seat node t.set)) ≡ node → ⊥
  parent_above i t l e here =
      let more = one_more i t l e in
      clash (sym (path_there g seat node i l).1 ∙ ap (λ ns. begins ns node) (more.1 ∙ ap (λ ns. ns ++ more.0 ∷ []) here) ∙ not_begun node more.0)
    where
      clash : true ≡ false → ⊥
      clash q = cc

-- ---- a view

-- no item, no set of a path and no step: what a read past the end gives
abbrev pub no_item : PathItem
no_item = record { set = 0; follows = None }

abbrev pub no_set : PathSet
no_set = record { set = 0; bound = pos 0; follows = None }

abbrev pub no_step : PathStep
no_step = record { from = 0; action = 0; through = pos 0; count = 0 }

module _ (g : GameModel) (keeper : ℕ) (node table : List ℕ) (bounds : List ℤ) where
  -- the opponent
  abbrev pub o : ℕ
  o = other keeper

  -- how many sets are on its path, and the items of the path
  abbrev pub many : ℕ
  many = on_path g o node

  abbrev pub items : List PathItem
  items = path_items g o node

  -- the view
  abbrev pub v : View
  v = view_of g keeper node table bounds

  -- what an action backs up
  abbrev pub backs : ℕ → ℕ → ℤ
  backs = through (strategy_of g keeper table) (at bounds)

  -- there are as many items as sets, and as many sets in the view
  pub items_many : length items ≡ many
  items_many = length-map-range_with_len (item g o node) 0 many

  pub sets_many : length v.sets ≡ many
  sets_many = length-map items (path_set_in items bounds) ∙ items_many

  -- the item at a place
  pub item_at : (i : ℕ) (d : PathItem) → i < many → get_or items i d ≡ item g o node i
  item_at i d l = get_or-map-range_with_len (item g o node) 0 many i i d l (zero-add i)

  -- the set at a place of the view
  pub set_at : (i : ℕ) → i < many → path_set v i ≡ path_set_in items bounds (item g o node i)
  set_at i l = get_or-map (path_set_in items bounds) items i no_item no_set (subst (λ n. i < n) (sym items_many) l) ∙ ap (path_set_in items bounds) (item_at i no_item l)

  pub set_number_at : (i : ℕ) → i < many → (path_set v i).set ≡ number_of_place g o node i
  set_number_at i l = ap (λ (s : PathSet). s.set) (set_at i l)

  pub bound_at : (i : ℕ) → i < many → (path_set v i).bound ≡ at bounds (number_of_place g o node i)
  bound_at i l = ap (λ (s : PathSet). s.bound) (set_at i l)

  -- what a set without a parent, and one with a parent, follows in the view
  pub follows_none : (i : ℕ) → parent_here g o node i ≡ None → (path_set_in items bounds (item g o node i)).follows ≡ None
  follows_none i e = ap (λ q. (path_set_in items bounds (record { set = (item g o node i).set; follows = q })).follows) (ap (follow_at g o node i) e)

  pub follows_some : (i : ℕ) (t : SetAction) → parent_here g o node i ≡ Some t
      → (path_set_in items bounds (item g o node i)).follows ≡ Some (step_number (step_items items) (follow_of g o node i t), following g o t (take i (path g o node)))
  follows_some i t e = ap (λ q. (path_set_in items bounds (record { set = (item g o node i).set; follows = q })).follows) (item_follows g o node i t e)

  -- there are as many steps as first items
  pub view_steps : length v.steps ≡ length (chosen g o node)
  view_steps = length-map (step_items items) (path_step_in items backs) ∙ steps_many g o node

  -- the step with a number, by its first item
  pub step_at : (k : ℕ) → k < length (chosen g o node) → (t : SetAction) → parent_here g o node (get_or (chosen g o node) k 0) ≡ Some t
      → path_step v k ≡ record { from = path_place g o node t.set; action = t.action; through = backs t.set t.action; count = following g o t (path g o node) }
  step_at k l t e =
      let y = get_or (chosen g o node) k 0 in
      let before = path_place g o node t.set in
      let there = (first_at g o node k l).low in
      let law = step_before g o node y t there e in
      let low : before < many = omega (arith, law.0, there) in
      get_or-map (path_step_in items backs) (step_items items) k no_item no_step (subst (λ n. k < n) (sym (steps_many g o node)) l)
      ∙ ap (path_step_in items backs) (step_item g o node k no_item l)
      ∙ ap (λ q. path_step_in items backs (record { set = (item g o node y).set; follows = q })) (item_follows g o node y t e)
      ∙ ap (λ n. record { from = before; action = t.action; through = backs n t.action; count = following g o t (path g o node) }) (ap (λ (x : PathItem). x.set) (item_at before no_item low) ∙ law.1)
