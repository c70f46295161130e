-- The subgame of a node of an accepted game has a view, by bounds that may be kept.
use Rattle.std.proofs.Common.{◌≡◌, ℕ, zero, suc, ◌+◌, ◌-◌, ◌^◌, ◌<◌, ◌≤◌, ℤ, ◌≤ℤ◌, List, [], ◌∷◌, Bool, true, false, eqb, ◌&&◌, Option, Some, None, map, take, length, get_or, refl, sym, ap, ◌∙◌, subst, arith, inl, inr, ◌↔◌, length-append}
use Rattle.std.specs.Prelude.{slice_index, unsigned_abs}
use Rattle.std.specs.List.{All, range_with_len}
use Rattle.std.proofs.lemmas.Int.{ints}
use Rattle.std.proofs.lemmas.List.{length-map}
use Rattle.lab_math.proofs.Members.{In, in_get_or, in_map, in_from_range}
use Rattle.lab_defs_text.specs.Games.{GameModel}
use Rattle.lab_defs_game.specs.Keys.{count}
use Rattle.lab_defs_game.specs.Seats.{IsSeat, other}
use Rattle.lab_defs_game.specs.Accepted.{IsAccepted}
use Rattle.lab_defs_game.specs.Histories.{History, inner_histories}
use Rattle.lab_defs_game.specs.Sets.{sets, set_number, public_list, publics}
use Rattle.lab_defs_game.specs.Paths.{SetAction, is_taken}
use Rattle.lab_defs_game.specs.Paths as paths
use Rattle.lab_defs_game.specs.Forms.{form_of, row_along, actions_in, parent_at, parent_of, sets_of}
use Rattle.lab_defs_game.specs.Nodes.{nodes, path, follow_at, node_sets, root_sets, path_place, following, span_from}
use Rattle.lab_defs_game.proofs.NumberLemmas.{count_cong}
use Rattle.lab_defs_game.proofs.GameLemmas.{publics_seen, inner_from, set_from}
use Rattle.lab_defs_game.proofs.Legal.{history_legal}
use Rattle.lab_defs_game.proofs.TreeLaws.{node_set_law, depth_law}
use Rattle.lab_defs_game.proofs.RootSets.{some_length}
use Rattle.lab_defs_game.proofs.FormLemmas.{game_parents_at}
use Rattle.lab_defs_game.proofs.PathItems.{first_item_law}
use Rattle.lab_defs_value.specs.Parents.{IsStepBelow}
use Rattle.lab_defs_value.specs.Replies.{strategy_of, reply_sets}
use Rattle.lab_defs_value.specs.Bounds.{at, value_limit, HasBounds}
use Rattle.lab_defs_value.specs.Subgames.{span_sets, span_actions, part_at, subgame_row, subgame_ends, subgame_form}
use Rattle.lab_defs_value.specs.Views.{View, PathSet, PathStep, path_set, path_step, above, follows_at, steps_above, IsFollow, IsView, step_items, step_number, path_set_in, view_of}
use Rattle.lab_defs_value.proofs.SubgameForms.{span, subgame_form_law}
use Rattle.lab_defs_value.proofs.GameGadgets.{decides_law, follows_first}
use Rattle.lab_defs_value.proofs.GameValues.{form_sets}
use Rattle.lab_defs_value.proofs.GameStrategies.{other_seat, sound, reply_count}
use Rattle.lab_sizes.specs.Sizes.{IsInRange}
use Rattle.lab_sizes.proofs.SizeCounts.{small_law}
use Rattle.lab_sizes.proofs.SizeLimits.{bound_law}
use Rattle.lab_sizes.proofs.SizeUnits.{unit_law}
use Rattle.lab_rule_laws.specs.ViewLaws.{GameViewLaw}
use Rattle.lab_rule_laws.proofs.RuleNodes.{root_first}
use Rattle.lab_rule_laws.proofs.RuleSubgames.{span_long}
use Rattle.lab_rule_laws.proofs.PathSteps.{count_map}
use Rattle.lab_rule_laws.proofs.PathPlaces.{on_path, at_node, path_at, number_of_place, path_there, place_low, place_named, root_there, above_many, place_above}
use Rattle.lab_rule_laws.proofs.GamePaths.{taken_is, parent_here, item, follow_of, step_before, chosen, first_at, number_low, number_is, place_once}
use Rattle.lab_rule_laws.proofs.SubgameFactors.{horizon_small, decisions_small, row_inside, subgame_factors, subgame_rows}
use Rattle.lab_rule_laws.proofs.ViewItems.{parent_above, one_more, items, backs, no_set, no_step, sets_many, set_at, bound_at, follows_none, follows_some, view_steps, step_at}

-- a number in the range of bounds is small
range_small : (g : GameModel) (keeper : ℕ) (z : ℤ) → value_limit g keeper ≤ 2 ^ 64 → IsInRange g keeper z → unsigned_abs z ≤ 2 ^ 117
range_small g keeper z low h = omega (arith, ints, low, h.0, h.1)

-- what holds of each item of a list by its place holds of all
all_by_place : {X : Type 0} (P : X → Type 0) (d : X) (xs : List X) → ((i : ℕ) → i < length xs → P (get_or xs i d)) → All P xs
all_by_place P d xs h k e l = subst P (same xs k l) (h k l)
  where
    same : (xs : List _) (k : ℕ) → k < length xs → get_or xs k d ≡ get_or xs k e
    same [] k l = absurd (omega (arith, l))
    same (x ∷ xs) zero l = refl
    same (x ∷ xs) (suc k) l = same xs k (omega (arith, l))

module _ (g : GameModel) (ok : IsAccepted g) (keeper : ℕ) (is : IsSeat keeper) (node table : List ℕ) (bounds : List ℤ) (has : HasBounds g keeper table bounds) (some : 1 ≤ at_node g (other keeper) node) where
  -- the seat that replies
  abbrev seat : ℕ
  seat = other keeper

  -- the view
  abbrev view : View
  view = view_of g keeper node table bounds

  abbrev size : ℕ
  size = on_path g (other keeper) node

  -- where the last sets begin
  above_is : above view ≡ size - at_node g seat node
  above_is = ap (λ n. n - at_node g seat node) (sets_many g keeper node table bounds)

  -- ---- what the sets follow

  -- how the set at a place follows
  follow_ok : (i : ℕ) → i < size → IsFollow view i (path_set view i).follows
  follow_ok i l = subst (IsFollow view i) (sym (ap (λ (s : PathSet). s.follows) (set_at g keeper node table bounds i l))) (by (parent_here g seat node i) refl)
    where
      IsGood : Type 0
      IsGood = IsFollow view i (path_set_in (items g keeper node table bounds) bounds (item g seat node i)).follows

      by : (q : Option SetAction) → parent_here g seat node i ≡ q → IsGood
      by None e = subst (IsFollow view i) (sym (follows_none g keeper node table bounds i e)) ((first_item_law g seat node i l).0 (ap (λ q. follow_at g seat node i q) e))
      by (Some t) e =
          let number = step_number (step_items (items g keeper node table bounds)) (follow_of g seat node i t) in
          let low = number_low g seat node i t l e in
          let before = step_before g seat node i t l e in
          let step = step_at g keeper node table bounds number low.0 t low.1 in
          let from : (path_step view number).from ≡ path_place g seat node t.set = ap (λ (s : PathStep). s.from) step in
          let many : (path_step view number).count ≡ following g seat t (path g seat node) = ap (λ (s : PathStep). s.count) step in
          let off = place_above g seat node some (path_place g seat node t.set) (omega (arith, before.0, l)) (parent_above g seat node i t l e) in
          subst (IsFollow view i) (sym (follows_some g keeper node table bounds i t e)) (
            subst (λ n. number < n) (sym (view_steps g keeper node table bounds)) low.0,
            omega (arith, from, before.0),
            omega (arith, from, off, above_is),
            omega (arith, many, before.2),
            omega (arith, before.0),
          )

  -- each place among the followers of a step is that of one set
  places_ok : (k place : ℕ) → k < length view.steps → place < (path_step view k).count → count (λ (s : PathSet). follows_at k place s.follows) view.sets ≡ 1
  places_ok k place l m =
      let low : k < length (chosen g seat node) = subst (λ n. k < n) (view_steps g keeper node table bounds) l in
      let first = first_at g seat node k low in
      let u = first.step in
      let step = step_at g keeper node table bounds k low u first.parent in
      let total : (path_step view k).count ≡ following g seat u (path g seat node) = ap (λ (s : PathStep). s.count) step in
      let test = λ (s : PathSet). follows_at k place s.follows in
      let one = λ (i : ℕ). path_set_in (items g keeper node table bounds) bounds (item g seat node i) in
      count_map test (path_set_in (items g keeper node table bounds) bounds) (items g keeper node table bounds)
      ∙ count_map (λ x. test (path_set_in (items g keeper node table bounds) bounds x)) (item g seat node) (range_with_len 0 size)
      ∙ count_cong (λ i. test (one i)) (λ i. is_taken u (parent_here g seat node i) && eqb (following g seat u (take i (path g seat node))) place) (range_with_len 0 size)
      (λ i j. let below : i < size = omega (arith, (in_from_range i 0 size j).1) in by i below low u first.parent (parent_here g seat node i) refl)
      ∙ place_once g seat node u place (omega (arith, m, total))
    where
      by : (i : ℕ) → i < size → k < length (chosen g seat node) → (u : SetAction) → parent_here g seat node (get_or (chosen g seat node) k 0) ≡ Some u → (q : Option SetAction) → parent_here g seat node i ≡ q
          → follows_at k place (path_set_in (items g keeper node table bounds) bounds (item g seat node i)).follows ≡ (is_taken u (parent_here g seat node i) && eqb (following g seat u (take i (path g seat node))) place)
      by i below low u p None e =
          ap (follows_at k place) (follows_none g keeper node table bounds i e) ∙ sym (ap (λ q. is_taken u q && eqb (following g seat u (take i (path g seat node))) place) e)
      by i below low u p (Some t) e =
          let number = step_number (step_items (items g keeper node table bounds)) (follow_of g seat node i t) in
          let here = λ (t : SetAction). eqb (following g seat t (take i (path g seat node))) place in
          ap (follows_at k place) (follows_some g keeper node table bounds i t e)
          ∙ ap (λ b. b && here t) (number_is g seat node i t below e k low u p)
          ∙ same (is_taken u (Some t)) t u refl
          ∙ sym (ap (λ q. is_taken u q && here u) e)
        where
          same : (b : Bool) (t u : SetAction) → is_taken u (Some t) ≡ b → (b && eqb (following g seat t (take i (path g seat node))) place) ≡ (b && eqb (following g seat u (take i (path g seat node))) place)
          same true t u q = ap (λ (x : SetAction). eqb (following g seat x (take i (path g seat node))) place) (taken_is u t q)
          same false t u q = refl

  -- ---- steps

  -- the step of a first item is an action at a set that is there
  step_there : (i : ℕ) (t : SetAction) → i < size → parent_here g seat node i ≡ Some t
      → (t.set < length (reply_sets (strategy_of g keeper table))) × (t.action < slice_index (reply_sets (strategy_of g keeper table)) t.set)
  step_there i t l e =
      let J = number_of_place g seat node i in
      let ns = reply_sets (strategy_of g keeper table) in
      let low : J < length ns = subst (λ n. J < n) (sym (reply_count g ok keeper is)) (place_low g seat node i l) in
      let parent : parent_of (form_of g) seat J ≡ Some t =
      ap (λ ss. parent_at ss J) (form_sets g seat (other_seat keeper is)) ∙ game_parents_at g seat J (place_low g seat node i l)
      ∙ ap (paths.parent g seat) (place_named g seat node i l) ∙ e in
      let there : IsStepBelow ns J (Some t) = subst (IsStepBelow ns J) parent ((sound g ok keeper is table).parents J low) in
      (omega (arith, there.0, low), there.1)

  -- what holds of the set that a step leaves and of what it backs up
  each_step : (P : ℤ → ℤ → Type 0)
      → ((J a : ℕ) → J < length (reply_sets (strategy_of g keeper table)) → a < slice_index (reply_sets (strategy_of g keeper table)) J → P (backs g keeper node table bounds J a) (at bounds J))
      → (k : ℕ) → k < length view.steps → P (path_step view k).through (path_set view (path_step view k).from).bound
  each_step P h k l =
      let low : k < length (chosen g seat node) = subst (λ n. k < n) (view_steps g keeper node table bounds) l in
      let first = first_at g seat node k low in
      let t = first.step in
      let y = get_or (chosen g seat node) k 0 in
      let law = step_before g seat node y t first.low first.parent in
      let below : path_place g seat node t.set < size = omega (arith, law.0, first.low) in
      let there = step_there y t first.low first.parent in
      subst (λ (s : PathStep). P s.through (path_set view s.from).bound) (sym (step_at g keeper node table bounds k low t first.parent))
      (subst (λ z. P (backs g keeper node table bounds t.set t.action) z) (sym (bound_at g keeper node table bounds (path_place g seat node t.set) below ∙ ap (at bounds) law.1)) (h t.set t.action there.0 there.1))

  -- no step backs up more than the bound
  through_ok : (k : ℕ) → k < length view.steps → (path_step view k).through ≤ℤ (path_set view (path_step view k).from).bound
  through_ok k l = each_step (λ x y. x ≤ℤ y) has.holding k l

  -- ---- sizes

  -- how the bounds and what is backed up lie
  limit_small : value_limit g keeper ≤ 2 ^ 64
  limit_small = ((unit_law g ok).1 keeper is).1

  bound_small : (i : ℕ) → i < size → unsigned_abs (path_set view i).bound ≤ 2 ^ 117
  bound_small i l =
      subst (λ z. unsigned_abs z ≤ 2 ^ 117) (sym (bound_at g keeper node table bounds i l))
      (range_small g keeper (at bounds (number_of_place g seat node i)) limit_small ((bound_law g ok keeper is table bounds has).0 (number_of_place g seat node i) (place_low g seat node i l)))

  backed_small : (k : ℕ) → k < length view.steps → unsigned_abs (path_step view k).through ≤ 2 ^ 117
  backed_small k l =
      each_step (λ x y. unsigned_abs x ≤ 2 ^ 117)
      (λ J a j la. range_small g keeper (backs g keeper node table bounds J a) limit_small
      ((bound_law g ok keeper is table bounds has).1 J a (subst (λ n. J < n) (reply_count g ok keeper is) j) (subst (λ ss. a < slice_index (map (λ s. s.actions) ss) J) (form_sets g seat (other_seat keeper is)) la)))
      k l

  -- a set on the path has at most as many steps above it as its public list has tokens
  steps_few : (m i : ℕ) → i < size → steps_above view m i ≤ length (publics (path_at g seat node i))
  steps_few zero i l = omega arith
  steps_few (suc m) i l = by (parent_here g seat node i) refl (λ j low. steps_few m j low)
    where
      IsFew : Option (ℕ × ℕ) → Type 0
      IsFew q = elim q [ None ↦ 0 | Some f ↦ suc (steps_above view m (path_step view f.0).from) ] ≤ length (publics (path_at g seat node i))

      set_is : (path_set view i).follows ≡ (path_set_in (items g keeper node table bounds) bounds (item g seat node i)).follows
      set_is = ap (λ (s : PathSet). s.follows) (set_at g keeper node table bounds i l)

      by : (q : Option SetAction) → parent_here g seat node i ≡ q → ((j : ℕ) → j < size → steps_above view m j ≤ length (publics (path_at g seat node j))) → IsFew (path_set view i).follows
      by None e rest = subst IsFew (sym (set_is ∙ follows_none g keeper node table bounds i e)) (omega arith)
      by (Some t) e rest =
          let number = step_number (step_items (items g keeper node table bounds)) (follow_of g seat node i t) in
          let low = number_low g seat node i t l e in
          let before = step_before g seat node i t l e in
          let place = path_place g seat node t.set in
          let from : (path_step view number).from ≡ place = ap (λ (s : PathStep). s.from) (step_at g keeper node table bounds number low.0 t low.1) in
          let few = rest place (omega (arith, before.0, l)) in
          let more = one_more g seat node i t l e in
          let long : length (publics (path_at g seat node i)) ≡ length (publics (path_at g seat node place)) + 1 = ap length more.1 ∙ length-append (publics (path_at g seat node place)) (more.0 ∷ []) in
          subst IsFew (sym (set_is ∙ follows_some g keeper node table bounds i t e))
          (subst (λ n. suc (steps_above view m n) ≤ length (publics (path_at g seat node i))) (sym from) (omega (arith, few, long)))

  -- and that has at most 32
  publics_few : (i : ℕ) → i < size → length (publics (path_at g seat node i)) ≤ 32
  publics_few i l =
      let s = path_at g seat node i in
      let h = set_from g seat s (path_there g seat node i l).0 in
      let short = (history_legal g h.0 (inner_from g h.0 h.1)).1 in
      let public : length (publics s) ≡ length h.0 = ap (λ s. length (publics s)) (sym h.2) ∙ ap length (publics_seen g seat g.root h.0) ∙ depth_law g h.0 in
      let small = horizon_small g ok in
      omega (arith, short, public, small)

  -- ---- rows

  -- a history at the node that is not terminal
  history_at : (h : History) × In h (inner_histories g) × (public_list g h ≡ node)
  history_at =
      let J = span_from g seat node in
      let low : J < length (sets g seat) = (let there = root_there g seat node 0 some in omega (arith, there.0)) in
      let s = get_or (sets g seat) J [] in
      let h = set_from g seat s (in_get_or (sets g seat) J [] low) in
      (h.0, h.1, sym (publics_seen g seat g.root h.0) ∙ ap publics h.2 ∙ (node_set_law g seat node J low).1 (omega arith, omega (arith, some)))

  -- so a row of the subgame
  pub row_there : (h : History) × In h (subgame_ends g node)
  row_there = let k = history_at in row_inside g ok node k.0 k.1 k.2

  -- ---- the form

  -- the opponent's sets
  form_span : sets_of (subgame_form g keeper node table) seat ≡ span_sets (span g seat node)
  form_span = by is
    where
      Same : ℕ → Type 0
      Same k = sets_of (subgame_form g k node table) (other k) ≡ span_sets (span g (other k) node)

      by : IsSeat keeper → Same keeper
      by (inl e) = subst Same (sym e) refl
      by (inr e) = subst Same (sym e) refl

  -- the root sets are there
  roots_there : at_node g seat node ≤ length (span_actions (span g seat node))
  roots_there =
      let last = root_there g seat node (at_node g seat node - 1) (omega (arith, some)) in
      let long = span_long g seat node in
      omega (arith, last.0, last.1, long, some)

  -- and they alone follow none
  roots_alone : (I : ℕ) → I < length (span_actions (span g seat node)) → (parent_at (span_sets (span g seat node)) I ≡ None) ↔ (I < at_node g seat node)
  roots_alone I l =
      let many : length (root_sets g seat node) ≡ at_node g seat node = length-map (node_sets g seat node) (set_number g seat) in
      (λ e. let low = follows_first g seat node I l e in omega (arith, low, many), λ low. root_first g seat node I (omega (arith, low, many)))

  -- the view holds
  pub view_holds : IsView view
  view_holds =
      let forms = subgame_form_law g keeper node table ok.good ok.recalls in
      let many = sets_many g keeper node table bounds in
      let parts = above_many g seat node some in
      let row = row_there in
      let most = subgame_factors g ok node table keeper is row.0 row.1 in
      let few = decisions_small g ok seat in
      record {
        seat = is;
        form1 = forms.0;
        form2 = forms.1;
        small = (small_law g ok).1 keeper is node table has.sums;
        some = some;
        roots = omega (arith, many, parts);
        there = subst (λ ss. at_node g seat node ≤ length (actions_in ss)) (sym form_span) roots_there;
        first = subst (λ ss. (I : ℕ) → I < length (actions_in ss) → (parent_at ss I ≡ None) ↔ (I < at_node g seat node)) (sym form_span) roots_alone;
        follows = λ i l. follow_ok i (omega (arith, l, many));
        places = places_ok;
        through = all_by_place (λ (e : PathStep). e.through ≤ℤ (path_set view e.from).bound) no_step view.steps through_ok;
        bounds = all_by_place (λ (s : PathSet). unsigned_abs s.bound ≤ 2 ^ 117) no_set view.sets (λ i l. bound_small i (omega (arith, l, many)));
        throughs = all_by_place (λ (e : PathStep). unsigned_abs e.through ≤ 2 ^ 117) no_step view.steps backed_small;
        depth = λ i l.
            let low : i < size = omega (arith, l, many) in
            let steps = steps_few (length view.sets) i low in
            let tokens = publics_few i low in
            omega (arith, steps, tokens);
        row = some_length view.form.rows (subgame_row (part_at g keeper node table) (row_along g row.0)) (in_map (λ h. subgame_row (part_at g keeper node table) (row_along g h)) (subgame_ends g node) row.0 row.1);
        factors = subgame_rows g ok node table keeper is row.0 row.1;
        decisions = omega (arith, most, few);
      }

-- the law of the views of a game
pub game_view_law : GameViewLaw
game_view_law g ok keeper is n l table bounds has some =
    let node = get_or (nodes g) n [] in
    view_holds g ok keeper is node table bounds has (decides_law g keeper (other keeper) node some)
