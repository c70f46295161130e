-- How many rows there are, and how many actions at each set.
use Rattle.std.proofs.Common.{◌≡◌, ℕ, suc, ◌+◌, ◌*◌, ◌-◌, ◌^◌, ◌<◌, ◌≤◌, List, [], ◌∷◌, ◌++◌, Bool, true, false, cond, eqb, length, map, flat_map, filter, drop, replicate, None, refl, sym, ap, ◌∙◌, subst, arith, inl, inr, length-append, mul-le-mul, le_of_eq}
use Rattle.std.specs.Prelude.{ℤ, nat_lt}
use Rattle.std.specs.Ordering.{is_eq}
use Rattle.std.specs.List.{All, AllByRecursion, list_all, range_with_len}
use Rattle.std.proofs.lemmas.Bool.{and_parts, ltb-true}
use Rattle.std.proofs.lemmas.List.{length-map}
use Rattle.std.proofs.lemmas.List.Elements.{recursion_from_All, All-from_recursion, All-append, All-replicate, All-take, All-drop}
use Rattle.std.proofs.lemmas.List.FromFn.{length-range_with_len, length-map-range_with_len}
use Rattle.lab_math.proofs.Members.{In, in_get_or, in_range, in_from_range, in_from_map, all_from_in}
use Rattle.lab_defs_text.specs.Games.{GameModel, Place, a_world, an_end, World}
use Rattle.lab_defs_text.specs.Texts.{is_world, place_ok, row_ok, outcome_ok}
use Rattle.lab_defs_text.proofs.GameLemmas.{world_fine}
use Rattle.lab_defs_game.specs.Histories.{History, Step, actions_at, row_of, steps_of, reached, longer, with_longer, histories, inner_histories, is_terminal, place_of}
use Rattle.lab_defs_game.specs.Sets.{Item, seen, sets, set_cmp, set_number, set_actions, first_actions, public_list, publics, most_decisions}
use Rattle.lab_defs_game.specs.Nodes.{begins, root_sets, node_sets, ends_by_nodes}
use Rattle.lab_defs_game.specs.Keys.{list_cmp}
use Rattle.lab_defs_game.specs.Forms.{FormSet, Row, Form, form_of, row_along, game_set, game_sets, game_actions, actions_in, actions_of, path_of}
use Rattle.lab_defs_game.proofs.KeyLemmas.{length_merged}
use Rattle.lab_defs_game.proofs.HistoryCounts.{level, with_longer_level, history_count_law}
use Rattle.lab_defs_game.proofs.Legal.{step_at, history_legal}
use Rattle.lab_defs_game.proofs.RecallLemmas.{not_both, inner_world}
use Rattle.lab_defs_game.proofs.FormLemmas.{in_level, ends_within, world_ok, some_action}
use Rattle.lab_defs_game.proofs.UnfoldLaws.{accepted_law}
use Rattle.lab_defs_game.specs.Seats.{IsSeat, grid_of, other}
use Rattle.lab_defs_value.specs.Allowances.{Rule, cfrd, reach, margin}
use Rattle.lab_defs_value.specs.Subgames.{span_at, span_sets, span_actions, subgame_row, part_at, subgame_ends, subgame_form}
use Rattle.lab_defs_value.specs.Gadgets.{gadget_sets, sets_entered, entered_path, with_path, terminate_row, node_limit, gadget_form}
use Rattle.lab_defs_value.proofs.Chains.{AreBelow, sets_length}
use Rattle.lab_defs_value.proofs.Entries.{actions_entered}
use Rattle.lab_defs_value.proofs.SubgameRows.{span_actions_are}
use Rattle.lab_defs_value.specs.Parents.{IsForm}
use Rattle.lab_defs_value.proofs.SubgameForms.{subgame_form_law}
use Rattle.lab_defs_value.proofs.GameGadgets.{follows_first}
use Rattle.lab_defs_value.proofs.GameValues.{form_sets, form_for}
use Rattle.lab_defs_game.proofs.Groups.{ends_length}
use Rattle.lab_math.proofs.Elements.{all_map}
use Rattle.lab_defs_game.specs.Accepted.{IsAccepted}
use Rattle.lab_defs_game.proofs.ChanceSizes.{tested}
use Rattle.lab_defs_game.proofs.GridSizes.{some_grid}
use Rattle.lab_sizes.proofs.SizeGadgets.{grid_most, row_law}
use Rattle.lab_sizes.specs.Sizes.{SmallLaw}
use Rattle.lab_defs_value.specs.Smallness.{HasRows, HasReach}
use Rattle.lab_sizes.proofs.SizeWays.{game_reach, span_reach, entered_reach}

-- what passes a test is no more
filter_long : {X : Type 0} (p : X → Bool) (xs : List X) → length (filter p xs) ≤ length xs
filter_long p [] = omega arith
filter_long p (x ∷ xs) = at (p x) (filter_long p xs)
  where
    at : (b : Bool) → length (filter p xs) ≤ length xs → length (cond b (x ∷ filter p xs) (filter p xs)) ≤ suc (length xs)
    at true rest = omega (arith, rest)
    at false rest = omega (arith, rest)

module _ (g : GameModel) (ok : IsAccepted g) where
  -- an accepted game has at most 2^16 histories
  few_histories : length (histories g) ≤ 65536
  few_histories = subst (λ n. n ≤ 65536) (sym (history_count_law g g.horizon)) (((accepted_law g).0 ok.unfolds).0 g.horizon (omega arith))

  -- no more of them are terminal
  few_ends : length (ends_by_nodes g) ≤ 65536
  few_ends = let le = filter_long (is_terminal g) (histories g) in omega (arith, le, ends_length g, few_histories)

  -- a seat has no more sets
  few_sets : (seat : ℕ) → length (sets g seat) ≤ 65536
  few_sets seat =
      let most = length_merged set_cmp (map (seen g seat) (inner_histories g)) [] in
      let long = length-map (inner_histories g) (seen g seat) in
      let le = filter_long (λ h. is_world (place_of g h)) (histories g) in
      omega (arith, most, long, le, few_histories)

  -- and no more at a node
  few_roots : (seat : ℕ) (node : List ℕ) → length (root_sets g seat node) ≤ 65536
  few_roots seat node =
      let le = filter_long (λ s. is_eq (list_cmp (publics s) node)) (sets g seat) in
      omega (arith, le, length-map (node_sets g seat node) (set_number g seat), few_sets seat)

  -- the rows of a subgame
  few_inside : (keeper : ℕ) (node table : List ℕ) → length (subgame_form g keeper node table).rows ≤ 65536
  few_inside keeper node table =
      let long = length-map (subgame_ends g node) (λ h. subgame_row (part_at g keeper node table) (row_along g h)) in
      let le = filter_long (λ h. begins node (public_list g h)) (ends_by_nodes g) in
      omega (arith, long, le, few_ends)

  -- the grids
  grids_small : (1 ≤ grid_of g 1) × (grid_of g 1 ≤ 2 ^ 12) × (1 ≤ grid_of g 2) × (grid_of g 2 ≤ 2 ^ 12)
  grids_small = (some_grid g ok.good, grid_most g ok.good, some_grid g ok.good, grid_most g ok.good)

-- what no row passes it passes no greater number
rows_below : (grid1 grid2 : ℕ) (f : Form) (m n : ℕ) → m ≤ n → HasRows grid1 grid2 f m → HasRows grid1 grid2 f n
rows_below grid1 grid2 f m n le h k d l = let r = h k d l in omega (arith, r, le)

-- ---- actions

-- each list among some is no longer than all together
flat_some : {X Y : Type 0} (f : X → List Y) (xs : List X) (x : X) → In x xs → length (f x) ≤ length (flat_map f xs)
flat_some f [] x i = absurd i
flat_some f (y ∷ xs) x (inl e) = let l = length-append (f y) (flat_map f xs) in let same = ap (λ z. length (f z)) e in omega (arith, l, same)
flat_some f (y ∷ xs) x (inr i) = let l = length-append (f y) (flat_map f xs) in let rest = flat_some f xs x i in omega (arith, l, rest)

-- lists that are not empty are together at least as long as they are many
flat_many : {X Y : Type 0} (f : X → List Y) (xs : List X) → ((x : X) → In x xs → 1 ≤ length (f x)) → length xs ≤ length (flat_map f xs)
flat_many f [] some = omega arith
flat_many f (x ∷ xs) some = let l = length-append (f x) (flat_map f xs) in let one = some x (inl refl) in let rest = flat_many f xs (λ y i. some y (inr i)) in omega (arith, l, one, rest)

-- the row of a joint action of a world that passes has an outcome
row_some : (g : GameModel) (w : World) → place_ok g (a_world w) ≡ true → (a b : ℕ) → a < length w.one → b < length w.two → 1 ≤ length (row_of (a_world w) a b)
row_some g w ok a b la lb =
    let fine = world_fine g w ok in
    let l : suc a * length w.two ≤ length w.one * length w.two = mul-le-mul la (le_of_eq refl) in
    let e : suc a * length w.two ≡ a * length w.two + length w.two = omega arith in
    let there = in_get_or w.rows (a * length w.two + b) [] (omega (arith, l, e, lb, fine.count)) in
    let row = row_of (a_world w) a b in
    let some = ltb-true 0 (length row) (and_parts (nat_lt 0 (length row)) (list_all (outcome_ok g) row) (tested (row_ok g) w.rows row fine.rows there)).0 in
    omega (arith, some)

-- at least as many steps lead out of a world as a seat has actions there
pub steps_many : (g : GameModel) (seat : ℕ) (p : Place) → place_ok g p ≡ true → is_world p ≡ true → actions_at seat p ≤ length (steps_of p)
steps_many g seat (an_end z) ok world = absurd cc
steps_many g seat (a_world w) ok world = at (eqb seat 1)
  where
    -- the steps by both seats' actions
    both : ℕ → ℕ → List Step
    both a b = map (step_at a b) (range_with_len 0 (length (row_of (a_world w) a b)))

    by : ℕ → List Step
    by a = flat_map (both a) (range_with_len 0 (length w.two))

    both_long : (a b : ℕ) → In a (range_with_len 0 (length w.one)) → In b (range_with_len 0 (length w.two)) → 1 ≤ length (both a b)
    both_long a b i j =
        let l = length-map-range_with_len (step_at a b) 0 (length (row_of (a_world w) a b)) in
        let ia = in_from_range a 0 (length w.one) i in
        let jb = in_from_range b 0 (length w.two) j in
        let some = row_some g w ok a b (omega (arith, ia.1)) (omega (arith, jb.1)) in
        omega (arith, l, some)

    by_long : (a : ℕ) → In a (range_with_len 0 (length w.one)) → length w.two ≤ length (by a)
    by_long a i = let m = flat_many (both a) (range_with_len 0 (length w.two)) (λ b j. both_long a b i j) in omega (arith, m, length-range_with_len 0 (length w.two))

    one_first : In 0 (range_with_len 0 (length w.one))
    one_first = let l = some_action g 1 (a_world w) ok world in in_range 0 0 (length w.one) (omega arith) (omega (arith, l))

    two_some : 1 ≤ length w.two
    two_some = let l = some_action g 2 (a_world w) ok world in omega (arith, l)

    at : (b : Bool) → cond b (length w.one) (length w.two) ≤ length (flat_map by (range_with_len 0 (length w.one)))
    at true = let m = flat_many by (range_with_len 0 (length w.one)) (λ a i. omega (arith, by_long a i, two_some)) in omega (arith, m, length-range_with_len 0 (length w.one))
    at false = let m = flat_some by (range_with_len 0 (length w.one)) 0 one_first in omega (arith, m, by_long 0 one_first)

module _ (g : GameModel) (ok : IsAccepted g) where
  -- a seat has at most 2^16 actions at a history that is not terminal
  few_actions_at : (seat : ℕ) (h : History) → In h (inner_histories g) → actions_at seat (place_of g h) ≤ 65536
  few_actions_at seat h i =
      let inner = inner_world g h i in
      let there = inner.0 in
      let t = length h in
      let within = (history_legal g h there).1 in
      let short : t < g.horizon = before_end t g.horizon within (λ e. not_both inner.1 (ends_within g ok.unfolds h there e)) in
      let more = flat_some (longer g) (level g t) h (in_level g t h there refl) in
      let steps = length-map (steps_of (place_of g h)) (λ s. h ++ s ∷ []) in
      let whole = ap length (with_longer_level g t) ∙ length-append (with_longer g t ([] ∷ [])) (level g (suc t)) in
      let count = history_count_law g (suc t) in
      let few = ((accepted_law g).0 ok.unfolds).0 (suc t) (omega (arith, short)) in
      let many = steps_many g seat (place_of g h) (world_ok g (reached g g.root h) ok.good inner.1) inner.1 in
      omega (arith, more, steps, whole, count, few, many)
    where
      before_end : (t n : ℕ) → t ≤ n → (t ≡ n → ⊥) → t < n
      before_end t n l ne = omega (arith, l, ne)

  -- so at a set
  few_set_actions : (seat : ℕ) (s : List Item) → set_actions g seat s ≤ 65536
  few_set_actions seat s = over (inner_histories g) (λ h i. few_actions_at seat h i)
    where
      over : (hs : List History) → ((h : History) → In h hs → actions_at seat (place_of g h) ≤ 65536) → first_actions g seat s hs ≤ 65536
      over [] all = omega arith
      over (h ∷ hs) all = at (is_eq (set_cmp (seen g seat h) s)) (over hs (λ k i. all k (inr i)))
        where
          at : (b : Bool) → first_actions g seat s hs ≤ 65536 → cond b (actions_at seat (place_of g h)) (first_actions g seat s hs) ≤ 65536
          at true rest = all h (inl refl)
          at false rest = rest

  -- at all sets of the game
  few_actions : (seat : ℕ) → All (λ n. n ≤ 65536) (game_actions g seat)
  few_actions seat =
      All-from_recursion (λ n. n ≤ 65536) (game_actions g seat) (all_from_in (λ n. n ≤ 65536) (game_actions g seat) (λ n i.
      let x = in_from_map (λ (x : FormSet). x.actions) (game_sets g seat) n i in
      let r = in_from_map (game_set g seat) (sets g seat) x.0 x.1 in
      subst (λ k. k ≤ 65536) (ap (λ (x : FormSet). x.actions) r.2 ∙ x.2) (few_set_actions seat r.0)))

  -- at those of a subgame
  few_span_actions : (seat : ℕ) (node : List ℕ) → All (λ n. n ≤ 65536) (span_actions (span_at g seat node))
  few_span_actions seat node =
      let s = span_at g seat node in
      subst (All (λ n. n ≤ 65536)) (sym (span_actions_are s))
      (All-take (λ n. n ≤ 65536) (s.end - s.start) (drop s.start (game_actions g seat)) (All-drop (λ n. n ≤ 65536) s.start (game_actions g seat) (few_actions seat)))

  -- and at the gadget sets
  few_gadget_sets : (rule : Rule) (roots : ℕ) → roots ≤ 65536 → All (λ n. n ≤ 65536) (actions_in (gadget_sets rule roots))
  few_gadget_sets rule roots l = All-from_recursion (λ n. n ≤ 65536) (actions_in (gadget_sets rule roots)) (all_map IsFew (λ n. n ≤ 65536) (λ (x : FormSet). x.actions) (gadget_sets rule roots) (λ x h. h) (each rule))
    where
      IsFew : FormSet → Type 0
      IsFew x = x.actions ≤ 65536

      two : AllByRecursion IsFew (replicate roots (record { parent = None; actions = 2 }))
      two = recursion_from_All IsFew (replicate roots (record { parent = None; actions = 2 })) (All-replicate IsFew roots (record { parent = None; actions = 2 }) (omega arith))

      each : (rule : Rule) → AllByRecursion IsFew (gadget_sets rule roots)
      each cfrd = two
      each reach = two
      each margin = (l, tt)

  -- so at all of a gadget
  few_entered : (rule : Rule) (o : ℕ) (node : List ℕ) (sets : List FormSet) → All (λ n. n ≤ 65536) (actions_in sets) → All (λ n. n ≤ 65536) (actions_in (sets_entered rule (length (root_sets g o node)) sets))
  few_entered rule o node sets h =
      let front = actions_in (gadget_sets rule (length (root_sets g o node))) in
      subst (All (λ n. n ≤ 65536)) (sym (actions_entered rule (length (root_sets g o node)) sets))
      (All-append (λ n. n ≤ 65536) front (actions_in sets) (few_gadget_sets rule (length (root_sets g o node)) (few_roots g ok o node)) h)

  -- ---- ways

  -- the sets of a seat come after their parents
  below : (seat : ℕ) → IsSeat seat → AreBelow (game_sets g seat)
  below seat is = subst AreBelow (form_sets g seat is) (form_for g ok seat is).parents

  -- so do those inside a subgame
  span_below : (seat : ℕ) → IsSeat seat → (node : List ℕ) → AreBelow (span_sets (span_at g seat node))
  span_below seat is node = by is
    where
      forms : IsForm (subgame_form g 1 node []) 1 × IsForm (subgame_form g 1 node []) 2
      forms = subgame_form_law g 1 node [] ok.good ok.recalls

      by : IsSeat seat → AreBelow (span_sets (span_at g seat node))
      by (inl e) = subst (λ k. AreBelow (span_sets (span_at g k node))) (sym e) forms.0.parents
      by (inr e) = subst (λ k. AreBelow (span_sets (span_at g k node))) (sym e) forms.1.parents

  -- what comes to a set of a subgame
  span_ways : (seat : ℕ) → IsSeat seat → (node : List ℕ) → HasReach (grid_of g seat) (span_sets (span_at g seat node)) (2 ^ 64)
  span_ways seat is node = span_reach (grid_of g seat) (some_grid g ok.good) (span_at g seat node) (below seat is) (2 ^ 64) (game_reach g ok seat is)

  -- and to one of the opponent of a gadget
  entered_ways : (rule : Rule) (seat : ℕ) → IsSeat seat → (node : List ℕ) → HasReach (grid_of g seat) (sets_entered rule (length (root_sets g seat node)) (span_sets (span_at g seat node))) (4096 * 2 ^ 64)
  entered_ways rule seat is node =
      let s = span_at g seat node in
      entered_reach rule (length (root_sets g seat node)) (span_sets s) (grid_of g seat) (some_grid g ok.good) (grid_most g ok.good) (span_below seat is node)
      (λ I l none. follows_first g seat node I (subst (λ n. I < n) (sym (sets_length (span_sets s))) l) none) (2 ^ 64) (omega arith) (span_ways seat is node)

-- what no way passes it passes no greater number
reach_below : (grid : ℕ) (sets : List FormSet) (m n : ℕ) → m ≤ n → HasReach grid sets m → HasReach grid sets n
reach_below grid sets m n le h I l = let r = h I l in omega (arith, r, le)

-- ---- a gadget

module _ (g : GameModel) (ok : IsAccepted g) (rule : Rule) (node table : List ℕ) (bounds : List ℤ) where
  -- the form of the gadget
  abbrev gadget_at : ℕ → Form
  gadget_at keeper = gadget_form g rule keeper node table bounds

  -- its rows
  few_rows : (keeper : ℕ) → length (gadget_at keeper).rows ≤ 2 ^ 17
  few_rows keeper =
      let f = subgame_form g keeper node table in
      let o = other keeper in
      let roots = length (root_sets g o node) in
      let H = λ (z : Row). with_path o (entered_path rule (length (gadget_sets rule roots)) (path_of z o)) z in
      let E = λ (i : ℕ). terminate_row rule o (most_decisions g o) i (node_limit g rule keeper node table bounds i) in
      let both = length-append (map H f.rows) (map E (range_with_len 0 roots)) in
      let inside = few_inside g ok keeper node table in
      let all = few_roots g ok o node in
      omega (arith, both, length-map f.rows H, length-map-range_with_len E 0 roots, inside, all)

  -- its actions
  few_of_gadget : (keeper : ℕ) → IsSeat keeper → All (λ n. n ≤ 65536) (actions_of (gadget_at keeper) 1) × All (λ n. n ≤ 65536) (actions_of (gadget_at keeper) 2)
  few_of_gadget keeper (inl e) =
      subst (λ k. All (λ n. n ≤ 65536) (actions_of (gadget_at k) 1) × All (λ n. n ≤ 65536) (actions_of (gadget_at k) 2)) (sym e)
      (few_span_actions g ok 1 node, few_entered g ok rule 2 node (span_sets (span_at g 2 node)) (few_span_actions g ok 2 node))
  few_of_gadget keeper (inr e) =
      subst (λ k. All (λ n. n ≤ 65536) (actions_of (gadget_at k) 1) × All (λ n. n ≤ 65536) (actions_of (gadget_at k) 2)) (sym e)
      (few_entered g ok rule 1 node (span_sets (span_at g 1 node)) (few_span_actions g ok 1 node), few_span_actions g ok 2 node)

  -- and its ways
  gadget_ways : (keeper : ℕ) → IsSeat keeper → HasReach (grid_of g 1) (gadget_at keeper).sets1 (2 ^ 77) × HasReach (grid_of g 2) (gadget_at keeper).sets2 (2 ^ 77)
  gadget_ways keeper (inl e) =
      subst (λ k. HasReach (grid_of g 1) (gadget_at k).sets1 (2 ^ 77) × HasReach (grid_of g 2) (gadget_at k).sets2 (2 ^ 77)) (sym e) (
        reach_below (grid_of g 1) (gadget_at 1).sets1 (2 ^ 64) (2 ^ 77) (omega arith) (span_ways g ok 1 (inl refl) node),
        reach_below (grid_of g 2) (gadget_at 1).sets2 (4096 * 2 ^ 64) (2 ^ 77) (omega arith) (entered_ways g ok rule 2 (inr refl) node),
      )
  gadget_ways keeper (inr e) =
      subst (λ k. HasReach (grid_of g 1) (gadget_at k).sets1 (2 ^ 77) × HasReach (grid_of g 2) (gadget_at k).sets2 (2 ^ 77)) (sym e) (
        reach_below (grid_of g 1) (gadget_at 2).sets1 (4096 * 2 ^ 64) (2 ^ 77) (omega arith) (entered_ways g ok rule 1 (inl refl) node),
        reach_below (grid_of g 2) (gadget_at 2).sets2 (2 ^ 64) (2 ^ 77) (omega arith) (span_ways g ok 2 (inr refl) node),
      )

-- the law of small forms
pub small_law : SmallLaw
small_law g ok =
    let r = row_law g ok in (
      record {
        grids = grids_small g ok;
        few = (let long = length-map (ends_by_nodes g) (row_along g) in let le = few_ends g ok in omega (arith, long, le));
        rows = rows_below (grid_of g 1) (grid_of g 2) (form_of g) (2 ^ 64) (2 ^ 77) (omega arith) r.0;
        actions = (few_actions g ok 1, few_actions g ok 2);
        ways = (reach_below (grid_of g 1) (game_sets g 1) (2 ^ 64) (2 ^ 77) (omega arith) (game_reach g ok 1 (inl refl)), reach_below (grid_of g 2) (game_sets g 2) (2 ^ 64) (2 ^ 77) (omega arith) (game_reach g ok 2 (inr refl)));
      },
      λ keeper is node table tab. record {
        grids = grids_small g ok;
        few = (let le = few_inside g ok keeper node table in omega (arith, le));
        rows = rows_below (grid_of g 1) (grid_of g 2) (subgame_form g keeper node table) (2 ^ 64) (2 ^ 77) (omega arith) (r.1 keeper is node table tab);
        actions = (few_span_actions g ok 1 node, few_span_actions g ok 2 node);
        ways = (reach_below (grid_of g 1) (span_sets (span_at g 1 node)) (2 ^ 64) (2 ^ 77) (omega arith) (span_ways g ok 1 (inl refl) node), reach_below (grid_of g 2) (span_sets (span_at g 2 node)) (2 ^ 64) (2 ^ 77) (omega arith) (span_ways g ok 2 (inr refl) node));
      },
      λ keeper is node table bounds has rule. record {
        grids = grids_small g ok;
        few = few_rows g ok rule node table bounds keeper;
        rows = r.2 keeper is node table bounds has rule;
        actions = few_of_gadget g ok rule node table bounds keeper is;
        ways = gadget_ways g ok rule node table bounds keeper is;
      },
    )
