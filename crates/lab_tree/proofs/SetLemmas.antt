-- Sets by a history of each.
use Rattle.std.proofs.Common.{◌≡◌, ℕ, suc, ◌+◌, ◌<◌, ◌≤◌, List, [], ◌∷◌, ◌++◌, Bool, true, false, cond, length, get_or, map, take, Option, Some, None, sym, ap, ◌∙◌, arith}
use Rattle.std.specs.Prelude.{nat_le}
use Rattle.std.specs.Option.{option_map}
use Rattle.std.proofs.lemmas.List.{get_or-map, map-append}
use Rattle.std.proofs.Math.Seq.{take-suc}
use Rattle.lab_math.specs.Sums.{sum_over}
use Rattle.lab_math.proofs.Members.{In, in_get_or}
use Rattle.lab_math.proofs.NaturalSums.{sum_over-append}
use Rattle.lab_defs_text.specs.Games.{GameModel}
use Rattle.lab_defs_game.specs.Forms.{game_actions}
use Rattle.lab_defs_game.specs.Histories as model
use Rattle.lab_defs_game.specs.Laws.{AlikeNames}
use Rattle.lab_defs_game.specs.Sets.{Item, publics, seen, set_cmp, sets, set_number, set_actions}
use Rattle.lab_defs_game.specs.Nodes as nodes
use Rattle.lab_defs_game.specs.Paths as paths
use Rattle.lab_defs_game.proofs.FormLemmas.{game_actions_length, game_actions_at, actions_of_set, set_below}
use Rattle.lab_defs_game.proofs.GameLemmas.{inner_has, publics_seen, set_has, sets_ascending}
use Rattle.lab_defs_game.proofs.NumberLemmas.{number_at, at_number}
use Rattle.lab_defs_game.proofs.Orders.{set_total}
use Rattle.lab_defs_game.proofs.TreeLaws.{parent_push}
use Rattle.lab_defs_value.specs.Tables.{first_weight, weights_of}
use Rattle.lab_form.specs.declared.items.SetId.{SetId}
use Rattle.lab_unfold.specs.Firsts.{is_inner}
use Rattle.lab_tree.specs.declared.info.NodeId.{NodeId}
use Rattle.lab_tree.specs.declared.info.SetInfo.{SetInfo}
use Rattle.lab_unfold.specs.Parents.{history_at}
use Rattle.lab_tree.specs.Behind.{IsBehind}
use Rattle.lab_tree.specs.SetValues.{HasSeen, set_with}
use Rattle.lab_tree.specs.Trees.{node_id, set_id, set_at, set_in, taken_in}

-- the set of a history that is not terminal
pub set_at_inner : (g : GameModel) (seat : ℕ) (h : model.History) → is_inner g h ≡ true → set_at g seat h ≡ Some (set_id (set_number g seat (seen g seat h)))
set_at_inner g seat h e = ap (λ b. cond b (Some (set_id (set_number g seat (seen g seat h)))) None) e

-- the set of the history before the last step is the parent's
pub parent_is : (g : GameModel) (seat n p : ℕ) (x : Item) (of : List (Option SetId)) (set : SetId) → of ≡ map (set_at g seat) (model.histories g) → p < length (model.histories g) → IsBehind g seat n p x → get_or of p None ≡ Some set
    → ◌≡◌ {A = Option (SetId × ℕ)} (Some (set, x.action)) (option_map taken_in (paths.parent g seat (seen g seat (history_at g n))))
parent_is g seat n p x of set e l b found =
    ap (λ s. Some (s, x.action)) (one set (set_id (set_number g seat (seen g seat (history_at g p))))
    (sym found ∙ ap (λ os. get_or os p None) e ∙ get_or-map (set_at g seat) (model.histories g) p [] None l ∙ set_at_inner g seat (history_at g p) b.inner))
    ∙ sym (ap (λ s. option_map taken_in (paths.parent g seat s)) b.made ∙ ap (option_map taken_in) (parent_push g seat (seen g seat (history_at g p)) x))
  where
    one : (s t : SetId) → ◌≡◌ {A = Option SetId} (Some s) (Some t) → s ≡ t
    one s t e = cc

-- ---- what is said of a set

-- actions by a history of the set
actions_by : (g : GameModel) (seat : ℕ) (h : model.History) → AlikeNames g seat → In h (model.inner_histories g) → model.actions_at seat (model.place_of g h) ≡ set_actions g seat (seen g seat h)
actions_by g seat h a i =
    let s = seen g seat h in
    sym (actions_of_set g seat a h i)
    ∙ game_actions_at g seat (set_number g seat s) (set_below g seat h i)
    ∙ ap (set_actions g seat) (at_number set_cmp set_total (sets g seat) s [] (sets_ascending g seat) (set_has g seat h i))

-- what is told of the set of a history
pub told_is : (g : GameModel) (seat n number weight actions : ℕ) (nodes_of : List NodeId) (parent : Option (SetId × ℕ)) → AlikeNames g seat → HasSeen g seat (seen g seat (history_at g n), n)
    → nodes_of ≡ map (λ h. node_id (nodes.node_of g h)) (model.histories g) → parent ≡ option_map taken_in (paths.parent g seat (seen g seat (history_at g n)))
    → actions ≡ model.actions_at seat (model.place_of g (history_at g n))
    → ◌≡◌ {A = SetInfo} (record { id = set_id number; node = get_or nodes_of n (node_id 0); parent = parent; actions = actions; first_weight = weight }) (set_with g seat (seen g seat (history_at g n)) number weight)
told_is g seat n number weight actions nodes_of parent a has e p k =
    let h = history_at g n in
    let inner = inner_has g h (in_get_or (model.histories g) n [] has.0) has.1 in
    same
    (ap (λ ns. get_or ns n (node_id 0)) e ∙ get_or-map (λ h. node_id (nodes.node_of g h)) (model.histories g) n [] (node_id 0) has.0 ∙ ap (λ q. node_id (nodes.node_number g q)) (sym (publics_seen g seat g.root h)))
    p (k ∙ actions_by g seat h a inner)
  where
    same : get_or nodes_of n (node_id 0) ≡ node_id (nodes.node_number g (publics (seen g seat (history_at g n)))) → parent ≡ option_map taken_in (paths.parent g seat (seen g seat (history_at g n)))
        → actions ≡ set_actions g seat (seen g seat (history_at g n))
        → ◌≡◌ {A = SetInfo} (record { id = set_id number; node = get_or nodes_of n (node_id 0); parent = parent; actions = actions; first_weight = weight }) (set_with g seat (seen g seat (history_at g n)) number weight)
    same x y z = λ i. record { id = set_id number; node = x i; parent = y i; actions = z i; first_weight = weight }

-- of the set with a number
pub told_in : (g : GameModel) (seat J weight : ℕ) → J < length (sets g seat) → weight ≡ first_weight (game_actions g seat) J → set_with g seat (get_or (sets g seat) J []) J weight ≡ set_in g seat (get_or (sets g seat) J [])
told_in g seat J weight l w = same J weight (sym n) (w ∙ ap (first_weight (game_actions g seat)) (sym n))
  where
    s : List Item
    s = get_or (sets g seat) J []

    n : set_number g seat s ≡ J
    n = number_at set_cmp set_total (sets g seat) J [] (sets_ascending g seat) l

    same : (number weight : ℕ) → number ≡ set_number g seat s → weight ≡ first_weight (game_actions g seat) (set_number g seat s) → set_with g seat s number weight ≡ set_in g seat s
    same number weight x y = λ i. record { id = set_id (x i); node = node_id (nodes.node_number g (publics s)); parent = option_map taken_in (paths.parent g seat s); actions = set_actions g seat s; first_weight = y i }

-- one set more
pub sets_more : (g : GameModel) (seat J weight : ℕ) (infos : List SetInfo) (info : SetInfo) → J < length (sets g seat) → weight ≡ first_weight (game_actions g seat) J
    → infos ≡ map (set_in g seat) (take J (sets g seat)) → info ≡ set_with g seat (get_or (sets g seat) J []) J weight → infos ++ info ∷ [] ≡ map (set_in g seat) (take (J + 1) (sets g seat))
sets_more g seat J weight infos info l w e k =
    ap (λ i. infos ++ i ∷ []) (k ∙ told_in g seat J weight l w) ∙ ap (λ is. is ++ set_in g seat (get_or (sets g seat) J []) ∷ []) e
    ∙ sym (ap (λ m. map (set_in g seat) (take m (sets g seat))) more ∙ ap (map (set_in g seat)) (take-suc (sets g seat) J [] l) ∙ map-append (set_in g seat) (take J (sets g seat)) (get_or (sets g seat) J [] ∷ []))
  where
    more : J + 1 ≡ suc J
    more = omega arith

-- and its weights
pub weights_more : (g : GameModel) (seat J weight more : ℕ) (info : SetInfo) → J < length (sets g seat) → weight ≡ first_weight (game_actions g seat) J
    → info ≡ set_with g seat (get_or (sets g seat) J []) J weight → more ≡ weights_of info.actions → weight + more ≡ first_weight (game_actions g seat) (J + 1)
weights_more g seat J weight more info l w k m =
    let ns = game_actions g seat in
    let count : J < length ns = omega (arith, l, game_actions_length g seat) in
    let actions : info.actions ≡ get_or ns J 0 = ap (λ (i : SetInfo). i.actions) k ∙ sym (game_actions_at g seat J l) in
    let next : J + 1 ≡ suc J = omega arith in
    let one : sum_over weights_of (get_or ns J 0 ∷ []) ≡ weights_of (get_or ns J 0) = omega arith in
    let all : first_weight ns (J + 1) ≡ first_weight ns J + sum_over weights_of (get_or ns J 0 ∷ []) =
    ap (first_weight ns) next ∙ ap (sum_over weights_of) (take-suc ns J 0 count) ∙ sum_over-append weights_of (take J ns) (get_or ns J 0 ∷ []) in
    omega (arith, w, m, ap weights_of actions, one, all)

-- a set has no more weights than actions
pub weights_few : (n : ℕ) → weights_of n ≤ n
weights_few n = at (nat_le 2 n)
  where
    at : (b : Bool) → cond b n 0 ≤ n
    at true = omega arith
    at false = omega arith
