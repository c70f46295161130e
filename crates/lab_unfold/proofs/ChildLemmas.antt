-- The histories that are a step longer than another, as they are made and as they are defined.
use Rattle.std.proofs.Common.{◌≡◌, ℕ, zero, suc, ◌+◌, ◌-◌, ◌*◌, ◌<◌, ◌≤◌, List, [], ◌∷◌, ◌++◌, length, get_or, map, flat_map, true, false, Some, refl, sym, ap, ◌∙◌, subst, arith, append_assoc, length-append}
use Rattle.std.specs.Prelude.{slice_index_or, ◌==◌, ◌&&◌, nat_lt}
use Rattle.std.specs.List.{range_with_len}
use Rattle.std.proofs.lemmas.Bool.{and_parts, eqb-true, ltb-true}
use Rattle.std.proofs.lemmas.List.{length-map, map-append}
use Rattle.std.proofs.lemmas.List as below
use Rattle.std.proofs.Math.ListN.{get_or-map}
use Rattle.std.proofs.lemmas.Simd.{map-map}
use Rattle.lab_math.proofs.Ranges.{flat_map_range_same}
use Rattle.lab_defs_text.specs.Games as text
use Rattle.lab_defs_text.specs.Texts.{place_at, is_world}
use Rattle.lab_defs_game.specs.Chance.{row_total}
use Rattle.lab_defs_game.specs.Laws.{IsStep}
use Rattle.lab_defs_game.specs.Histories as model
use Rattle.lab_world.specs.declared.place.ActionId.{ActionId}
use Rattle.lab_world.specs.declared.place.Outcome.{Outcome}
use Rattle.lab_world.specs.declared.place.Row.{Row}
use Rattle.lab_world.specs.declared.place.World.{World}
use Rattle.lab_world.specs.declared.place.WorldId.{WorldId}
use Rattle.lab_world.specs.Models.{outcome_model, row_model, world_model, action_list}
use Rattle.lab_defs_text.specs.Words.{Bytes}
use Rattle.lab_defs_game.proofs.Legal.{step_at, steps_by}
use Rattle.lab_defs_game.proofs.Suffixes.{no_steps}
use Rattle.lab_unfold.specs.declared.history.HistoryId.{HistoryId}
use Rattle.lab_unfold.specs.declared.history.History.{History}
use Rattle.lab_world.specs.Filled.{is_row, row_at}
use Rattle.lab_unfold.specs.Children.{row_children, second_children, first_children, child_in, children_in}

-- ---- loops

-- numbers from b on, below n
pub range_cons : (b n : ℕ) → b < n → range_with_len b (n - b) ≡ b ∷ range_with_len (b + 1) (n - (b + 1))
range_cons b n l = let e : n - b ≡ suc (n - (b + 1)) = omega (arith, l) in ap (range_with_len b) e

-- a piece moves from what is left to what is there
pub moved : {X : Type 0} (items piece left new all : List X) → items ++ (piece ++ left) ≡ all → new ≡ items ++ piece → new ++ left ≡ all
moved items piece left new all e n = ap (λ t. t ++ left) n ∙ append_assoc items piece left ∙ e

-- what passes a limit with a piece does so with all
pub passed : {X : Type 0} (items piece left old all : List X) (limit : ℕ) → items ++ (piece ++ left) ≡ old ++ all → limit < length items + length piece → limit < length old + length all
passed items piece left old all limit e l =
    let n = sym (length-append items (piece ++ left)) ∙ ap length e ∙ length-append old all in
    omega (arith, l, n, length-append piece left)

-- as many as there are outcomes
pub row_length : (parent : HistoryId) (depth a b k : ℕ) (os : List Outcome) → length (row_children parent depth a b k os) ≡ length os
row_length parent depth a b k [] = refl
row_length parent depth a b k (o ∷ os) = ap suc (row_length parent depth a b (k + 1) os)

-- of the second seat's actions from b on the first one's row is next
pub second_next : (parent : HistoryId) (depth : ℕ) (w : World) (a b n : ℕ) (os : List Outcome) (items all : List History) → b < n → os ≡ (row_at w (a * length w.two + b)).outcomes
    → items ++ second_children parent depth w a b (n - b) ≡ all → items ++ (row_children parent depth a b 0 os ++ second_children parent depth w a (b + 1) (n - (b + 1))) ≡ all
second_next parent depth w a b n os items all l o e =
    ap (λ (os : List Outcome). items ++ (row_children parent depth a b 0 os ++ second_children parent depth w a (b + 1) (n - (b + 1)))) o
    ∙ ap (λ ks. items ++ flat_map (λ b. row_children parent depth a b 0 (row_at w (a * length w.two + b)).outcomes) ks) (sym (range_cons b n l))
    ∙ e

-- of the first seat's actions from a on the first one's rows are next
pub first_next : (parent : HistoryId) (depth : ℕ) (w : World) (a n : ℕ) (items all : List History) → a < n
    → items ++ first_children parent depth w a (n - a) ≡ all → items ++ (second_children parent depth w a 0 (length w.two) ++ first_children parent depth w (a + 1) (n - (a + 1))) ≡ all
first_next parent depth w a n items all l e = ap (λ ks. items ++ flat_map (λ a. second_children parent depth w a 0 (length w.two)) ks) (sym (range_cons a n l)) ∙ e

-- ---- the same by definition

-- a map over lists
pub map_flat : {X Y Z : Type 0} (f : Y → Z) (h : X → List Y) (xs : List X) → map f (flat_map h xs) ≡ flat_map (λ x. map f (h x)) xs
map_flat f h [] = refl
map_flat f h (x ∷ xs) = map-append f (h x) (flat_map h xs) ∙ ap (λ t. map f (h x) ++ t) (map_flat f h xs)

-- the child with these places that leads to the next place
abbrev child : (parent : HistoryId) (depth a b k : ℕ) → WorldId → History
child parent depth a b k next = record { parent = Some parent; step = Some (record { place1 = a; place2 = b; outcome = k }); world = next; depth = depth }

-- children by the numbers of outcomes are those by the outcomes
row_same : (f : ℕ → History) (parent : HistoryId) (depth a b k : ℕ) (d : Outcome) (os : List Outcome)
    → ((j : ℕ) → j < length os → f (k + j) ≡ child parent depth a b (k + j) (get_or os j d).next) → map f (range_with_len k (length os)) ≡ row_children parent depth a b k os
row_same f parent depth a b k d [] e = refl
row_same f parent depth a b k d (o ∷ os) e =
    let first : k + 0 ≡ k = omega arith in
    ap (λ t. t ∷ map f (range_with_len (k + 1) (length os))) (subst (λ i. f i ≡ child parent depth a b i o.next) first (e 0 (omega arith)))
    ∙ ap (λ t. child parent depth a b k o.next ∷ t)
    (row_same f parent depth a b (k + 1) d os (λ j l. let next : k + suc j ≡ k + 1 + j = omega arith in subst (λ i. f i ≡ child parent depth a b i (get_or os j d).next) next (e (suc j) (omega (arith, l)))))

-- the history behind a parent by a step out of the place p
abbrev child_at : text.Place → (parent : HistoryId) (depth : ℕ) → model.Step → History
child_at p parent depth s =
    child parent depth s.action1 s.action2 s.outcome (record { 0 = (slice_index_or (model.row_of p s.action1 s.action2) s.outcome (record { weight = 0; next = 0; own1 = 0; own2 = 0; public = 0 })).next })

-- the world of the definitions
abbrev world_place : List Bytes → World → text.Place
world_place actions w = text.a_world (world_model actions w)

-- how many actions each seat has there
two_length : (actions : List Bytes) (is : List ActionId) → length (action_list actions is) ≡ length is
two_length actions is = length-map is (λ (i : ActionId). slice_index_or actions i.0 [])

-- the row of two actions
row_of_is : (actions : List Bytes) (w : World) (a b : ℕ) → model.row_of (world_place actions w) a b ≡ map outcome_model (row_at w (a * length w.two + b)).outcomes
row_of_is actions w a b =
    ap (λ m. slice_index_or (map row_model w.rows) (a * m + b) []) (two_length actions w.two)
    ∙ get_or-map row_model w.rows (a * length w.two + b) (record { total = 0; outcomes = [] })

-- the children by the steps of two actions
row_steps : (actions : List Bytes) (w : World) (parent : HistoryId) (depth a b : ℕ)
    → map (child_at (world_place actions w) parent depth) (map (step_at a b) (range_with_len 0 (length (model.row_of (world_place actions w) a b))))
    ≡ row_children parent depth a b 0 (row_at w (a * length w.two + b)).outcomes
row_steps actions w parent depth a b =
    map-map (child_at p parent depth) (step_at a b) (range_with_len 0 (length (model.row_of p a b)))
    ∙ ap (λ n. map (λ o. child_at p parent depth (step_at a b o)) (range_with_len 0 n)) (ap length (row_of_is actions w a b) ∙ length-map os outcome_model)
    ∙ row_same (λ o. child_at p parent depth (step_at a b o)) parent depth a b 0 none os (λ j l. ap (λ n. child parent depth a b (0 + j) (record { 0 = n })) (next j))
  where
    p : text.Place
    p = world_place actions w

    os : List Outcome
    os = (row_at w (a * length w.two + b)).outcomes

    none : Outcome
    none = record { weight = 0; next = record { 0 = 0 }; own1 = record { 0 = 0 }; own2 = record { 0 = 0 }; public = record { 0 = 0 } }

    next : (j : ℕ) → (slice_index_or (model.row_of p a b) (0 + j) (outcome_model none)).next ≡ (get_or os j none).next.0
    next j =
        let zero : 0 + j ≡ j = omega arith in
        ap (λ r. (slice_index_or r (0 + j) (outcome_model none)).next) (row_of_is actions w a b)
        ∙ ap (λ i. (slice_index_or (map outcome_model os) i (outcome_model none)).next) zero
        ∙ ap (λ (o : text.Outcome). o.next) (get_or-map outcome_model os j none)

-- the children by the steps of one action of the first seat
second_steps : (actions : List Bytes) (w : World) (parent : HistoryId) (depth a : ℕ)
    → map (child_at (world_place actions w) parent depth) (steps_by (world_place actions w) a) ≡ second_children parent depth w a 0 (length w.two)
second_steps actions w parent depth a =
    map_flat (child_at p parent depth) row (range_with_len 0 (model.actions_at 2 p))
    ∙ ap (λ n. flat_map (λ b. map (child_at p parent depth) (row b)) (range_with_len 0 n)) (two_length actions w.two)
    ∙ flat_map_range_same (λ b. map (child_at p parent depth) (row b)) (λ b. row_children parent depth a b 0 (row_at w (a * length w.two + b)).outcomes) 0 (length w.two)
    (λ b lo hi. row_steps actions w parent depth a b)
  where
    p : text.Place
    p = world_place actions w

    row : ℕ → List model.Step
    row b = map (step_at a b) (range_with_len 0 (length (model.row_of p a b)))

-- the children by all steps
first_steps : (actions : List Bytes) (w : World) (parent : HistoryId) (depth : ℕ)
    → map (child_at (world_place actions w) parent depth) (model.steps_of (world_place actions w)) ≡ first_children parent depth w 0 (length w.one)
first_steps actions w parent depth =
    map_flat (child_at p parent depth) (steps_by p) (range_with_len 0 (model.actions_at 1 p))
    ∙ ap (λ n. flat_map (λ a. map (child_at p parent depth) (steps_by p a)) (range_with_len 0 n)) (two_length actions w.one)
    ∙ flat_map_range_same (λ a. map (child_at p parent depth) (steps_by p a)) (λ a. second_children parent depth w a 0 (length w.two)) 0 (length w.one)
    (λ a lo hi. second_steps actions w parent depth a)
  where
    p : text.Place
    p = world_place actions w

-- at a world all children are those by its rows
pub children_is : (g : text.GameModel) (actions : List Bytes) (w : World) (parent : HistoryId) (n depth : ℕ) → place_at g n ≡ world_place actions w
    → children_in g parent n depth ≡ first_children parent depth w 0 (length w.one)
children_is g actions w parent n depth e = ap (λ p. map (child_at p parent depth) (model.steps_of p)) e ∙ first_steps actions w parent depth

-- at an end there are none
pub no_children : (g : text.GameModel) (parent : HistoryId) (n depth : ℕ) → is_world (place_at g n) ≡ false → children_in g parent n depth ≡ []
no_children g parent n depth e = ap (map (child_in g parent n depth)) (no_steps (place_at g n) e)

-- ---- one step

-- a step that is open at a world has places of its actions and of an outcome
pub step_open : (actions : List Bytes) (w : World) (p : text.Place) (s : model.Step) → p ≡ world_place actions w → IsStep p s
    → (s.action1 < length w.one) × (s.action2 < length w.two) × (s.outcome < length (row_at w (s.action1 * length w.two + s.action2)).outcomes)
step_open actions w p s e i =
    let o = subst (λ q. IsStep q s) e i in (
      omega (arith, o.0, two_length actions w.one),
      omega (arith, o.1, two_length actions w.two),
      omega (arith, o.2, ap length (row_of_is actions w s.action1 s.action2), length-map (row_at w (s.action1 * length w.two + s.action2)).outcomes outcome_model),
    )

-- the total of its row
pub total_is : (actions : List Bytes) (w : World) (p : text.Place) (s : model.Step) (r : Row) → p ≡ world_place actions w → r ≡ row_at w (s.action1 * length w.two + s.action2) → is_row r ≡ true
    → r.total ≡ row_total (model.row_of p s.action1 s.action2)
total_is actions w p s r e there ok =
    let all = and_parts (nat_lt 0 (length r.outcomes)) ((r.total == row_total (row_model r)) && nat_lt 0 r.total) ok in
    let same = and_parts (r.total == row_total (row_model r)) (nat_lt 0 r.total) all.1 in
    eqb-true r.total (row_total (row_model r)) same.0 ∙ ap (λ (q : Row). row_total (row_model q)) there
    ∙ ap row_total (sym (row_of_is actions w s.action1 s.action2)) ∙ ap (λ q. row_total (model.row_of q s.action1 s.action2)) (sym e)

-- the weight of its outcome
pub weight_is : (actions : List Bytes) (w : World) (g : text.GameModel) (n : ℕ) (s : model.Step) (r : Row) (d : Outcome) → place_at g n ≡ world_place actions w
    → r ≡ row_at w (s.action1 * length w.two + s.action2) → s.outcome < length r.outcomes → (get_or r.outcomes s.outcome d).weight ≡ (model.outcome_of g n s).weight
weight_is actions w g n s r d e there l =
    ap (λ (o : text.Outcome). o.weight) (sym (below.get_or-map outcome_model r.outcomes s.outcome d none l))
    ∙ ap (λ (q : Row). (get_or (map outcome_model q.outcomes) s.outcome none).weight) there
    ∙ ap (λ os. (get_or os s.outcome none).weight) (sym (row_of_is actions w s.action1 s.action2))
    ∙ ap (λ q. (get_or (model.row_of q s.action1 s.action2) s.outcome none).weight) (sym e)
  where
    none : text.Outcome
    none = record { weight = 0; next = 0; own1 = 0; own2 = 0; public = 0 }

-- a weight is at most the total
weight_le : (os : List Outcome) (i : ℕ) (d : Outcome) → i < length os → (get_or os i d).weight ≤ row_total (map outcome_model os)
weight_le [] i d l = absurd (omega (arith, l))
weight_le (o ∷ os) zero d l = omega arith
weight_le (o ∷ os) (suc i) d l = omega (arith, weight_le os i d (omega (arith, l)))

-- at most that of its row
pub weight_small : (r : Row) (i : ℕ) (d : Outcome) → is_row r ≡ true → i < length r.outcomes → (get_or r.outcomes i d).weight ≤ r.total
weight_small r i d ok l =
    let all = and_parts (nat_lt 0 (length r.outcomes)) ((r.total == row_total (row_model r)) && nat_lt 0 r.total) ok in
    let same = and_parts (r.total == row_total (row_model r)) (nat_lt 0 r.total) all.1 in
    omega (arith, weight_le r.outcomes i d l, eqb-true r.total (row_total (row_model r)) same.0)

-- a row has outcomes and a total
pub row_parts : (r : Row) → is_row r ≡ true → (0 < length r.outcomes) × (0 < r.total)
row_parts r ok =
    let all = and_parts (nat_lt 0 (length r.outcomes)) ((r.total == row_total (row_model r)) && nat_lt 0 r.total) ok in
    let same = and_parts (r.total == row_total (row_model r)) (nat_lt 0 r.total) all.1 in
    (ltb-true 0 (length r.outcomes) all.0, ltb-true 0 r.total same.1)
