-- What holds of the histories of every game, for those that read them.
use Rattle.std.proofs.Common.{◌≡◌, ℕ, pos, ◌<◌, ◌≤◌, List, [], ◌∷◌, ◌++◌, length, get_or, map, flat_map, take, Option, Some, None, cond, Bool, true, false, refl, sym, ap, ◌∙◌, subst, arith, inl, inr, ◌⊎◌}
use Rattle.std.specs.Prelude.{◌&&◌, ◌==◌, if◌then◌else◌, slice_index, slice_index_or, slice_get}
use Rattle.std.specs.declared.cmp.Ordering.{Ordering}
use Rattle.std.specs.declared.cmp.Ordering.TheVariants.{Less}
use Rattle.std.specs.Ordering.{is_eq}
use Rattle.std.proofs.lemmas.Bool.{and_parts, and_from, cases_lt}
use Rattle.std.proofs.lemmas.Cmp.{tied_itself}
use Rattle.std.proofs.lemmas.List.{length-map, get_or-map}
use Rattle.std.proofs.lemmas.Option.{slice_get_within, get_or_from_slice_get}
use Rattle.lab_defs_text.specs.Games.{GameModel}
use Rattle.lab_defs_game.specs.Histories as model
use Rattle.lab_defs_game.specs.Histories.{histories}
use Rattle.lab_defs_game.specs.Recall.{one_set, place_of_first}
use Rattle.lab_defs_game.specs.Chance.{chance, scale}
use Rattle.lab_defs_game.specs.Laws.{history_cmp}
use Rattle.lab_defs_game.specs.Unfolding.{size}
use Rattle.lab_defs_game.specs.Sets.{seen, item_of, public_list, set_cmp, most_decisions}
use Rattle.lab_defs_game.proofs.KeyLemmas.{Ascending}
use Rattle.lab_defs_game.proofs.NumberLemmas.{is_true_or}
use Rattle.lab_defs_game.proofs.Orders.{set_total}
use Rattle.lab_defs_game.proofs.PairLaws.{place_any, first_place}
use Rattle.lab_defs_game.proofs.RecallLemmas.{not_both, same_list_from}
use Rattle.lab_world.specs.declared.seat.Seat.{Seat}
use Rattle.lab_world.specs.Seats.{seat_number}
use Rattle.lab_world.proofs.CallerLemmas.{one_or_two}
use Rattle.lab_unfold.specs.Firsts.{is_inner, one_node, IsFirstAkin, AreFirsts, node_first, set_first}
use Rattle.lab_unfold.specs.Items.{last_item}
use Rattle.lab_unfold.specs.Parents.{history_at, Behind}
use Rattle.lab_unfold.specs.Values.{step_in, step_model, last_step, history_number, parent_in, history_in, Unfolded, unfolded}
use Rattle.lab_unfold.specs.declared.history.HistoryId.{HistoryId}
use Rattle.lab_unfold.specs.declared.history.History.{History}
use Rattle.lab_unfold.specs.declared.history.Step.{Step}
use Rattle.lab_unfold.proofs.ChildLemmas as children
use Rattle.lab_unfold.proofs.BirthLemmas as births
use Rattle.lab_unfold.proofs.LevelLemmas as levels
use Rattle.lab_unfold.proofs.ParentLemmas as parents
use Rattle.lab_unfold.proofs.SizeLemmas as sizes
use Rattle.lab_unfold.proofs.StepItems as items

-- ---- lists

-- a map over lists that are put together
pub map_flat : {X Y Z : Type 0} (f : Y → Z) (h : X → List Y) (xs : List X) → map f (flat_map h xs) ≡ flat_map (λ x. map f (h x)) xs
map_flat f h xs = children.map_flat f h xs

-- of items in order each is less than those after it
pub at_less : {K : Type 0} (R : K → K → Ordering) (xs : List K) (i j : ℕ) (d : K) → Ascending R xs → i < j → j < length xs → R (get_or xs i d) (get_or xs j d) ≡ Less
at_less R xs i j d = births.at_less R xs i j d

-- ---- histories of a game

-- the histories are in order
pub ascending : (g : GameModel) → Ascending history_cmp (histories g)
ascending = levels.ascending

-- the history with a number has that number
pub number_is : (g : GameModel) (i : ℕ) → i < length (histories g) → history_number g (history_at g i) ≡ i
number_is = levels.number_is

-- the last step of a history with one more step
pub last_is : (h : model.History) (s : model.Step) → last_step (h ++ s ∷ []) ≡ Some (step_in s)
last_is = levels.last_is

-- a seat decides no more often than the horizon says
pub most_small : (g : GameModel) (seat : ℕ) → most_decisions g seat ≤ g.horizon
most_small = parents.most_small

-- the size of a game is at least its scale
pub scale_le : (g : GameModel) → 0 < g.grid → scale g ≤ size g
scale_le = sizes.scale_le

-- a step as the program has it is that step
pub step_same : (s : Step) (t : model.Step) → ◌≡◌ {A = Option Step} (Some s) (Some (step_in t)) → step_model s ≡ t
step_same = parents.step_same

-- the history that a parent names
pub parent_found : (g : GameModel) (i : ℕ) (p : HistoryId) → i < length (histories g) → parent_in g (history_at g i) ≡ Some p → Behind g i p.0
parent_found = parents.parent_found

-- a history with no parent has no step
pub no_parent : (g : GameModel) (h : model.History) → parent_in g h ≡ None → h ≡ []
no_parent = parents.no_parent

-- the last item that a seat has seen along a history is that of its last step
pub last_behind : (g : GameModel) (seat i j : ℕ) → (b : Behind g i j) → last_item (seen g seat (history_at g i)) ≡ Some (item_of g seat (model.reached g g.root (history_at g j)) b.step)
last_behind = items.last_behind

-- ---- histories as the program has them

-- there are as many items as histories
pub all_length : (g : GameModel) (items : List History) → items ≡ map (history_in g) (histories g) → length items ≡ length (histories g)
all_length = parents.all_length

-- what is read at a number
pub read_is : (g : GameModel) (i : ℕ) (items : List History) (d : History) → items ≡ map (history_in g) (histories g) → i < length items → get_or items i d ≡ history_in g (history_at g i)
read_is = parents.read_is

-- the history that the parent of what is read names
pub read_behind : (g : GameModel) (i : ℕ) (items : List History) (d : History) (p : HistoryId) → items ≡ map (history_in g) (histories g) → i < length items → (get_or items i d).parent ≡ Some p
    → Behind g i p.0
read_behind = parents.read_behind

-- and its step
pub read_step : (g : GameModel) (i j : ℕ) (items : List History) (d : History) → (b : Behind g i j) → items ≡ map (history_in g) (histories g) → i < length items
    → (get_or items i d).step ≡ Some (step_in b.step)
read_step = parents.read_step

-- what is read has no parent where there is no step
pub read_first : (g : GameModel) (i : ℕ) (items : List History) (d : History) → items ≡ map (history_in g) (histories g) → i < length items → (get_or items i d).parent ≡ None
    → history_at g i ≡ []
read_first = parents.read_first

-- a value of each of the first histories, at one of them
pub told_at : {X : Type 0} (g : GameModel) (f : model.History → X) (j n : ℕ) (told : List X) (d : X) → told ≡ map f (take n (histories g)) → j < n → n ≤ length (histories g)
    → get_or told j d ≡ f (history_at g j)
told_at g f j n told d = parents.told_at g f j n told d

-- ---- what is read of what a game unfolds to

-- the history with a number
pub here : (g : GameModel) (u : Unfolded) (i : ℕ) → u ≡ unfolded g → slice_index_or u.histories i [] ≡ history_at g i
here g u i e = ap (λ (u : Unfolded). slice_index_or u.histories i []) e

-- as many as histories
pub here_below : (g : GameModel) (u : Unfolded) (i : ℕ) → u ≡ unfolded g → i < length u.items → i < length (histories g)
here_below g u i e l = omega (arith, l, all_length g u.items (ap (λ (u : Unfolded). u.items) e))

-- as the program has it
pub read_here : (g : GameModel) (u : Unfolded) (i : ℕ) (h : History) → u ≡ unfolded g → slice_get u.items i ≡ Some h → h ≡ history_in g (history_at g i)
read_here g u i h e s = sym (get_or_from_slice_get u.items i h h s) ∙ read_is g i u.items h (ap (λ (u : Unfolded). u.items) e) (slice_get_within u.items i h s)

-- the history before its last step
pub read_parent : (g : GameModel) (u : Unfolded) (i : ℕ) (h : History) (p : HistoryId) → u ≡ unfolded g → slice_get u.items i ≡ Some h → h.parent ≡ Some p → Behind g i p.0
read_parent g u i h p e s q =
    read_behind g i u.items h p (ap (λ (u : Unfolded). u.items) e) (slice_get_within u.items i h s) (ap (λ (h : History). h.parent) (get_or_from_slice_get u.items i h h s) ∙ q)

-- without it there is no step
pub read_root : (g : GameModel) (u : Unfolded) (i : ℕ) (h : History) → u ≡ unfolded g → slice_get u.items i ≡ Some h → h.parent ≡ None → history_at g i ≡ []
read_root g u i h e s q = no_parent g (history_at g i) (sym (ap (λ (h : History). h.parent) (read_here g u i h e s)) ∙ q)

-- what a history pays
pub read_payoff : (g : GameModel) (u : Unfolded) (i : ℕ) → u ≡ unfolded g → i < length u.items → slice_index_or u.payoffs i (pos 0) ≡ model.payoff g (history_at g i)
read_payoff g u i e l = ap (λ (u : Unfolded). slice_index_or u.payoffs i (pos 0)) e ∙ get_or-map (model.payoff g) (histories g) i [] (pos 0) (here_below g u i e l)

-- its chance
pub read_chance : (g : GameModel) (u : Unfolded) (i : ℕ) → u ≡ unfolded g → i < length u.items → slice_index u.chances i ≡ chance g (history_at g i)
read_chance g u i e l = ap (λ (u : Unfolded). slice_index u.chances i) e ∙ get_or-map (chance g) (histories g) i [] 0 (here_below g u i e l)

-- ---- first histories

-- the first that is akin to a history, where that is akin to itself
pub first_akin : (akin : model.History → model.History → Bool) (hs : List model.History) (i : ℕ) → i < length hs → akin (get_or hs i []) (get_or hs i []) ≡ true
    → IsFirstAkin akin hs i (place_of_first (λ k. akin k (get_or hs i [])) hs)
first_akin akin hs i l self = record { within = within (cases_lt i (place_of_first p hs)); same = r.1; before = r.2 }
  where
    p : model.History → Bool
    p k = akin k (get_or hs i [])

    r : (place_of_first p hs < length hs) × (p (get_or hs (place_of_first p hs) []) ≡ true) × ((k : ℕ) → k < place_of_first p hs → p (get_or hs k []) ≡ false)
    r = first_place p hs (place_any p hs i l self)

    within : (i < place_of_first p hs) ⊎ (place_of_first p hs ≤ i) → place_of_first p hs ≤ i
    within (inl h) = absurd (not_both self (r.2 i h))
    within (inr h) = h

-- the numbers of the first histories, and 0 where the test fails
firsts_from : (test : model.History → Bool) (akin : model.History → model.History → Bool) (f : model.History → ℕ) (hs : List model.History) → ((h : model.History) → test h ≡ true → akin h h ≡ true)
    → ((h : model.History) → test h ≡ true → f h ≡ place_of_first (λ k. akin k h) hs) → ((h : model.History) → test h ≡ false → f h ≡ 0) → AreFirsts test akin hs (map f hs)
firsts_from test akin f hs self told none = record {
  count = length-map hs f;
  below = λ i l. below i l (is_true_or (test (get_or hs i [])));
  first = λ i l t. get_or-map f hs i [] 0 l ∙ told (get_or hs i []) t;
}
  where
    below : (i : ℕ) → i < length hs → (test (get_or hs i []) ≡ true) ⊎ (test (get_or hs i []) ≡ false) → get_or (map f hs) i 0 < length hs
    below i l (inl t) =
        subst (λ n. n < length hs) (sym (get_or-map f hs i [] 0 l ∙ told (get_or hs i []) t)) (omega (arith, l, (first_akin akin hs i l (self (get_or hs i []) t)).within))
    below i l (inr e) = subst (λ n. n < length hs) (sym (get_or-map f hs i [] 0 l ∙ none (get_or hs i []) e)) (omega (arith, l))

-- those of nodes
pub node_firsts_are : (g : GameModel) → AreFirsts (λ h. true) (one_node g) (histories g) (map (node_first g) (histories g))
node_firsts_are g =
    firsts_from (λ h. true) (one_node g) (node_first g) (histories g) (λ h t. same_list_from (public_list g h) (public_list g h) refl) (λ h t. refl) (λ h e. absurd (never e))
  where
    never : true ≡ false → ⊥
    never e = cc

-- as they are read of the histories of a game
pub read_node_firsts : (g : GameModel) (u : Unfolded) (firsts : List ℕ) → u ≡ unfolded g → firsts ≡ u.node_firsts → AreFirsts (λ h. true) (one_node g) (histories g) firsts
read_node_firsts g u firsts e r = subst (AreFirsts (λ h. true) (one_node g) (histories g)) (sym (r ∙ ap (λ (u : Unfolded). u.node_firsts) e)) (node_firsts_are g)

-- two histories that are not terminal and see the same are of one set
pub one_set_from : (g : GameModel) (seat : ℕ) (h k : model.History) → is_inner g h ≡ true → is_inner g k ≡ true → seen g seat h ≡ seen g seat k → one_set g seat h k ≡ true
one_set_from g seat h k first second same =
    and_from (is_inner g h) (is_inner g k && is_eq (set_cmp (seen g seat h) (seen g seat k))) first
    (and_from (is_inner g k) (is_eq (set_cmp (seen g seat h) (seen g seat k))) second
    (ap (λ s. is_eq (set_cmp (seen g seat h) s)) (sym same) ∙ ap is_eq (tied_itself set_total (seen g seat h))))

-- the first history of the set of one that is not terminal
set_first_inner : (g : GameModel) (seat : ℕ) (h : model.History) → is_inner g h ≡ true → set_first g seat h ≡ place_of_first (λ k. one_set g seat k h) (histories g)
set_first_inner g seat h t = ap (λ b. cond b (place_of_first (λ k. one_set g seat k h) (histories g)) 0) t

-- those of the sets of a seat
pub set_firsts_are : (g : GameModel) (seat : ℕ) → AreFirsts (is_inner g) (one_set g seat) (histories g) (map (set_first g seat) (histories g))
set_firsts_are g seat =
    firsts_from (is_inner g) (one_set g seat) (set_first g seat) (histories g) (λ h t. one_set_from g seat h h t t refl) (set_first_inner g seat)
    (λ h e. ap (λ b. cond b (place_of_first (λ k. one_set g seat k h) (histories g)) 0) e)

-- as they are read
read_set_firsts : (g : GameModel) (seat : ℕ) (u : Unfolded) (firsts : List ℕ) → (seat ≡ 1) ⊎ (seat ≡ 2) → u ≡ unfolded g → firsts ≡ (if seat == 1 then u.set_firsts1 else u.set_firsts2)
    → AreFirsts (is_inner g) (one_set g seat) (histories g) firsts
read_set_firsts g seat u firsts s e r = subst (AreFirsts (is_inner g) (one_set g seat) (histories g)) (sym (at s)) (set_firsts_are g seat)
  where
    at : (seat ≡ 1) ⊎ (seat ≡ 2) → firsts ≡ map (set_first g seat) (histories g)
    at (inl one) = r ∙ ap (λ n. cond (n == 1) u.set_firsts1 u.set_firsts2) one ∙ ap (λ (u : Unfolded). u.set_firsts1) e ∙ ap (λ n. map (set_first g n) (histories g)) (sym one)
    at (inr two) = r ∙ ap (λ n. cond (n == 1) u.set_firsts1 u.set_firsts2) two ∙ ap (λ (u : Unfolded). u.set_firsts2) e ∙ ap (λ n. map (set_first g n) (histories g)) (sym two)

-- the first histories of the sets of a seat, as they are read by its number
pub seat_firsts : (g : GameModel) (s : Seat) (u : Unfolded) (n : ℕ) (firsts : List ℕ) → n ≡ seat_number s → u ≡ unfolded g → firsts ≡ (if n == 1 then u.set_firsts1 else u.set_firsts2)
    → AreFirsts (is_inner g) (one_set g (seat_number s)) (histories g) firsts
seat_firsts g s u n firsts e f r = read_set_firsts g (seat_number s) u firsts (one_or_two s) f (r ∙ ap (λ n. cond (n == 1) u.set_firsts1 u.set_firsts2) e)

-- the first history of the set of one that is not terminal is of that set, not after it, and not terminal either
pub set_first_there : (g : GameModel) (seat i : ℕ) → i < length (histories g) → is_inner g (get_or (histories g) i []) ≡ true
    → IsFirstAkin (one_set g seat) (histories g) i (set_first g seat (get_or (histories g) i [])) × (is_inner g (get_or (histories g) (set_first g seat (get_or (histories g) i [])) []) ≡ true)
set_first_there g seat i l t = (found, (and_parts (is_inner g (get_or (histories g) f [])) (is_inner g h && is_eq (set_cmp (seen g seat (get_or (histories g) f [])) (seen g seat h))) found.same).0)
  where
    h : model.History
    h = get_or (histories g) i []

    f : ℕ
    f = set_first g seat h

    found : IsFirstAkin (one_set g seat) (histories g) i f
    found = subst (IsFirstAkin (one_set g seat) (histories g) i) (sym (set_first_inner g seat h t)) (first_akin (one_set g seat) (histories g) i l (one_set_from g seat h h t t refl))
