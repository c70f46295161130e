-- The rows of a game: how many there are, their numbers, their worths and their last sets.
use Rattle.std.proofs.Common.{◌≡◌, ℕ, suc, ◌^◌, ◌<◌, ◌≤◌, ℤ, pos, ◌+ℤ◌, ◌*ℤ◌, ◌⊎◌, List, [], ◌∷◌, Bool, true, false, cond, map, length, get_or, Option, Some, None, refl, sym, ap, ◌∙◌, subst, arith, inl, inr}
use Rattle.std.specs.Prelude.{not, ◌==◌, if◌then◌else◌}
use Rattle.std.specs.Ordering.{is_lt, is_eq, ordering_then}
use Rattle.std.specs.declared.cmp.Ordering.TheVariants.{Less}
use Rattle.std.specs.Cmp.{IsTotalOrder}
use Rattle.std.proofs.lemmas.Cmp.{then_total, on_total, tied_itself}
use Rattle.std.proofs.lemmas.Int.{ints}
use Rattle.std.proofs.lemmas.List.{get_or-map, length-map}
use Rattle.lab_math.specs.Sums.{total}
use Rattle.lab_math.proofs.Members.{In, all_in, all_from_in, in_from_filter, in_get_or}
use Rattle.lab_defs_text.specs.Games.{GameModel}
use Rattle.lab_defs_text.specs.Texts.{place_at, is_world}
use Rattle.lab_defs_game.specs.Keys.{count, number_of, list_cmp}
use Rattle.lab_defs_game.specs.Histories as model
use Rattle.lab_defs_game.specs.Chance.{chance}
use Rattle.lab_defs_game.specs.Laws.{history_cmp}
use Rattle.lab_defs_game.specs.Sets.{public_list, seen, set_number}
use Rattle.lab_defs_game.specs.Nodes.{nodes, node_ends, ends_by_nodes}
use Rattle.lab_defs_game.specs.Unfolding.{unfold_fault}
use Rattle.lab_defs_game.proofs.Groups.{ends_total, ends_from, ends_length}
use Rattle.lab_defs_game.proofs.HistoryOrder.{history_total, ascending_flat_map}
use Rattle.lab_defs_game.proofs.KeyLemmas.{Ascending, filter_ascending}
use Rattle.lab_defs_game.proofs.Legal.{history_legal}
use Rattle.lab_defs_game.proofs.NumberLemmas.{number_at, at_number, number_below, count_le_length, length-filter, is_true_or, count_at_true, count_at_false}
use Rattle.lab_defs_game.proofs.Orders.{list_total, list_exact}
use Rattle.lab_defs_game.proofs.Spans.{eq_is}
use Rattle.lab_defs_game.proofs.GameLemmas.{nodes_ascending, steps_inner}
use Rattle.lab_defs_game.proofs.TreeLaws.{along_law}
use Rattle.lab_defs_game.proofs.UnfoldLaws.{accepted_law}
use Rattle.lab_unfold.proofs.CallerLemmas.{ascending, number_is, scale_le, all_length}
use Rattle.lab_unfold.specs.Parents.{history_at, Behind}
use Rattle.lab_unfold.specs.Values.{Unfolded, unfolded, history_number, step_in}
use Rattle.lab_unfold.specs.declared.history.Step.{Step}
use Rattle.lab_defs_game.proofs.ChanceSizes.{chance_le}
use Rattle.lab_units.specs.declared.worth.Worth.{Worth}
use Rattle.lab_form.specs.declared.items.SetId.{SetId}
use Rattle.lab_tree.specs.declared.end.End.{End}
use Rattle.lab_tree.specs.declared.info.RowInfo.{RowInfo}
use Rattle.lab_tree.specs.Trees.{row_cmp, set_id, set_at, taken_in, last_in, row_in}
use Rattle.lab_tree.specs.Ends.{end_in}

-- ---- counting

-- a count as a sum of integers
count_total : {X : Type 0} (p : X → Bool) (xs : List X) → pos (count p xs) ≡ total (λ x. cond (p x) (pos 1) (pos 0)) xs
count_total p [] = refl
count_total p (x ∷ xs) = let rest = count_total p xs in at (is_true_or (p x)) rest
  where
    at : (p x ≡ true) ⊎ (p x ≡ false) → pos (count p xs) ≡ total (λ x. cond (p x) (pos 1) (pos 0)) xs → pos (count p (x ∷ xs)) ≡ total (λ x. cond (p x) (pos 1) (pos 0)) (x ∷ xs)
    at (inl e) r = ap pos (count_at_true p x xs e) ∙ more (count p xs) (total (λ x. cond (p x) (pos 1) (pos 0)) xs) r ∙ sym (ap (λ b. cond b (pos 1) (pos 0) +ℤ total (λ x. cond (p x) (pos 1) (pos 0)) xs) e)
      where
        more : (n : ℕ) (z : ℤ) → pos n ≡ z → pos (suc n) ≡ pos 1 +ℤ z
        more n z e = omega (arith, ints, e)
    at (inr e) r = ap pos (count_at_false p x xs e) ∙ same (count p xs) (total (λ x. cond (p x) (pos 1) (pos 0)) xs) r ∙ sym (ap (λ b. cond b (pos 1) (pos 0) +ℤ total (λ x. cond (p x) (pos 1) (pos 0)) xs) e)
      where
        same : (n : ℕ) (z : ℤ) → pos n ≡ z → pos n ≡ pos 0 +ℤ z
        same n z e = omega (arith, ints, e)

-- as many terminal histories pass a test node by node as in order
count_ends : (g : GameModel) (p : model.History → Bool) → count p (ends_by_nodes g) ≡ count p (model.terminal_histories g)
count_ends g p =
    inside (count p (ends_by_nodes g)) (count p (model.terminal_histories g))
    (count_total p (ends_by_nodes g) ∙ ends_total g (λ h. cond (p h) (pos 1) (pos 0)) ∙ sym (count_total p (model.terminal_histories g)))
  where
    inside : (m n : ℕ) → pos m ≡ pos n → m ≡ n
    inside m n e = cc

-- there are no more of them than histories
pub ends_few : (g : GameModel) → length (ends_by_nodes g) ≤ length (model.histories g)
ends_few g =
    omega (arith, ends_length g, length-filter (model.is_terminal g) (model.histories g), count_le_length (model.is_terminal g) (model.histories g))

-- each is a history, and terminal
pub end_there : (g : GameModel) (h : model.History) → In h (ends_by_nodes g) → In h (model.histories g) × (model.is_terminal g h ≡ true)
end_there g h i = in_from_filter (model.is_terminal g) (model.histories g) h (ends_from g h i)

-- ---- numbers of rows

-- the order of rows is total
row_order : (g : GameModel) → IsTotalOrder (row_cmp g)
row_order g = then_total (on_total (public_list g) list_total) history_total

-- the terminal histories by nodes stand in this order
ends_ascending : (g : GameModel) → Ascending (row_cmp g) (ends_by_nodes g)
ends_ascending g = ascending_flat_map list_cmp (row_cmp g) (node_ends g) (nodes g) (nodes_ascending g) one_node two_nodes
  where
    public_at : (p : List ℕ) (h : model.History) → In h (node_ends g p) → public_list g h ≡ p
    public_at p h i =
        list_exact (public_list g h) p (eq_is (list_cmp (public_list g h) p) (in_from_filter (λ h. is_eq (list_cmp (public_list g h) p)) (model.terminal_histories g) h i).1)

    by_history : (p : List ℕ) (hs : List model.History) → Ascending history_cmp hs → ((h : model.History) → In h hs → public_list g h ≡ p) → Ascending (row_cmp g) hs
    by_history p [] a e = tt
    by_history p (h ∷ hs) a e = (
      all_from_in (λ k. row_cmp g h k ≡ Less) hs (λ k i.
          ap (λ q. ordering_then (list_cmp q (public_list g k)) (history_cmp h k)) (e h (inl refl)) ∙ ap (λ q. ordering_then (list_cmp p q) (history_cmp h k)) (e k (inr i))
          ∙ ap (λ o. ordering_then o (history_cmp h k)) (tied_itself list_total p) ∙ all_in (λ k. history_cmp h k ≡ Less) hs k a.0 i),
      by_history p hs a.1 (λ k i. e k (inr i)),
    )

    one_node : (p : List ℕ) → In p (nodes g) → Ascending (row_cmp g) (node_ends g p)
    one_node p i =
        by_history p (node_ends g p)
        (filter_ascending history_cmp (λ h. is_eq (list_cmp (public_list g h) p)) (model.terminal_histories g) (filter_ascending history_cmp (model.is_terminal g) (model.histories g) (ascending g)))
        (public_at p)

    two_nodes : (p q : List ℕ) → In p (nodes g) → In q (nodes g) → list_cmp p q ≡ Less → (h k : model.History) → In h (node_ends g p) → In k (node_ends g q) → row_cmp g h k ≡ Less
    two_nodes p q i j l h k ih ik =
        ap (λ x. ordering_then (list_cmp x (public_list g k)) (history_cmp h k)) (public_at p h ih) ∙ ap (λ x. ordering_then (list_cmp p x) (history_cmp h k)) (public_at q k ik)
        ∙ ap (λ o. ordering_then o (history_cmp h k)) l

-- the number of a row is its place
pub row_number : (g : GameModel) (i : ℕ) → i < length (ends_by_nodes g) → number_of (row_cmp g) (model.terminal_histories g) (get_or (ends_by_nodes g) i []) ≡ i
row_number g i l =
    sym (count_ends g (λ h. is_lt (row_cmp g h (get_or (ends_by_nodes g) i [])))) ∙ number_at (row_cmp g) (row_order g) (ends_by_nodes g) i [] (ends_ascending g) l

-- ---- worths

-- chances are at most 2 ^ 64
pub chance_small : (g : GameModel) (h : model.History) → unfold_fault g ≡ None → 0 < g.grid → In h (model.histories g) → chance g h ≤ 2 ^ 64
chance_small g h ok some i = omega (arith, chance_le g h (history_legal g h i).1, scale_le g some, ((accepted_law g).0 ok).2)

-- ---- last sets

-- the set before the last step, and the action there
pub last_behind : (g : GameModel) (seat i j : ℕ) → (b : Behind g i j)
    → last_in g seat (history_at g i) ≡ (set_id (set_number g seat (seen g seat (history_at g j))), if seat == 1 then b.step.action1 else b.step.action2)
last_behind g seat i j b =
    ap (last_in g seat) b.made
    ∙ ap (λ o. taken_in (elim o [ Some t ↦ t | None ↦ record { set = 0; action = 0 } ])) (along_law g seat (history_at g j) b.step).1

-- a history with a step behind it has a set
pub set_behind : (g : GameModel) (seat i j : ℕ) → (b : Behind g i j) → set_at g seat (history_at g j) ≡ Some (set_id (set_number g seat (seen g seat (history_at g j))))
set_behind g seat i j b =
    ap (λ w. cond w (Some (set_id (set_number g seat (seen g seat (history_at g j))))) None) (steps_inner (model.place_of g (history_at g j)) b.step b.legal)

-- a terminal history is one with a step, since the root is a world
pub terminal_long : (g : GameModel) (h : model.History) → is_world (place_at g g.root) ≡ true → model.is_terminal g h ≡ true → h ≡ [] → ⊥
terminal_long g h root t e = never (ap not (sym root) ∙ ap (model.is_terminal g) (sym e) ∙ t)
  where
    never : false ≡ true → ⊥
    never e = cc

-- the terminal history with a number among them, by its own number
pub record EndAt (g : GameModel) (u : Unfolded) (k i : ℕ) : Type 0 where
  pub there : i < length u.items
  pub below : i < length (model.histories g)
  pub is : history_at g i ≡ get_or (ends_by_nodes g) k []
  pub terminal : model.is_terminal g (history_at g i) ≡ true

-- the one that is read
pub end_at : (g : GameModel) (u : Unfolded) (ends : List End) (k : ℕ) (d : End) → u ≡ unfolded g → ends ≡ map (end_in g) (ends_by_nodes g) → k < length ends → EndAt g u k (get_or ends k d).history
end_at g u ends k d e all l =
    let below : k < length (ends_by_nodes g) = subst (λ n. k < n) (ap length all ∙ length-map (ends_by_nodes g) (end_in g)) l in
    let h = get_or (ends_by_nodes g) k [] in
    let n : (get_or ends k d).history ≡ history_number g h = ap (λ es. (get_or es k d).history) all ∙ ap (λ (x : End). x.history) (get_or-map (end_in g) (ends_by_nodes g) k [] d below) in
    let t = end_there g h (in_get_or (ends_by_nodes g) k [] below) in
    let is : history_at g (get_or ends k d).history ≡ h = ap (history_at g) n ∙ at_number history_cmp history_total (model.histories g) h [] (ascending g) t.0 in
    record {
      there = subst (λ m. m < length u.items) (sym n) (subst (λ m. history_number g h < m) (sym (all_length g u.items (ap (λ (u : Unfolded). u.items) e))) (number_below history_cmp history_total (model.histories g) h (ascending g) t.0));
      below = subst (λ m. m < length (model.histories g)) (sym n) (number_below history_cmp history_total (model.histories g) h (ascending g) t.0);
      is = is;
      terminal = ap (model.is_terminal g) is ∙ t.1;
    }

-- a row, by what is found of its parts
pub row_is : (g : GameModel) (u : Unfolded) (k i : ℕ) (worth : Worth) (first second : SetId × ℕ) → EndAt g u k i → k < length (ends_by_nodes g)
    → worth.0 ≡ pos (chance g (history_at g i)) *ℤ model.payoff g (history_at g i) → first ≡ last_in g 1 (history_at g i) → second ≡ last_in g 2 (history_at g i)
    → ◌≡◌ {A = RowInfo} (record { id = record { 0 = k }; history = record { 0 = i }; worth = worth; last = first ∷ second ∷ [] }) (row_in g (get_or (ends_by_nodes g) k []))
row_is g u k i worth first second a l w f s =
    ap (λ n. told n i worth first second) (sym (row_number g k l) ∙ ap (number_of (row_cmp g) (model.terminal_histories g)) (sym a.is))
    ∙ ap (λ n. told (number_of (row_cmp g) (model.terminal_histories g) h) n worth first second) (sym (number_is g i a.below))
    ∙ ap (λ z. told (number_of (row_cmp g) (model.terminal_histories g) h) (history_number g h) (record { 0 = z }) first second) w
    ∙ ap (λ x. told (number_of (row_cmp g) (model.terminal_histories g) h) (history_number g h) (record { 0 = pos (chance g h) *ℤ model.payoff g h }) x second) f
    ∙ ap (λ x. told (number_of (row_cmp g) (model.terminal_histories g) h) (history_number g h) (record { 0 = pos (chance g h) *ℤ model.payoff g h }) (last_in g 1 h) x) s
    ∙ ap (row_in g) a.is
  where
    h : model.History
    h = history_at g i

    told : ℕ → ℕ → Worth → SetId × ℕ → SetId × ℕ → RowInfo
    told k i worth first second = record { id = record { 0 = k }; history = record { 0 = i }; worth = worth; last = first ∷ second ∷ [] }

-- what is found of the last set and its action is what the game has
pub last_found : (g : GameModel) (seat i j : ℕ) → (b : Behind g i j) → (set : SetId) (action : ℕ) (o : Option SetId) (p : Option Step) (step : Step)
    → o ≡ Some (set_id (set_number g seat (seen g seat (history_at g j)))) → o ≡ Some set → p ≡ Some (step_in b.step) → p ≡ Some step
    → action ≡ (if seat == 1 then step.place1 else step.place2) → ◌≡◌ {A = SetId × ℕ} (set, action) (last_in g seat (history_at g i))
last_found g seat i j b set action o p step e f r q a =
    ap (λ s. told s action) (same_set set (set_id (set_number g seat (seen g seat (history_at g j)))) (sym f ∙ e))
    ∙ ap (told (set_id (set_number g seat (seen g seat (history_at g j))))) (a ∙ ap (λ (s : Step). cond (seat == 1) s.place1 s.place2) (same_step step (step_in b.step) (sym q ∙ r)))
    ∙ sym (last_behind g seat i j b)
  where
    told : SetId → ℕ → SetId × ℕ
    told s n = (s, n)

    same_set : (s t : SetId) → ◌≡◌ {A = Option SetId} (Some s) (Some t) → s ≡ t
    same_set s t e = cc

    same_step : (s t : Step) → ◌≡◌ {A = Option Step} (Some s) (Some t) → s ≡ t
    same_step s t e = cc
