-- What an accepted game has: as many actions in each history of a set, ends within the horizon, worlds that are whole.
use Rattle.std.proofs.Common.{◌≡◌, ℕ, zero, suc, ◌+◌, ◌*◌, ◌/◌, ◌<◌, ◌≤◌, pos, List, [], ◌∷◌, ◌++◌, Bool, true, false, cond, map, filter, flat_map, length, get_or, Option, Some, None, refl, sym, ap, ◌∙◌, subst, arith, inl, inr, ◌⊎◌}
use Rattle.std.specs.Prelude.{◌&&◌, ◌==◌, nat_lt, nat_le, if◌then◌else◌, slice_index}
use Rattle.std.specs.List.{list_all}
use Rattle.std.specs.Ordering.{is_eq}
use Rattle.std.proofs.lemmas.List.{get_or-map, length-map}
use Rattle.std.proofs.Math.Nat.{mul-div_cancel'}
use Rattle.std.proofs.lemmas.Bool.{and_parts, eqb-true, eq-eqb, ltb-true, cases_lt}
use Rattle.std.proofs.lemmas.Cmp.{tied_itself}
use Rattle.lab_math.proofs.Ranges.{list_all_get}
use Rattle.lab_math.proofs.Multiples.{divides_lcm_of}
use Rattle.lab_math.proofs.Members.{In, in_get_or, in_filter, in_map, in_flat_map, contains_from_in}
use Rattle.lab_math.proofs.NaturalSums.{greatest_over-least}
use Rattle.lab_defs_text.specs.Words.{Bytes, are_names, is_name, apart_after}
use Rattle.lab_defs_text.specs.Games.{GameModel, Place, World, a_world, an_end, Outcome}
use Rattle.lab_defs_text.specs.Texts.{place_at, is_world, game_ok, place_ok, row_ok, is_within}
use Rattle.lab_defs_game.specs.Keys.{count}
use Rattle.lab_defs_game.specs.Histories.{History, Step, actions_at, row_of, place_of, reached, outcome_of, steps_of, longer, histories, inner_histories, action_names}
use Rattle.lab_defs_game.specs.Sets.{seen, set_cmp, sets, set_number, first_actions, set_actions, decisions_from, most_decisions}
use Rattle.lab_defs_game.specs.Forms.{FormSet, game_set, game_sets, game_actions, parent_at, decides, deciding}
use Rattle.lab_defs_game.specs.Paths.{SetAction, path_along, parent}
use Rattle.lab_defs_game.specs.Chance.{row_total, totals_at, chance_unit}
use Rattle.lab_defs_game.specs.Unfolding.{UnfoldFault, too_many_histories, horizon_passed, standing, first_too_many, first_world, size_fault, horizon_fault, unfold_fault}
use Rattle.lab_defs_game.specs.Laws.{AlikeNames, IsStep}
use Rattle.lab_defs_game.proofs.HistoryCounts.{level, standing_is}
use Rattle.lab_defs_game.proofs.NumberLemmas.{number_below, at_number}
use Rattle.lab_defs_game.proofs.Orders.{set_total, set_exact}
use Rattle.lab_defs_game.proofs.Spans.{eq_is}
use Rattle.lab_defs_game.proofs.GameLemmas.{Longer, history_cases, before_inner, set_has, sets_ascending}
use Rattle.lab_defs_game.proofs.Legal.{length_push}
use Rattle.lab_defs_game.proofs.RecallLemmas.{not_both, inner_world}
use Rattle.lab_defs_game.proofs.TreeLaws.{along_law}

-- ---- actions of sets

-- how many names there are is how many actions there are
names_count : (seat : ℕ) (p : Place) → length (action_names seat p) ≡ actions_at seat p
names_count seat (a_world w) = at (seat == 1)
  where
    at : (b : Bool) → length (cond b w.one w.two) ≡ cond b (length w.one) (length w.two)
    at true = refl
    at false = refl
names_count seat (an_end z) = refl

-- histories with the same names have as many actions
same_count : (g : GameModel) (seat : ℕ) → AlikeNames g seat → (h k : History) → In h (inner_histories g) → In k (inner_histories g) → seen g seat h ≡ seen g seat k
    → actions_at seat (place_of g h) ≡ actions_at seat (place_of g k)
same_count g seat a h k i j e =
    sym (names_count seat (place_of g h)) ∙ ap length (a h k (contains_from_in (inner_histories g) h i) (contains_from_in (inner_histories g) k j) e) ∙ names_count seat (place_of g k)

-- the first history of a set has as many actions as any other
first_actions_are : (g : GameModel) (seat : ℕ) (h : History) (hs : List History) → In h hs
    → ((k : History) → In k hs → seen g seat k ≡ seen g seat h → actions_at seat (place_of g k) ≡ actions_at seat (place_of g h))
    → first_actions g seat (seen g seat h) hs ≡ actions_at seat (place_of g h)
first_actions_are g seat h [] i same = absurd i
first_actions_are g seat h (k ∷ hs) i same = at (is_eq (set_cmp (seen g seat k) (seen g seat h))) refl i (λ j. first_actions_are g seat h hs j (λ l r. same l (inr r)))
  where
    at : (b : Bool) → is_eq (set_cmp (seen g seat k) (seen g seat h)) ≡ b → In h (k ∷ hs) → (In h hs → first_actions g seat (seen g seat h) hs ≡ actions_at seat (place_of g h))
        → cond b (actions_at seat (place_of g k)) (first_actions g seat (seen g seat h) hs) ≡ actions_at seat (place_of g h)
    at true e j rest = same k (inl refl) (set_exact (seen g seat k) (seen g seat h) (eq_is (set_cmp (seen g seat k) (seen g seat h)) e))
    at false e (inl q) rest = absurd (not_both (ap (λ l. is_eq (set_cmp (seen g seat l) (seen g seat h))) q ∙ ap is_eq (tied_itself set_total (seen g seat h))) e)
    at false e (inr j) rest = rest j

-- there are as many numbers of actions as sets
pub game_actions_length : (g : GameModel) (seat : ℕ) → length (game_actions g seat) ≡ length (sets g seat)
game_actions_length g seat = length-map (game_sets g seat) (λ s. s.actions) ∙ length-map (sets g seat) (game_set g seat)

-- that of a set is how many actions there are
pub game_actions_at : (g : GameModel) (seat J : ℕ) → J < length (sets g seat) → slice_index (game_actions g seat) J ≡ set_actions g seat (get_or (sets g seat) J [])
game_actions_at g seat J l =
    let none : FormSet = record { parent = None; actions = 0 } in
    get_or-map (λ (s : FormSet). s.actions) (game_sets g seat) J none 0 (subst (λ n. J < n) (sym (length-map (sets g seat) (game_set g seat))) l)
    ∙ ap (λ (s : FormSet). s.actions) (get_or-map (game_set g seat) (sets g seat) J [] none l)

-- its parent is what it follows
pub game_parents_at : (g : GameModel) (seat J : ℕ) → J < length (sets g seat) → parent_at (game_sets g seat) J ≡ parent g seat (get_or (sets g seat) J [])
game_parents_at g seat J l =
    let none : FormSet = record { parent = None; actions = 0 } in
    get_or-map (λ (s : FormSet). s.parent) (game_sets g seat) J none None (subst (λ n. J < n) (sym (length-map (sets g seat) (game_set g seat))) l)
    ∙ ap (λ (s : FormSet). s.parent) (get_or-map (game_set g seat) (sets g seat) J [] none l)

-- the actions of the set with a history's number are those at the history
pub actions_of_set : (g : GameModel) (seat : ℕ) → AlikeNames g seat → (h : History) → In h (inner_histories g)
    → slice_index (game_actions g seat) (set_number g seat (seen g seat h)) ≡ actions_at seat (place_of g h)
actions_of_set g seat a h i =
    let s = seen g seat h in
    let j = set_has g seat h i in
    game_actions_at g seat (set_number g seat s) (number_below set_cmp set_total (sets g seat) s (sets_ascending g seat) j)
    ∙ ap (set_actions g seat) (at_number set_cmp set_total (sets g seat) s [] (sets_ascending g seat) j)
    ∙ first_actions_are g seat h (inner_histories g) i (λ k j e. same_count g seat a k h j i e)

-- the number of a history's set is that of a set
pub set_below : (g : GameModel) (seat : ℕ) (h : History) → In h (inner_histories g) → set_number g seat (seen g seat h) < length (sets g seat)
set_below g seat h i = number_below set_cmp set_total (sets g seat) (seen g seat h) (sets_ascending g seat) (set_has g seat h i)

-- ---- decisions

-- one more item is counted where it passes
pub count_push : {K : Type 0} (p : K → Bool) (xs : List K) (x : K) → count p (xs ++ x ∷ []) ≡ count p xs + cond (p x) 1 0
count_push p [] x = omega arith
count_push p (y ∷ xs) x = omega (arith, count_push p xs x)

-- one more world is counted where the seat decides
pub decisions_push : (g : GameModel) (seat n : ℕ) (h : History) (s : Step)
    → decisions_from g seat n (h ++ s ∷ []) ≡ decisions_from g seat n h + cond (nat_le 2 (actions_at seat (place_at g (reached g n h)))) 1 0
decisions_push g seat n [] s = omega arith
decisions_push g seat n (t ∷ h) s = omega (arith, decisions_push g seat (outcome_of g n t).next h s)

-- the deciding sets on the path of a history are the worlds where the seat decides
deciding_are : (g : GameModel) (seat : ℕ) → AlikeNames g seat → (n : ℕ) (h : History) → length h ≤ n → In h (histories g)
    → deciding (game_actions g seat) (path_along g seat h) ≡ decisions_from g seat g.root h
deciding_are g seat a zero [] le i = refl
deciding_are g seat a zero (s ∷ h) le i = absurd (omega (arith, le))
deciding_are g seat a (suc n) h le i = at (history_cases g h i) (λ k l j. deciding_are g seat a n k l j)
  where
    at : (h ≡ []) ⊎ Longer g (histories g) h → ((k : History) → length k ≤ n → In k (histories g) → deciding (game_actions g seat) (path_along g seat k) ≡ decisions_from g seat g.root k)
        → deciding (game_actions g seat) (path_along g seat h) ≡ decisions_from g seat g.root h
    at (inl e) rest = ap (λ k. deciding (game_actions g seat) (path_along g seat k)) e ∙ sym (ap (decisions_from g seat g.root) e)
    at (inr r) rest =
        let k = r.before in
        let t : SetAction = record { set = set_number g seat (seen g seat k); action = if seat == 1 then r.step.action1 else r.step.action2 } in
        let len : length h ≡ suc (length k) = ap length r.made ∙ length_push k r.step in
        ap (λ x. deciding (game_actions g seat) (path_along g seat x)) r.made
        ∙ ap (deciding (game_actions g seat)) (along_law g seat k r.step).0
        ∙ count_push (λ u. decides (game_actions g seat) u.set) (path_along g seat k) t
        ∙ ap (λ m. deciding (game_actions g seat) (path_along g seat k) + cond (nat_le 2 m) 1 0) (actions_of_set g seat a k (before_inner g h r))
        ∙ ap (λ m. m + cond (nat_le 2 (actions_at seat (place_of g k))) 1 0) (rest k (omega (arith, le, len)) r.there)
        ∙ sym (decisions_push g seat g.root k r.step)
        ∙ sym (ap (decisions_from g seat g.root) r.made)

-- no path has more deciding sets than the most
pub deciding_most : (g : GameModel) (seat : ℕ) → AlikeNames g seat → (h : History) → In h (histories g) → deciding (game_actions g seat) (path_along g seat h) ≤ most_decisions g seat
deciding_most g seat a h i =
    subst (λ n. n ≤ most_decisions g seat) (sym (deciding_are g seat a (length h) h (omega arith) i)) (greatest_over-least (decisions_from g seat g.root) (histories g) h i)

-- ---- the horizon

-- a history of t steps is at the level t
pub in_level : (g : GameModel) (t : ℕ) (h : History) → In h (histories g) → length h ≡ t → In h (level g t)
in_level g zero [] i e = inl refl
in_level g zero (s ∷ h) i e = absurd (omega (arith, e))
in_level g (suc t) h i e = at (history_cases g h i) (λ k j l. in_level g t k j l)
  where
    at : (h ≡ []) ⊎ Longer g (histories g) h → ((k : History) → In k (histories g) → length k ≡ t → In k (level g t)) → In h (level g (suc t))
    at (inl q) rest = let l = ap length q in absurd (omega (arith, e, l))
    at (inr r) rest =
        let len : length h ≡ suc (length r.before) = ap length r.made ∙ length_push r.before r.step in
        subst (λ k. In k (level g (suc t))) (sym r.made)
        (in_flat_map (longer g) (level g t) r.before (r.before ++ r.step ∷ []) (rest r.before r.there (omega (arith, e, len)))
        (in_map (λ s. r.before ++ s ∷ []) (steps_of (place_of g r.before)) r.step r.legal))

-- the place of the first of these histories that is not terminal
abbrev pub first_open : GameModel → List History → Option ℕ
first_open g [] = None
first_open g (h ∷ hs) = if is_world (place_of g h) then Some (reached g g.root h) else first_open g hs

-- the first world among the places of histories
first_world_of : (g : GameModel) (hs : List History) → first_world g (map (reached g g.root) hs) ≡ first_open g hs
first_world_of g [] = refl
first_world_of g (h ∷ hs) = ap (λ o. cond (is_world (place_of g h)) (Some (reached g g.root h)) o) (first_world_of g hs)

-- the first world where the histories of t steps stand
pub first_world_is : (g : GameModel) (t : ℕ) → first_world g (standing g t) ≡ first_open g (level g t)
first_world_is g t = ap (first_world g) (standing_is g t) ∙ first_world_of g (level g t)

-- where none is found open, all are terminal
pub none_open : (g : GameModel) (hs : List History) → first_open g hs ≡ None → (h : History) → In h hs → is_world (place_of g h) ≡ false
none_open g [] e h i = absurd i
none_open g (k ∷ hs) e h i = at (is_world (place_of g k)) refl e i (λ f j. none_open g hs f h j)
  where
    never : (n : ℕ) → ◌≡◌ {A = Option ℕ} (Some n) None → ⊥
    never n e = cc

    at : (b : Bool) → is_world (place_of g k) ≡ b → cond b (Some (reached g g.root k)) (first_open g hs) ≡ None → In h (k ∷ hs)
        → (first_open g hs ≡ None → In h hs → is_world (place_of g h) ≡ false) → is_world (place_of g h) ≡ false
    at true q f j rest = absurd (never (reached g g.root k) f)
    at false q f (inl p) rest = ap (λ x. is_world (place_of g x)) (sym p) ∙ q
    at false q f (inr j) rest = rest f j

-- a game that is unfolded has its histories, and what is then said
histories_few : (g : GameModel) → unfold_fault g ≡ None → horizon_fault g ≡ None
histories_few g e = at (first_too_many g 0 (g.horizon + 1)) e
  where
    at : (o : Option ℕ) → ◌≡◌ {A = Option UnfoldFault} (elim o [ Some t ↦ Some (too_many_histories t) | None ↦ horizon_fault g ]) None → horizon_fault g ≡ None
    at None e = e
    at (Some t) e = absurd (never e)
      where
        never : ◌≡◌ {A = Option UnfoldFault} (Some (too_many_histories t)) None → ⊥
        never e = cc

-- and none is open at the horizon
none_left : (g : GameModel) → horizon_fault g ≡ None → first_open g (level g g.horizon) ≡ None
none_left g e = sym (first_world_is g g.horizon) ∙ at (first_world g (standing g g.horizon)) e
  where
    at : (o : Option ℕ) → ◌≡◌ {A = Option UnfoldFault} (elim o [ Some n ↦ Some (horizon_passed n) | None ↦ size_fault g ]) None → o ≡ None
    at None e = refl
    at (Some n) e = absurd (never e)
      where
        never : ◌≡◌ {A = Option UnfoldFault} (Some (horizon_passed n)) None → ⊥
        never e = cc

-- a history of a game that is unfolded ends within the horizon
pub ends_within : (g : GameModel) → unfold_fault g ≡ None → (h : History) → In h (histories g) → length h ≡ g.horizon → is_world (place_of g h) ≡ false
ends_within g e h i l = none_open g (level g g.horizon) (none_left g (histories_few g e)) h (in_level g g.horizon h i l)

-- ---- whole worlds

-- a world of a game has names, and a row for each joint action
pub world_ok : (g : GameModel) (n : ℕ) → game_ok g ≡ true → is_world (place_at g n) ≡ true → place_ok g (place_at g n) ≡ true
world_ok g n ok e = at (cases_lt n (length g.places))
  where
    all : list_all (place_ok g) g.places ≡ true
    all =
        let a = and_parts (is_within 1 4096 g.grid) _ ok in
        let b = and_parts (is_within 1 32 g.horizon) _ a.1 in
        let c = and_parts (are_names g.tokens) _ b.1 in
        let d = and_parts (are_names g.names) _ c.1 in
        let f = and_parts (length g.places == length g.names) _ d.1 in
        (and_parts (list_all (place_ok g) g.places) _ f.1).0

    at : (n < length g.places) ⊎ (length g.places ≤ n) → place_ok g (place_at g n) ≡ true
    at (inl l) = list_all_get (place_ok g) g.places n (an_end (pos 0)) l all
    at (inr l) = absurd (not_both e (ap is_world (beyond g.places n l)))
      where
        beyond : (ps : List Place) (n : ℕ) → length ps ≤ n → get_or ps n (an_end (pos 0)) ≡ an_end (pos 0)
        beyond [] n l = refl
        beyond (p ∷ ps) zero l = absurd (omega (arith, l))
        beyond (p ∷ ps) (suc n) l = beyond ps n (omega (arith, l))

-- there is a name
names_some : (ns : List Bytes) → are_names ns ≡ true → 0 < length ns
names_some ns e = ltb-true 0 (length ns) (and_parts (nat_lt 0 (length ns)) (list_all is_name ns && apart_after [] ns) e).0

-- each seat has an action at a world
pub some_action : (g : GameModel) (seat : ℕ) (p : Place) → place_ok g p ≡ true → is_world p ≡ true → 0 < actions_at seat p
some_action g seat (an_end z) ok e = absurd cc
some_action g seat (a_world w) ok e =
    let a = and_parts (are_names w.one) _ ok in
    let b = and_parts (are_names w.two) _ a.1 in
    at (seat == 1) (names_some w.one a.0) (names_some w.two b.0)
  where
    at : (b : Bool) → 0 < length w.one → 0 < length w.two → 0 < cond b (length w.one) (length w.two)
    at true x y = x
    at false x y = y

-- the row of a joint action is one of the rows
row_in : (g : GameModel) (w : World) (a b : ℕ) → place_ok g (a_world w) ≡ true → a < length w.one → b < length w.two → In (row_of (a_world w) a b) w.rows
row_in g w a b ok la lb =
    let p = and_parts (are_names w.one) _ ok in
    let q = and_parts (are_names w.two) _ p.1 in
    let r = and_parts (length w.rows == length w.one * length w.two) _ q.1 in
    let n : length w.rows ≡ length w.one * length w.two = eqb-true (length w.rows) (length w.one * length w.two) r.0 in
    in_get_or w.rows (a * length w.two + b) [] (subst (λ m. a * length w.two + b < m) (sym n) (below a (length w.one) b (length w.two) la lb))
  where
    below : (a n b m : ℕ) → a < n → b < m → a * m + b < n * m
    below a zero b m la lb = absurd (omega (arith, la))
    below zero (suc n) b m la lb = omega (arith, lb)
    below (suc a) (suc n) b m la lb = let r = below a n b m (omega (arith, la)) lb in omega (arith, r)

-- the total of the row of a joint action is one of the totals
total_in : (g : GameModel) (p : Place) (a b : ℕ) → place_ok g p ≡ true → a < actions_at 1 p → b < actions_at 2 p → In (row_total (row_of p a b)) (totals_at p)
total_in g (an_end z) a b ok la lb = absurd (omega (arith, la))
total_in g (a_world w) a b ok la lb = in_map row_total w.rows (row_of (a_world w) a b) (row_in g w a b ok la lb)

-- the unit of a step is a multiple of the total of each row where a history may stand before it
pub unit_whole : (g : GameModel) (h : History) (a b : ℕ) → game_ok g ≡ true → In h (inner_histories g) → a < actions_at 1 (place_of g h) → b < actions_at 2 (place_of g h)
    → row_total (row_of (place_of g h) a b) * (chance_unit g (length h) / row_total (row_of (place_of g h) a b)) ≡ chance_unit g (length h)
unit_whole g h a b ok i la lb =
    let p = place_of g h in
    let hs = filter (λ k. length k == length h) (inner_histories g) in
    let there : In h hs = in_filter (λ k. length k == length h) (inner_histories g) h i (eq-eqb (length h) (length h) refl) in
    let total = total_in g p a b (world_ok g (reached g g.root h) ok (inner_world g h i).1) la lb in
    mul-div_cancel' (row_total (row_of p a b)) (divides_lcm_of (flat_map (λ k. totals_at (place_of g k)) hs) (row_total (row_of p a b)) (in_flat_map (λ k. totals_at (place_of g k)) hs h (row_total (row_of p a b)) there total))

-- a step leads out of a world
pub some_step : (g : GameModel) (p : Place) → place_ok g p ≡ true → is_world p ≡ true → (s : Step) × IsStep p s
some_step g (an_end z) ok e = absurd cc
some_step g (a_world w) ok e =
    let a = and_parts (are_names w.one) _ ok in
    let b = and_parts (are_names w.two) _ a.1 in
    let c = and_parts (length w.rows == length w.one * length w.two) _ b.1 in
    let l1 = names_some w.one a.0 in
    let l2 = names_some w.two b.0 in
    (record { action1 = 0; action2 = 0; outcome = 0 }, (l1, l2, filled w.rows (row_of (a_world w) 0 0) c.1 (row_in g w 0 0 ok l1 l2)))
  where
    filled : (rows : List (List Outcome)) (row : List Outcome) → list_all (row_ok g) rows ≡ true → In row rows → 0 < length row
    filled [] row all i = absurd i
    filled (r ∷ rows) row all (inl q) =
        let a = and_parts (row_ok g r) (list_all (row_ok g) rows) all in
        let b = and_parts (nat_lt 0 (length r)) _ a.0 in
        let l = ltb-true 0 (length r) b.0 in
        let e = ap length q in
        omega (arith, l, e)
    filled (r ∷ rows) row all (inr i) = filled rows row (and_parts (row_ok g r) (list_all (row_ok g) rows) all).1 i
