-- No seat has more actions at the end of a history than there are histories.
use Rattle.std.proofs.Common.{◌≡◌, ℕ, zero, suc, ◌+◌, ◌*◌, ◌<◌, ◌≤◌, List, [], ◌∷◌, ◌++◌, Bool, true, false, cond, length, map, flat_map, Some, None, refl, sym, ap, ◌∙◌, subst, arith, inl, inr, ◌⊎◌}
use Rattle.std.specs.Prelude.{◌==◌, nat_lt}
use Rattle.std.specs.List.{list_all, range_with_len}
use Rattle.std.proofs.lemmas.Bool.{and_parts, cases_lt, ltb-true}
use Rattle.std.proofs.lemmas.List.{length-append, length-map}
use Rattle.std.proofs.lemmas.List.FromFn.{length-range_with_len}
use Rattle.lab_math.proofs.Members.{In, in_range, in_from_range}
use Rattle.lab_math.proofs.Ranges.{list_all_get}
use Rattle.lab_defs_text.specs.Games.{GameModel, Place, a_world, an_end}
use Rattle.lab_defs_text.specs.Texts.{place_ok, row_ok, outcome_ok, is_world, game_ok}
use Rattle.lab_defs_text.proofs.GameLemmas.{world_fine, names_fine}
use Rattle.lab_defs_game.specs.Histories.{History, Step, actions_at, row_of, steps_of, place_of, reached, longer, with_longer, histories}
use Rattle.lab_defs_game.specs.Unfolding.{unfold_fault}
use Rattle.lab_defs_game.proofs.FormLemmas.{in_level, ends_within, world_ok}
use Rattle.lab_defs_game.proofs.HistoryCounts.{level, with_longer_level}
use Rattle.lab_defs_game.proofs.Legal.{history_legal}
use Rattle.lab_defs_game.proofs.RecallLemmas.{not_both}
use Rattle.lab_defs_text.specs.Words.{Bytes}
use Rattle.lab_defs_text.specs.Texts.{name_of, place_at}
use Rattle.std.specs.List.{slice_get}
use Rattle.lab_world.specs.declared.place.ActionId.{ActionId}
use Rattle.lab_world.specs.declared.place.World as program
use Rattle.lab_world.specs.Models.{world_model, action_list}
use Rattle.lab_unfold.specs.declared.history.History as lab
use Rattle.lab_unfold.specs.Values.{Unfolded, unfolded}
use Rattle.lab_unfold.proofs.CallerLemmas.{read_here}
use Rattle.lab_unfold.specs.Parents.{history_at}

-- ---- lists of lists

module _ {X Y : Type 0} (f : X → List Y) where
  -- no list of a member is longer than all together
  flat_one : (xs : List X) (x : X) → In x xs → length (f x) ≤ length (flat_map f xs)
  flat_one [] x i = absurd i
  flat_one (y ∷ xs) x (inl e) = omega (arith, ap (λ z. length (f z)) e, length-append (f y) (flat_map f xs))
  flat_one (y ∷ xs) x (inr i) = omega (arith, flat_one xs x i, length-append (f y) (flat_map f xs))

  -- all together are as many as members, where none is empty
  flat_many : (xs : List X) → ((x : X) → In x xs → 0 < length (f x)) → length xs ≤ length (flat_map f xs)
  flat_many [] some = omega arith
  flat_many (y ∷ xs) some = omega (arith, some y (inl refl), flat_many xs (λ x i. some x (inr i)), length-append (f y) (flat_map f xs))

-- ---- steps

-- a place below a rectangle
below : (a n b m : ℕ) → a < n → b < m → a * m + b < n * m
below a zero b m la lb = absurd (omega (arith, la))
below zero (suc n) b m la lb = omega (arith, lb)
below (suc a) (suc n) b m la lb = let r = below a n b m (omega (arith, la)) lb in omega (arith, r)

-- as many steps lead out of a world as a seat has actions there
steps_many : (g : GameModel) (seat : ℕ) (p : Place) → place_ok g p ≡ true → is_world p ≡ true → actions_at seat p ≤ length (steps_of p)
steps_many g seat (an_end z) ok e = absurd cc
steps_many g seat (a_world w) ok e = at (seat == 1)
  where
    n : ℕ
    n = length w.one

    m : ℕ
    m = length w.two

    one_step : ℕ → ℕ → ℕ → Step
    one_step a b o = record { action1 = a; action2 = b; outcome = o }

    by_row : ℕ → ℕ → List Step
    by_row a b = map (one_step a b) (range_with_len 0 (length (row_of (a_world w) a b)))

    by_second : ℕ → List Step
    by_second a = flat_map (by_row a) (range_with_len 0 m)

    some1 : 0 < n
    some1 = (names_fine w.one (world_fine g w ok).one).some

    some2 : 0 < m
    some2 = (names_fine w.two (world_fine g w ok).two).some

    row_some : (a b : ℕ) → a < n → b < m → 0 < length (by_row a b)
    row_some a b la lb =
        let f = world_fine g w ok in
        let row = row_of (a_world w) a b in
        let fine = list_all_get (row_ok g) w.rows (a * m + b) [] (subst (λ k. a * m + b < k) (sym f.count) (below a n b m la lb)) f.rows in
        omega (arith, ltb-true 0 (length row) (and_parts (nat_lt 0 (length row)) (list_all (outcome_ok g) row) fine).0, length-map (range_with_len 0 (length row)) (one_step a b), length-range_with_len 0 (length row))

    second_many : (a : ℕ) → a < n → m ≤ length (by_second a)
    second_many a la =
        omega (arith, length-range_with_len 0 m, flat_many (by_row a) (range_with_len 0 m) (λ b i. row_some a b la (omega (arith, (in_from_range b 0 m i).1))))

    first_many : n ≤ length (steps_of (a_world w))
    first_many =
        omega (arith, length-range_with_len 0 n, flat_many by_second (range_with_len 0 n) (λ a i. omega (arith, some2, second_many a (omega (arith, (in_from_range a 0 n i).1)))))

    one_many : m ≤ length (steps_of (a_world w))
    one_many = omega (arith, second_many 0 some1, flat_one by_second (range_with_len 0 n) 0 (in_range 0 0 n (omega arith) (omega (arith, some1))))

    at : (b : Bool) → cond b (length w.one) (length w.two) ≤ length (steps_of (a_world w))
    at true = first_many
    at false = one_many

-- ---- histories

-- the histories of t steps are some of those of at most n
level_few : (g : GameModel) (t n : ℕ) → t ≤ n → length (level g t) ≤ length (with_longer g n ([] ∷ []))
level_few g t zero l = ap_le (omega (arith, l))
  where
    ap_le : t ≡ 0 → length (level g t) ≤ 1
    ap_le e = subst (λ k. length (level g k) ≤ 1) (sym e) (omega arith)
level_few g t (suc n) l = at (cases_lt t (suc n)) (λ k. level_few g t n k)
  where
    long : length (with_longer g (suc n) ([] ∷ [])) ≡ length (with_longer g n ([] ∷ [])) + length (level g (suc n))
    long = ap length (with_longer_level g n) ∙ length-append (with_longer g n ([] ∷ [])) (level g (suc n))

    at : (t < suc n) ⊎ (suc n ≤ t) → (t ≤ n → length (level g t) ≤ length (with_longer g n ([] ∷ []))) → length (level g t) ≤ length (with_longer g (suc n) ([] ∷ []))
    at (inl k) rest = omega (arith, rest (omega (arith, k)), long)
    at (inr k) rest =
        let e : t ≡ suc n = omega (arith, k, l) in
        omega (arith, ap (λ k. length (level g k)) e, long)

-- no seat has more actions than there are histories
pub actions_few : (g : GameModel) (seat : ℕ) (h : History) → game_ok g ≡ true → unfold_fault g ≡ None → In h (histories g) → actions_at seat (place_of g h) ≤ length (histories g)
actions_few g seat h ok accepted i = at (place_of g h) refl
  where
    inner : is_world (place_of g h) ≡ true → actions_at seat (place_of g h) ≤ length (histories g)
    inner e =
        let many = steps_many g seat (place_of g h) (world_ok g (reached g g.root h) ok e) e in
        let step = length-map (steps_of (place_of g h)) (λ s. h ++ s ∷ []) in
        let next = flat_one (longer g) (level g (length h)) h (in_level g (length h) h i refl) in
        let short : suc (length h) ≤ g.horizon = short_of (cases_lt (length h) g.horizon) in
        omega (arith, many, step, next, level_few g (suc (length h)) g.horizon short)
      where
        short_of : (length h < g.horizon) ⊎ (g.horizon ≤ length h) → suc (length h) ≤ g.horizon
        short_of (inl l) = omega (arith, l)
        short_of (inr l) = absurd (not_both e (ends_within g accepted h i (omega (arith, l, (history_legal g h i).1))))

    at : (p : Place) → place_of g h ≡ p → actions_at seat (place_of g h) ≤ length (histories g)
    at (a_world w) e = inner (ap is_world e)
    at (an_end z) e = omega (arith, ap (actions_at seat) e)

-- ---- as the program has them

-- the actions of a seat at a world
pub actions_are : (actions : List Bytes) (w : program.World) (seat : ℕ) (ids : List ActionId) (p : Place) → p ≡ a_world (world_model actions w) → ids ≡ cond (seat == 1) w.one w.two
    → length ids ≡ actions_at seat p
actions_are actions w seat ids p e k = ap length k ∙ at (seat == 1) ∙ ap (actions_at seat) (sym e)
  where
    at : (b : Bool) → length (cond b w.one w.two) ≡ cond b (length (action_list actions w.one)) (length (action_list actions w.two))
    at true = sym (length-map w.one (λ i. name_of actions i.0))
    at false = sym (length-map w.two (λ i. name_of actions i.0))

-- a seat has no actions at an end
pub actions_none : (seat : ℕ) (p : Place) → is_world p ≡ false → 0 ≡ actions_at seat p
actions_none seat (a_world w) e = absurd cc
actions_none seat (an_end z) e = refl

-- the place where a history that was read leads
pub place_read : (g : GameModel) (u : Unfolded) (i : ℕ) (h : lab.History) → u ≡ unfolded g → slice_get u.items i ≡ Some h → place_at g h.world.0 ≡ place_of g (history_at g i)
place_read g u i h e found = ap (λ (k : lab.History). place_at g k.world.0) (read_here g u i h e found)
