-- How many histories there are up to a depth, and the first depth where they are too many.
use Rattle.std.proofs.Common.{◌≡◌, ℕ, zero, suc, ◌+◌, ◌<◌, ◌≤◌, List, [], ◌∷◌, ◌++◌, map, flat_map, length, Bool, true, false, Option, Some, None, refl, sym, ap, ◌∙◌, subst, arith, inl, inr, ◌⊎◌, length-append, append_assoc}
use Rattle.std.specs.Prelude.{pos, slice_index, get_or}
use Rattle.std.specs.List.{range_with_len}
use Rattle.std.proofs.lemmas.List.{length-map, get_or-map}
use Rattle.std.proofs.lemmas.List.FromFn.{get_or-map-range_with_len, length-range_with_len}
use Rattle.std.proofs.lemmas.Bool.{lt-ltb, le-ltb, cases_lt}
use Rattle.lab_math.specs.Sums.{sum_over}
use Rattle.lab_math.proofs.NaturalSums.{sum_over-map, sum_over-flat_map, sum_over-same}
use Rattle.lab_defs_text.specs.Games.{GameModel, an_end}
use Rattle.lab_defs_text.specs.Texts.{place_at}
use Rattle.lab_defs_game.specs.Histories.{History, Step, place_of, reached, outcome_of, steps_of, longer, with_longer}
use Rattle.lab_defs_game.specs.Unfolding.{history_limit, standing, ways_on, history_count, first_too_many}
use Rattle.lab_defs_game.specs.Laws.{HistoryCountLaw}
use Rattle.lab_defs_game.proofs.GameLemmas.{reached_push}

-- ---- levels

-- the histories of t steps
abbrev pub level : GameModel → ℕ → List History
level g zero = [] ∷ []
level g (suc t) = flat_map (longer g) (level g t)

-- where a history leads that is longer by a step
longer_reached : (g : GameModel) (h : History) (ss : List Step) → map (reached g g.root) (map (λ s. h ++ s ∷ []) ss) ≡ map (λ s. (outcome_of g (reached g g.root h) s).next) ss
longer_reached g h [] = refl
longer_reached g h (s ∷ ss) = ap (λ n. n ∷ map (reached g g.root) (map (λ s. h ++ s ∷ []) ss)) (reached_push g g.root h s) ∙ ap (λ ns. (outcome_of g (reached g g.root h) s).next ∷ ns) (longer_reached g h ss)

-- a map over lists behind one another
map_append : {X Y : Type 0} (f : X → Y) (xs ys : List X) → map f (xs ++ ys) ≡ map f xs ++ map f ys
map_append f [] ys = refl
map_append f (x ∷ xs) ys = ap (λ t. f x ∷ t) (map_append f xs ys)

-- where histories lead that are longer by a step
next_reached : (g : GameModel) (hs : List History)
    → map (reached g g.root) (flat_map (longer g) hs) ≡ flat_map (λ n. map (λ s. (outcome_of g n s).next) (steps_of (place_at g n))) (map (reached g g.root) hs)
next_reached g [] = refl
next_reached g (h ∷ hs) =
    map_append (reached g g.root) (longer g h) (flat_map (longer g) hs)
    ∙ ap (λ t. t ++ map (reached g g.root) (flat_map (longer g) hs)) (longer_reached g h (steps_of (place_of g h)))
    ∙ ap (λ t. map (λ s. (outcome_of g (reached g g.root h) s).next) (steps_of (place_of g h)) ++ t) (next_reached g hs)

-- the places of a level are where its histories lead
pub standing_is : (g : GameModel) (t : ℕ) → standing g t ≡ map (reached g g.root) (level g t)
standing_is g zero = refl
standing_is g (suc t) = ap (flat_map (λ n. map (λ s. (outcome_of g n s).next) (steps_of (place_at g n)))) (standing_is g t) ∙ sym (next_reached g (level g t))

-- histories made longer by n steps
later : GameModel → ℕ → List History → List History
later g zero hs = hs
later g (suc n) hs = flat_map (longer g) (later g n hs)

-- the first step may be taken before
later_first : (g : GameModel) (n : ℕ) (hs : List History) → later g n (flat_map (longer g) hs) ≡ later g (suc n) hs
unfolding later
later_first g zero hs = refl
later_first g (suc n) hs = ap (flat_map (longer g)) (later_first g n hs)

-- a level is what the root is made to by its number of steps
later_level : (g : GameModel) (n : ℕ) → later g n ([] ∷ []) ≡ level g n
unfolding later
later_level g zero = refl
later_level g (suc n) = ap (flat_map (longer g)) (later_level g n)

-- one more level stands behind
with_longer_push : (g : GameModel) (n : ℕ) (hs : List History) → with_longer g (suc n) hs ≡ with_longer g n hs ++ later g (suc n) hs
unfolding later
with_longer_push g zero hs = refl
with_longer_push g (suc n) hs =
    ap (λ t. hs ++ t) (with_longer_push g n (flat_map (longer g) hs))
    ∙ ap (λ t. hs ++ (with_longer g n (flat_map (longer g) hs) ++ t)) (later_first g (suc n) hs)
    ∙ sym (append_assoc hs (with_longer g n (flat_map (longer g) hs)) (later g (suc (suc n)) hs))

-- the histories up to one step more
pub with_longer_level : (g : GameModel) (n : ℕ) → with_longer g (suc n) ([] ∷ []) ≡ with_longer g n ([] ∷ []) ++ level g (suc n)
with_longer_level g n = with_longer_push g n ([] ∷ []) ∙ ap (λ t. with_longer g n ([] ∷ []) ++ t) (later_level g (suc n))

-- ---- ways

-- in how many ways t steps lead on from a place
abbrev pub walks : GameModel → ℕ → ℕ → ℕ
walks g zero n = 1
walks g (suc t) n = sum_over (λ s. walks g t (outcome_of g n s).next) (steps_of (place_at g n))

-- a sum of ones is a length
ones : {X : Type 0} (xs : List X) → sum_over (λ x. 1) xs ≡ length xs
ones [] = refl
ones (x ∷ xs) = omega (arith, ones xs)

-- beyond a list is what stands for nothing
beyond : {X : Type 0} (xs : List X) (n : ℕ) (d : X) → length xs ≤ n → get_or xs n d ≡ d
beyond [] n d l = refl
beyond (x ∷ xs) zero d l = absurd (omega (arith, l))
beyond (x ∷ xs) (suc n) d l = beyond xs n d (omega (arith, l))

-- no step leads out of a place that is none
beyond_walks : (g : GameModel) (t n : ℕ) → length g.places ≤ n → walks g (suc t) n ≡ 0
beyond_walks g t n l = ap (λ p. sum_over (λ s. walks g t (outcome_of g n s).next) (steps_of p)) (beyond g.places n (an_end (pos 0)) l)

-- what is said of each place
pub ways_are : (g : GameModel) (t n : ℕ) → slice_index (ways_on g t) n ≡ walks g (suc t) n
ways_are g zero n = at (cases_lt n (length g.places))
  where
    one_each : sum_over (λ s. walks g 0 (outcome_of g n s).next) (steps_of (place_at g n)) ≡ length (steps_of (place_at g n))
    one_each = ones (steps_of (place_at g n))

    at : (n < length g.places) ⊎ (length g.places ≤ n) → slice_index (ways_on g 0) n ≡ walks g 1 n
    at (inl l) = get_or-map (λ p. length (steps_of p)) g.places n (an_end (pos 0)) 0 l ∙ sym one_each
    at (inr l) = beyond (ways_on g 0) n 0 (omega (arith, length-map g.places (λ p. length (steps_of p)), l)) ∙ sym (beyond_walks g 0 n l)
ways_are g (suc t) n = at (cases_lt n (length g.places)) (λ m. ways_are g t m)
  where
    range : List ℕ
    range = range_with_len 0 (length g.places)

    at : (n < length g.places) ⊎ (length g.places ≤ n) → ((m : ℕ) → slice_index (ways_on g t) m ≡ walks g (suc t) m) → slice_index (ways_on g (suc t)) n ≡ walks g (suc (suc t)) n
    at (inl l) rest =
        get_or-map-range_with_len (λ m. sum_over (λ s. slice_index (ways_on g t) (outcome_of g m s).next) (steps_of (place_at g m))) 0 (length g.places) n n 0 l (omega arith)
        ∙ sum_over-same (λ s. slice_index (ways_on g t) (outcome_of g n s).next) (λ s. walks g (suc t) (outcome_of g n s).next) (steps_of (place_at g n)) (λ s i. rest (outcome_of g n s).next)
    at (inr l) rest =
        beyond (ways_on g (suc t)) n 0
        (omega (arith, length-map (range_with_len 0 (length g.places)) (λ m. sum_over (λ s. slice_index (ways_on g t) (outcome_of g m s).next) (steps_of (place_at g m))), length-range_with_len 0 (length g.places), l))
        ∙ sym (beyond_walks g (suc t) n l)

-- the ways on from the histories of one level are those of the next level, with a step fewer
next_walks : (g : GameModel) (t : ℕ) (hs : List History) → sum_over (λ h. walks g (suc t) (reached g g.root h)) hs ≡ sum_over (λ h. walks g t (reached g g.root h)) (flat_map (longer g) hs)
next_walks g t hs =
    sum_over-same (λ h. walks g (suc t) (reached g g.root h)) (λ h. sum_over (λ k. walks g t (reached g g.root k)) (longer g h)) hs (λ h i. one h)
    ∙ sym (sum_over-flat_map (λ k. walks g t (reached g g.root k)) (longer g) hs)
  where
    one : (h : History) → walks g (suc t) (reached g g.root h) ≡ sum_over (λ k. walks g t (reached g g.root k)) (longer g h)
    one h =
        sum_over-same (λ s. walks g t (outcome_of g (reached g g.root h) s).next) (λ s. walks g t (reached g g.root (h ++ s ∷ []))) (steps_of (place_of g h)) (λ s i. ap (walks g t) (sym (reached_push g g.root h s)))
        ∙ sym (sum_over-map (λ k. walks g t (reached g g.root k)) (λ s. h ++ s ∷ []) (steps_of (place_of g h)))

-- the ways on of n steps from the histories of m steps are those of m + n steps from the root
level_walks : (g : GameModel) (m n : ℕ) → walks g (m + n) g.root ≡ sum_over (λ h. walks g n (reached g g.root h)) (level g m)
level_walks g zero n = ap (λ k. walks g k g.root) (first n) ∙ alone (walks g n g.root)
  where
    first : (n : ℕ) → 0 + n ≡ n
    first n = omega arith

    alone : (n : ℕ) → n ≡ n + 0
    alone n = omega arith
level_walks g (suc m) n = ap (λ k. walks g k g.root) (later m n) ∙ level_walks g m (suc n) ∙ next_walks g n (level g m)
  where
    later : (m n : ℕ) → suc m + n ≡ m + suc n
    later m n = omega arith

-- as many histories have t steps as there are ways of t steps from the root
pub level_count : (g : GameModel) (t : ℕ) → walks g t g.root ≡ length (level g t)
level_count g t = ap (λ k. walks g k g.root) (nothing t) ∙ level_walks g t 0 ∙ ones (level g t)
  where
    nothing : (t : ℕ) → t ≡ t + 0
    nothing t = omega arith

-- the law of the number of histories
pub history_count_law : HistoryCountLaw
history_count_law g zero = refl
history_count_law g (suc t) =
    ap length (with_longer_level g t) ∙ length-append (with_longer g t ([] ∷ [])) (level g (suc t))
    ∙ ap (λ n. n + length (level g (suc t))) (history_count_law g t) ∙ ap (λ n. history_count g t + n) (sym (ways_are g t g.root ∙ level_count g (suc t)))

-- ---- the first depth

-- the answer at one depth, with that for later ones
abbrev answer : Bool → ℕ → Option ℕ → Option ℕ
answer b t o = elim b [ true ↦ Some t | false ↦ o ]

-- what is in an option
some_is : (x y : ℕ) → ◌≡◌ {A = Option ℕ} (Some x) (Some y) → x ≡ y
some_is x y e = cc

-- nothing is no depth
none_is : (x : ℕ) → ◌≡◌ {A = Option ℕ} None (Some x) → ⊥
none_is x e = cc

-- the depth d is the first from t on where the histories are too many
abbrev pub IsFirst : GameModel → ℕ → ℕ → Type 0
IsFirst g t d = (history_limit < history_count g d) × ((s : ℕ) → t ≤ s → s < d → history_count g s ≤ history_limit)

-- what is found is the first depth, and lies within the depths that are left
pub found_first : (g : GameModel) (n t d : ℕ) → first_too_many g t n ≡ Some d → (t ≤ d) × (d < t + n) × IsFirst g t d
found_first g zero t d e = absurd (none_is d e)
found_first g (suc n) t d e = at (cases_lt history_limit (history_count g t)) (λ f. found_first g n (t + 1) d f)
  where
    at : (history_limit < history_count g t) ⊎ (history_count g t ≤ history_limit)
        → (first_too_many g (t + 1) n ≡ Some d → (t + 1 ≤ d) × (d < t + 1 + n) × IsFirst g (t + 1) d) → (t ≤ d) × (d < t + suc n) × IsFirst g t d
    at (inl l) rest =
        let td : t ≡ d = some_is t d (sym (ap (λ b. answer b t (first_too_many g (t + 1) n)) (lt-ltb history_limit (history_count g t) l)) ∙ e) in
        (omega (arith, td), omega (arith, td), (subst (λ d. history_limit < history_count g d) td l, λ s lo hi. absurd (omega (arith, td, lo, hi))))
    at (inr l) rest =
        let r = rest (sym (ap (λ b. answer b t (first_too_many g (t + 1) n)) (le-ltb history_limit (history_count g t) l)) ∙ e) in
        (omega (arith, r.0), omega (arith, r.1), (r.2.0, λ s lo hi. before s lo hi r.2.1 (cases_lt t s)))
      where
        before : (s : ℕ) → t ≤ s → s < d → ((s : ℕ) → t + 1 ≤ s → s < d → history_count g s ≤ history_limit) → (t < s) ⊎ (s ≤ t) → history_count g s ≤ history_limit
        before s lo hi f (inl less) = f s (omega (arith, less)) hi
        before s lo hi f (inr le) = let st : t ≡ s = omega (arith, lo, le) in subst (λ x. history_count g x ≤ history_limit) st l

-- the first depth is found, where it lies within the depths that are left
pub first_found : (g : GameModel) (n t d : ℕ) → t ≤ d → d < t + n → IsFirst g t d → first_too_many g t n ≡ Some d
first_found g zero t d lo hi f = absurd (omega (arith, lo, hi))
first_found g (suc n) t d lo hi f = at (cases_lt t d) (λ l. first_found g n (t + 1) d (omega (arith, l)) (omega (arith, hi)) ((f.0, λ s a b. f.1 s (omega (arith, a)) b)))
  where
    at : (t < d) ⊎ (d ≤ t) → (t < d → first_too_many g (t + 1) n ≡ Some d) → first_too_many g t (suc n) ≡ Some d
    at (inl l) rest = ap (λ b. answer b t (first_too_many g (t + 1) n)) (le-ltb history_limit (history_count g t) (f.1 t (omega arith) l)) ∙ rest l
    at (inr l) rest =
        let td : t ≡ d = omega (arith, l, lo) in
        ap (λ b. answer b t (first_too_many g (t + 1) n)) (lt-ltb history_limit (history_count g t) (subst (λ x. history_limit < history_count g x) (sym td) f.0)) ∙ ap (λ x. Some x) td
