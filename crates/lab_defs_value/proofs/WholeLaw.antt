-- Whatever the tables, the chances of the terminal histories times both seats' own weights sum to one whole.
use Rattle.std.proofs.Common.{◌≡◌, ℕ, zero, suc, ◌+◌, ◌-◌, ◌*◌, ◌/◌, ◌^◌, ◌<◌, ◌≤◌, List, [], ◌∷◌, ◌++◌, Bool, true, false, cond, map, flat_map, length, None, refl, sym, ap, ◌∙◌, subst, arith}
use Rattle.std.specs.Prelude.{◌==◌, nat_le, if◌then◌else◌, slice_index}
use Rattle.std.specs.List.{range_with_len}
use Rattle.std.proofs.Math.Nat.{pow-succ'}
use Rattle.std.proofs.lemmas.Bool.{leb-false}
use Rattle.std.proofs.lemmas.List.{append_assoc, append-nil}
use Rattle.lab_math.specs.Sums.{sum_over, product_over}
use Rattle.lab_math.proofs.Members.{In, in_from_range}
use Rattle.lab_math.proofs.NaturalSums.{sum_over-map, sum_over-flat_map, sum_over-same, sum_over-times, sum_over-times_behind, sum_over-places}
use Rattle.lab_defs_text.specs.Games.{GameModel, Place, Outcome}
use Rattle.lab_defs_text.specs.Texts.{game_ok, place_at, is_world}
use Rattle.lab_defs_game.specs.Histories.{History, Step, actions_at, row_of, place_of, reached, outcome_of, steps_of, histories, inner_histories}
use Rattle.lab_defs_game.specs.Sets.{seen, set_number, most_decisions}
use Rattle.lab_defs_game.specs.Chance.{row_total, chance_unit, units_from, chance_from, chance}
use Rattle.lab_defs_game.specs.Forms.{game_actions, decides, deciding}
use Rattle.lab_defs_game.specs.Paths.{SetAction, path_along}
use Rattle.lab_defs_game.specs.Unfolding.{unfold_fault}
use Rattle.lab_defs_game.specs.Laws.{AlikeNames, IsStep}
use Rattle.lab_defs_game.proofs.GameLemmas.{reached_push, inner_has}
use Rattle.lab_defs_game.proofs.Legal.{step_at, steps_by, step_from, legal_push, history_legal, legal_history, length_push}
use Rattle.lab_defs_game.proofs.TreeLaws.{along_law}
use Rattle.lab_defs_game.proofs.RecallLemmas.{not_both, recall_law, inner_world}
use Rattle.lab_defs_game.proofs.FormLemmas.{game_actions_length, actions_of_set, set_below, deciding_most, count_push, ends_within, world_ok, some_action, some_step, unit_whole}
use Rattle.lab_defs_game.proofs.Suffixes.{ends_from, sum_over_terminal}
use Rattle.lab_defs_value.specs.Tables.{first_weight, factor}
use Rattle.lab_defs_game.specs.Seats.{grid_of}
use Rattle.lab_defs_value.specs.Replies.{SumsToGrid}
use Rattle.lab_defs_value.specs.Expectation.{own_along}
use Rattle.lab_defs_value.specs.WholeLaws.{WholeLaw}
use Rattle.lab_defs_value.proofs.Pools.{range_sum}

-- ---- products and powers

-- one more factor
pub product_push : {X : Type 0} (f : X → ℕ) (xs : List X) (x : X) → product_over f (xs ++ x ∷ []) ≡ product_over f xs * f x
product_push f [] x = omega arith
product_push f (y ∷ xs) x = omega (arith, ap (λ n. f y * n) (product_push f xs x))

-- one factor and the rest of a power
power_rest : (d m n : ℕ) → n + 1 ≤ m → d * d ^ (m - (n + 1)) ≡ d ^ (m - n)
power_rest d m n le = sym (pow-succ' d (m - (n + 1))) ∙ ap (λ x. d ^ x) (less m n le)
  where
    less : (m n : ℕ) → n + 1 ≤ m → suc (m - (n + 1)) ≡ m - n
    less m n le = omega (arith, le)

-- ---- one seat

module _ (g : GameModel) (seat : ℕ) (table : List ℕ) where
  -- the set of a history with an action
  abbrev taken : History → ℕ → SetAction
  taken h a = record { set = set_number g seat (seen g seat h); action = a }

  -- the factor of an action
  abbrev weight : SetAction → ℕ
  weight = factor (game_actions g seat) table

  -- the deciding sets before a history, and one more where its set decides
  abbrev decided : History → ℕ
  decided h = deciding (game_actions g seat) (path_along g seat h)

  -- one where the set of a history decides
  abbrev decides_here : History → ℕ
  decides_here h = cond (decides (game_actions g seat) (set_number g seat (seen g seat h))) 1 0

  -- the own weight a step further, by the seat's action
  abbrev own_then : History → ℕ → ℕ
  own_then h a = (product_over weight (path_along g seat h) * weight (taken h a)) * grid_of g seat ^ (most_decisions g seat - (decided h + decides_here h))

  -- a step further
  own_push : (h : History) (s : Step) → own_along g seat table (h ++ s ∷ []) ≡ own_then h (if seat == 1 then s.action1 else s.action2)
  own_push h s =
      let a = if seat == 1 then s.action1 else s.action2 in
      ap (λ p. product_over weight p * grid_of g seat ^ (most_decisions g seat - deciding (game_actions g seat) p)) (along_law g seat h s).0
      ∙ ap (λ n. n * grid_of g seat ^ (most_decisions g seat - deciding (game_actions g seat) (path_along g seat h ++ taken h a ∷ []))) (product_push weight (path_along g seat h) (taken h a))
      ∙ ap (λ n. (product_over weight (path_along g seat h) * weight (taken h a)) * grid_of g seat ^ (most_decisions g seat - n))
      (count_push (λ t. decides (game_actions g seat) t.set) (path_along g seat h) (taken h a))

  -- the set of a history, and the product of the weights on the way to it
  abbrev here : History → ℕ
  here h = set_number g seat (seen g seat h)

  -- the product of the weights on the way to a history
  abbrev way : History → ℕ
  way h = product_over weight (path_along g seat h)

  -- what is still to be multiplied where n sets have decided
  abbrev rest : ℕ → ℕ
  rest n = grid_of g seat ^ (most_decisions g seat - n)

  -- where the set decides
  own_then_deciding : (h : History) (a : ℕ) → decides (game_actions g seat) (here h) ≡ true
      → own_then h a ≡ (way h * slice_index table (first_weight (game_actions g seat) (here h) + a)) * rest (decided h + 1)
  own_then_deciding h a e =
      ap (λ b. (way h * cond b (slice_index table (first_weight (game_actions g seat) (here h) + a)) 1) * rest (decided h + cond b 1 0)) e

  -- where it does not
  own_then_pass : (h : History) (a : ℕ) → decides (game_actions g seat) (here h) ≡ false → own_then h a ≡ (way h * 1) * rest (decided h + 0)
  own_then_pass h a e =
      ap (λ b. (way h * cond b (slice_index table (first_weight (game_actions g seat) (here h) + a)) 1) * rest (decided h + cond b 1 0)) e

  -- the weights at a deciding set sum to the grid
  own_sum_deciding : SumsToGrid (grid_of g seat) (game_actions g seat) table → (h : History) → here h < length (game_actions g seat) → decides (game_actions g seat) (here h) ≡ true
      → decided h + 1 ≤ most_decisions g seat → sum_over (own_then h) (range_with_len 0 (slice_index (game_actions g seat) (here h))) ≡ own_along g seat table h
  own_sum_deciding is h l e most =
      let n = slice_index (game_actions g seat) (here h) in
      let xs = range_with_len 0 n in
      sum_over-same (own_then h) (λ a. (way h * slice_index table (first_weight (game_actions g seat) (here h) + a)) * rest (decided h + 1)) xs (λ a i. own_then_deciding h a e)
      ∙ sum_over-times_behind (λ a. way h * slice_index table (first_weight (game_actions g seat) (here h) + a)) (rest (decided h + 1)) xs
      ∙ ap (λ n. n * rest (decided h + 1)) (sum_over-times (way h) (λ a. slice_index table (first_weight (game_actions g seat) (here h) + a)) xs)
      ∙ ap (λ n. (way h * n) * rest (decided h + 1)) (range_sum n (λ a. slice_index table (first_weight (game_actions g seat) (here h) + a)) ∙ is (here h) l e)
      ∙ regroup (way h) (grid_of g seat) (rest (decided h + 1))
      ∙ ap (λ n. way h * n) (power_rest (grid_of g seat) (most_decisions g seat) (decided h) most)
    where
      regroup : (a b c : ℕ) → (a * b) * c ≡ a * (b * c)
      regroup a b c = omega arith

  -- at a pass there is one action
  own_sum_pass : (h : History) (n : ℕ) → decides (game_actions g seat) (here h) ≡ false → n ≡ 1 → sum_over (own_then h) (range_with_len 0 n) ≡ own_along g seat table h
  own_sum_pass h n e one =
      ap (λ m. sum_over (own_then h) (range_with_len 0 m)) one
      ∙ ap (λ m. m + 0) (own_then_pass h 0 e)
      ∙ clear (way h) (rest (decided h + 0))
      ∙ ap (λ m. way h * rest m) (nothing (decided h))
    where
      clear : (a b : ℕ) → (a * 1) * b + 0 ≡ a * b
      clear a b = omega arith

      nothing : (a : ℕ) → a + 0 ≡ a
      nothing a = omega arith

  -- over all actions of the seat, the own weights a step further sum to the own weight
  own_sum : AlikeNames g seat → SumsToGrid (grid_of g seat) (game_actions g seat) table → (h : History) → In h (inner_histories g) → 0 < actions_at seat (place_of g h)
      → decided h + decides_here h ≤ most_decisions g seat → sum_over (own_then h) (range_with_len 0 (actions_at seat (place_of g h))) ≡ own_along g seat table h
  own_sum alike is h i some most = at (decides (game_actions g seat) (here h)) refl
    where
      n_is : slice_index (game_actions g seat) (here h) ≡ actions_at seat (place_of g h)
      n_is = actions_of_set g seat alike h i

      below : here h < length (game_actions g seat)
      below = subst (λ n. here h < n) (sym (game_actions_length g seat)) (set_below g seat h i)

      single : (n : ℕ) → nat_le 2 n ≡ false → 0 < n → n ≡ 1
      single n e l = let k = leb-false 2 n e in omega (arith, k, l)

      at : (b : Bool) → decides (game_actions g seat) (here h) ≡ b → sum_over (own_then h) (range_with_len 0 (actions_at seat (place_of g h))) ≡ own_along g seat table h
      at true e =
          ap (λ n. sum_over (own_then h) (range_with_len 0 n)) (sym n_is)
          ∙ own_sum_deciding is h below e (subst (λ b. decided h + cond b 1 0 ≤ most_decisions g seat) e most)
      at false e = own_sum_pass h (actions_at seat (place_of g h)) e (sym n_is ∙ single (slice_index (game_actions g seat) (here h)) e (subst (λ n. 0 < n) (sym n_is) some))

  -- a step further no more sets have decided than the most
  decided_most : AlikeNames g seat → (h : History) (s : Step) → In (h ++ s ∷ []) (histories g) → decided h + decides_here h ≤ most_decisions g seat
  decided_most alike h s i =
      subst (λ n. n ≤ most_decisions g seat)
      (ap (deciding (game_actions g seat)) (along_law g seat h s).0 ∙ count_push (λ t. decides (game_actions g seat) t.set) (path_along g seat h) (taken h (if seat == 1 then s.action1 else s.action2)))
      (deciding_most g seat alike (h ++ s ∷ []) i)

-- ---- steps

-- the steps by both actions
abbrev steps_by_both : Place → ℕ → ℕ → List Step
steps_by_both p a b = map (step_at a b) (range_with_len 0 (length (row_of p a b)))

-- a sum over the steps out of a place, by actions and outcomes
sum_steps : (f : Step → ℕ) (p : Place) → sum_over f (steps_of p)
    ≡ sum_over (λ a. sum_over (λ b. sum_over (λ o. f (step_at a b o)) (range_with_len 0 (length (row_of p a b)))) (range_with_len 0 (actions_at 2 p))) (range_with_len 0 (actions_at 1 p))
sum_steps f p =
    sum_over-flat_map f (steps_by p) (range_with_len 0 (actions_at 1 p))
    ∙ sum_over-same (λ a. sum_over f (steps_by p a)) (λ a. sum_over (λ b. sum_over (λ o. f (step_at a b o)) (range_with_len 0 (length (row_of p a b)))) (range_with_len 0 (actions_at 2 p))) (range_with_len 0 (actions_at 1 p))
    (λ a i. sum_over-flat_map f (steps_by_both p a) (range_with_len 0 (actions_at 2 p))
    ∙ sum_over-same (λ b. sum_over f (steps_by_both p a b)) (λ b. sum_over (λ o. f (step_at a b o)) (range_with_len 0 (length (row_of p a b)))) (range_with_len 0 (actions_at 2 p))
    (λ b j. sum_over-map f (step_at a b) (range_with_len 0 (length (row_of p a b)))))

-- a history with a legal step is a history, if the horizon is not reached
next_history : (g : GameModel) (h : History) (s : Step) → In h (histories g) → length h < g.horizon → IsStep (place_of g h) s → In (h ++ s ∷ []) (histories g)
next_history g h s i l step =
    let len = length_push h s in
    legal_history g (h ++ s ∷ []) (legal_push g g.root h s (history_legal g h i).0 step) (omega (arith, len, l))

-- ---- the whole

module _ (g : GameModel) (table1 table2 : List ℕ) where
  -- both seats' own weights
  abbrev both : History → ℕ
  both h = own_along g 1 table1 h * own_along g 2 table2 h

  -- what the ends within k steps after a history bring, from the place n and the step t on
  abbrev after : ℕ → ℕ → ℕ → History → ℕ
  after k t n h = sum_over (λ r. chance_from g t n r * both (h ++ r)) (ends_from g k n)

  -- the chance of one step, in the units of its depth
  abbrev step_chance : ℕ → ℕ → Step → ℕ
  step_chance t n s = (outcome_of g n s).weight * (chance_unit g t / row_total (row_of (place_at g n) s.action1 s.action2))

  -- after an end is nothing but itself
  after_end : (k t n : ℕ) (h : History) → is_world (place_at g n) ≡ false → after k t n h ≡ units_from g t (g.horizon - t) * both h
  after_end zero t n h e =
      ap (λ b. sum_over (λ r. chance_from g t n r * both (h ++ r)) (cond b [] ([] ∷ []))) e
      ∙ ap (λ x. units_from g t (g.horizon - t) * both x + 0) (append-nil h)
      ∙ nothing (units_from g t (g.horizon - t) * both h)
    where
      nothing : (a : ℕ) → a + 0 ≡ a
      nothing a = omega arith
  after_end (suc k) t n h e =
      ap (λ b. sum_over (λ r. chance_from g t n r * both (h ++ r)) (cond b (flat_map (λ s. map (λ r. s ∷ r) (ends_from g k (outcome_of g n s).next)) (steps_of (place_at g n))) ([] ∷ []))) e
      ∙ ap (λ x. units_from g t (g.horizon - t) * both x + 0) (append-nil h)
      ∙ nothing (units_from g t (g.horizon - t) * both h)
    where
      nothing : (a : ℕ) → a + 0 ≡ a
      nothing a = omega arith

  -- after a world is, for each step, its chance times what is after it
  after_world : (k t n : ℕ) (h : History) → is_world (place_at g n) ≡ true
      → after (suc k) t n h ≡ sum_over (λ s. step_chance t n s * after k (t + 1) (outcome_of g n s).next (h ++ s ∷ [])) (steps_of (place_at g n))
  after_world k t n h e =
      ap (λ b. sum_over (λ r. chance_from g t n r * both (h ++ r)) (cond b (flat_map (λ s. map (λ r. s ∷ r) (ends_from g k (outcome_of g n s).next)) (steps_of (place_at g n))) ([] ∷ []))) e
      ∙ sum_over-flat_map (λ r. chance_from g t n r * both (h ++ r)) (λ s. map (λ r. s ∷ r) (ends_from g k (outcome_of g n s).next)) (steps_of (place_at g n))
      ∙ sum_over-same (λ s. sum_over (λ r. chance_from g t n r * both (h ++ r)) (map (λ r. s ∷ r) (ends_from g k (outcome_of g n s).next)))
      (λ s. step_chance t n s * after k (t + 1) (outcome_of g n s).next (h ++ s ∷ [])) (steps_of (place_at g n)) (λ s i. step s)
    where
      regroup : (a b c : ℕ) → (a * b) * c ≡ a * (b * c)
      regroup a b c = omega arith

      step : (s : Step) → sum_over (λ r. chance_from g t n r * both (h ++ r)) (map (λ r. s ∷ r) (ends_from g k (outcome_of g n s).next))
          ≡ step_chance t n s * after k (t + 1) (outcome_of g n s).next (h ++ s ∷ [])
      step s =
          let rs = ends_from g k (outcome_of g n s).next in
          sum_over-map (λ r. chance_from g t n r * both (h ++ r)) (λ r. s ∷ r) rs
          ∙ sum_over-same (λ r. chance_from g t n (s ∷ r) * both (h ++ s ∷ r)) (λ r. step_chance t n s * (chance_from g (t + 1) (outcome_of g n s).next r * both ((h ++ s ∷ []) ++ r))) rs
          (λ r i. ap (λ x. chance_from g t n (s ∷ r) * both x) (sym (append_assoc h (s ∷ []) r)) ∙ regroup (step_chance t n s) (chance_from g (t + 1) (outcome_of g n s).next r) (both ((h ++ s ∷ []) ++ r)))
          ∙ sum_over-times (step_chance t n s) (λ r. chance_from g (t + 1) (outcome_of g n s).next r * both ((h ++ s ∷ []) ++ r)) rs

  -- where each step's chance meets its row's total, the chances of a joint action sum to the unit
  row_sum : (t n a b : ℕ) (x : ℕ)
      → row_total (row_of (place_at g n) a b) * (chance_unit g t / row_total (row_of (place_at g n) a b)) ≡ chance_unit g t
      → sum_over (λ o. step_chance t n (step_at a b o) * x) (range_with_len 0 (length (row_of (place_at g n) a b))) ≡ chance_unit g t * x
  row_sum t n a b x e =
      let row = row_of (place_at g n) a b in
      let q = chance_unit g t / row_total row in
      let os = range_with_len 0 (length row) in
      sum_over-times_behind (λ o. step_chance t n (step_at a b o)) x os
      ∙ ap (λ m. m * x)
      (sum_over-times_behind (λ o. (outcome_of g n (step_at a b o)).weight) q os
      ∙ ap (λ m. m * q) (sum_over-places (λ (o : Outcome). o.weight) (record { weight = 0; next = 0; own1 = 0; own2 = 0; public = 0 }) row)
      ∙ e)

  -- sums over the actions of both seats
  pair_sum : (c : ℕ) (f h : ℕ → ℕ) (xs ys : List ℕ) → sum_over (λ a. sum_over (λ b. c * (f a * h b)) ys) xs ≡ c * (sum_over f xs * sum_over h ys)
  pair_sum c f h xs ys =
      sum_over-same (λ a. sum_over (λ b. c * (f a * h b)) ys) (λ a. c * (f a * sum_over h ys)) xs
      (λ a i. sum_over-times c (λ b. f a * h b) ys ∙ ap (λ m. c * m) (sum_over-times (f a) h ys))
      ∙ sum_over-times c (λ a. f a * sum_over h ys) xs
      ∙ ap (λ m. c * m) (sum_over-times_behind f (sum_over h ys) xs)

  module _ (ok : game_ok g ≡ true) (unfolds : unfold_fault g ≡ None) (alike1 : AlikeNames g 1) (alike2 : AlikeNames g 2)
      (is1 : SumsToGrid (grid_of g 1) (game_actions g 1) table1) (is2 : SumsToGrid (grid_of g 2) (game_actions g 2) table2) where
    -- what a history is to bring where k steps are left
    abbrev Brings : ℕ → History → Type 0
    Brings k h = after k (length h) (reached g g.root h) h ≡ units_from g (length h) k * both h

    -- over all steps out of a world
    over_steps : (k : ℕ) (h : History) → In h (inner_histories g) → (s : Step) → IsStep (place_of g h) s → In (h ++ s ∷ []) (histories g)
        → ((s : Step) → In s (steps_of (place_of g h)) → after k (length h + 1) (outcome_of g (reached g g.root h) s).next (h ++ s ∷ []) ≡ units_from g (length h + 1) k * both (h ++ s ∷ []))
        → sum_over (λ s. step_chance (length h) (reached g g.root h) s * after k (length h + 1) (outcome_of g (reached g g.root h) s).next (h ++ s ∷ [])) (steps_of (place_of g h))
        ≡ units_from g (length h) (suc k) * both h
    over_steps k h i s step there brings =
        let n = reached g g.root h in
        let t = length h in
        let p = place_of g h in
        let as1 = range_with_len 0 (actions_at 1 p) in
        let as2 = range_with_len 0 (actions_at 2 p) in
        let U = units_from g (t + 1) k in
        let C = chance_unit g t in
        let pok = world_ok g n ok (inner_world g h i).1 in
        let world = (inner_world g h i).1 in
        let o1 = own_then g 1 table1 h in
        let o2 = own_then g 2 table2 h in
        let each : (s : Step) → both (h ++ s ∷ []) ≡ o1 s.action1 * o2 s.action2 =
        λ s. ap (λ m. m * own_along g 2 table2 (h ++ s ∷ [])) (own_push g 1 table1 h s) ∙ ap (λ m. o1 s.action1 * m) (own_push g 2 table2 h s) in
        sum_over-same (λ s. step_chance t n s * after k (t + 1) (outcome_of g n s).next (h ++ s ∷ [])) (λ s. step_chance t n s * (U * (o1 s.action1 * o2 s.action2))) (steps_of p)
        (λ s j. ap (λ m. step_chance t n s * m) (brings s j ∙ ap (λ m. U * m) (each s)))
        ∙ sum_steps (λ s. step_chance t n s * (U * (o1 s.action1 * o2 s.action2))) p
        ∙ sum_over-same
        (λ a. sum_over (λ b. sum_over (λ o. step_chance t n (step_at a b o) * (U * (o1 a * o2 b))) (range_with_len 0 (length (row_of p a b)))) as2)
        (λ a. sum_over (λ b. (C * U) * (o1 a * o2 b)) as2) as1
        (λ a ia. sum_over-same (λ b. sum_over (λ o. step_chance t n (step_at a b o) * (U * (o1 a * o2 b))) (range_with_len 0 (length (row_of p a b)))) (λ b. (C * U) * (o1 a * o2 b)) as2
        (λ b ib. row_sum t n a b (U * (o1 a * o2 b)) (unit_whole g h a b ok i (below a (actions_at 1 p) ia) (below b (actions_at 2 p) ib)) ∙ regroup C U (o1 a * o2 b)))
        ∙ pair_sum (C * U) o1 o2 as1 as2
        ∙ ap (λ m. (C * U) * (m * sum_over o2 as2)) (own_sum g 1 table1 alike1 is1 h i (some_action g 1 p pok world) (decided_most g 1 table1 alike1 h s there))
        ∙ ap (λ m. (C * U) * (own_along g 1 table1 h * m)) (own_sum g 2 table2 alike2 is2 h i (some_action g 2 p pok world) (decided_most g 2 table2 alike2 h s there))
      where
        regroup : (a b c : ℕ) → a * (b * c) ≡ (a * b) * c
        regroup a b c = omega arith

        below : (a m : ℕ) → In a (range_with_len 0 m) → a < m
        below a m j = let r = in_from_range a 0 m j in omega (arith, r.1)

    -- each history brings the units of the steps that are left, times both seats' own weights
    brings_all : (k : ℕ) (h : History) → In h (histories g) → length h + k ≡ g.horizon → Brings k h
    brings_all zero h i e = at (is_world (place_of g h)) refl
      where
        here : length h ≡ g.horizon
        here = omega (arith, e)

        none : g.horizon - length h ≡ 0
        none = omega (arith, e)

        at : (b : Bool) → is_world (place_of g h) ≡ b → Brings 0 h
        at true q = absurd (not_both q (ends_within g unfolds h i here))
        at false q = after_end 0 (length h) (reached g g.root h) h q ∙ ap (λ m. units_from g (length h) m * both h) none
    brings_all (suc k) h i e = at (is_world (place_of g h)) refl (λ s j. brings_all k (h ++ s ∷ []) (further s j) (left s))
      where
        more : length h < g.horizon
        more = omega (arith, e)

        further : (s : Step) → IsStep (place_of g h) s → In (h ++ s ∷ []) (histories g)
        further s step = next_history g h s i more step

        left : (s : Step) → length (h ++ s ∷ []) + k ≡ g.horizon
        left s = let len = length_push h s in omega (arith, e, len)

        steps : g.horizon - length h ≡ suc k
        steps = omega (arith, e)

        one_on : (s : Step) → length (h ++ s ∷ []) ≡ length h + 1
        one_on s = let len = length_push h s in omega (arith, len)

        there : (s : Step) → Brings k (h ++ s ∷ [])
            → after k (length h + 1) (outcome_of g (reached g g.root h) s).next (h ++ s ∷ []) ≡ units_from g (length h + 1) k * both (h ++ s ∷ [])
        there s r =
            subst (λ n. after k (length h + 1) n (h ++ s ∷ []) ≡ units_from g (length h + 1) k * both (h ++ s ∷ [])) (reached_push g g.root h s)
            (subst (λ t. after k t (reached g g.root (h ++ s ∷ [])) (h ++ s ∷ []) ≡ units_from g t k * both (h ++ s ∷ [])) (one_on s) r)

        at : (b : Bool) → is_world (place_of g h) ≡ b → ((s : Step) → IsStep (place_of g h) s → Brings k (h ++ s ∷ [])) → Brings (suc k) h
        at true q rest =
            let s = some_step g (place_of g h) (world_ok g (reached g g.root h) ok q) q in
            after_world k (length h) (reached g g.root h) h q
            ∙ over_steps k h (inner_has g h i q) s.0 s.1 (further s.0 s.1) (λ s j. there s (rest s (step_from (place_of g h) s j)))
        at false q rest = after_end (suc k) (length h) (reached g g.root h) h q ∙ ap (λ m. units_from g (length h) m * both h) steps

-- the law of the whole
pub whole_law : WholeLaw
whole_law g table1 table2 ok is1 is2 =
    let alike = (recall_law g).0 ok.recalls in
    sum_over_terminal g (λ h. chance g h * (own_along g 1 table1 h * own_along g 2 table2 h))
    ∙ brings_all g table1 table2 ok.good ok.unfolds alike.0 alike.1 is1 is2 g.horizon [] (legal_history g [] tt (omega arith)) (omega arith)
    ∙ clear (units_from g 0 g.horizon) (grid_of g 1) (most_decisions g 1) (grid_of g 2) (most_decisions g 2)
  where
    whole : (m : ℕ) → m - 0 ≡ m
    whole m = omega arith

    ones : (u a b : ℕ) → u * ((1 * a) * (1 * b)) ≡ u * (a * b)
    ones u a b = omega arith

    clear : (u d m e n : ℕ) → u * ((1 * d ^ (m - 0)) * (1 * e ^ (n - 0))) ≡ u * (d ^ m * e ^ n)
    clear u d m e n =
        ap (λ x. u * ((1 * d ^ x) * (1 * e ^ (n - 0)))) (whole m) ∙ ap (λ x. u * ((1 * d ^ m) * (1 * e ^ x))) (whole n) ∙ ones u (d ^ m) (e ^ n)
