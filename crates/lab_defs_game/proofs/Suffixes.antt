-- The terminal histories by the steps that lead on from a history to them.
use Rattle.std.proofs.Common.{◌≡◌, ℕ, zero, suc, ◌+◌, List, [], ◌∷◌, ◌++◌, Bool, true, false, cond, map, filter, flat_map, refl, sym, ap, ◌∙◌, arith}
use Rattle.std.specs.Prelude.{not, if◌then◌else◌}
use Rattle.std.proofs.lemmas.List.{append_assoc, append-nil}
use Rattle.std.proofs.lemmas.List.Elements.{filter-append}
use Rattle.lab_math.specs.Sums.{sum_over}
use Rattle.lab_math.proofs.NaturalSums.{sum_over-append, sum_over-map, sum_over-flat_map, sum_over-same, sum_over-plus, sum_over-filter}
use Rattle.lab_defs_text.specs.Games.{GameModel, Place, a_world, an_end}
use Rattle.lab_defs_text.specs.Texts.{place_at, is_world}
use Rattle.lab_defs_game.specs.Histories.{History, Step, place_of, reached, outcome_of, steps_of, longer, with_longer, is_terminal, terminal_histories}
use Rattle.lab_defs_game.proofs.GameLemmas.{reached_push}

-- the steps of at most k that lead from the place n to an end
abbrev pub ends_from : GameModel → ℕ → ℕ → List History
ends_from g zero n = if is_world (place_at g n) then [] else [] ∷ []
ends_from g (suc k) n = if is_world (place_at g n) then flat_map (λ s. map (λ r. s ∷ r) (ends_from g k (outcome_of g n s).next)) (steps_of (place_at g n)) else [] ∷ []

-- no step leads out of an end
pub no_steps : (p : Place) → is_world p ≡ false → steps_of p ≡ []
no_steps (a_world w) e = absurd cc
no_steps (an_end z) e = refl

module _ (g : GameModel) (f : History → ℕ) where
  -- the sum over the ends that follow a history within k steps
  abbrev pub sum_behind : ℕ → History → ℕ
  sum_behind k h = sum_over (λ r. f (h ++ r)) (ends_from g k (reached g g.root h))

  -- what a history itself gives
  abbrev at_it : History → ℕ
  at_it h = cond (not (is_world (place_of g h))) (f h) 0

  -- behind an end is nothing but itself
  behind_end : (k : ℕ) (h : History) → is_world (place_of g h) ≡ false → sum_behind k h ≡ f h
  behind_end zero h e =
      ap (λ b. sum_over (λ r. f (h ++ r)) (cond b [] ([] ∷ []))) e ∙ one (f (h ++ [])) ∙ ap f (append-nil h)
    where
      one : (n : ℕ) → n + 0 ≡ n
      one n = omega arith
  behind_end (suc k) h e =
      ap (λ b. sum_over (λ r. f (h ++ r)) (cond b (flat_map (λ s. map (λ r. s ∷ r) (ends_from g k (outcome_of g (reached g g.root h) s).next)) (steps_of (place_of g h))) ([] ∷ []))) e
      ∙ one (f (h ++ [])) ∙ ap f (append-nil h)
    where
      one : (n : ℕ) → n + 0 ≡ n
      one n = omega arith

  -- behind a world is what is behind its steps
  behind_world : (k : ℕ) (h : History) → is_world (place_of g h) ≡ true → sum_behind (suc k) h ≡ sum_over (λ s. sum_behind k (h ++ s ∷ [])) (steps_of (place_of g h))
  behind_world k h e =
      ap (λ b. sum_over (λ r. f (h ++ r)) (cond b (flat_map (λ s. map (λ r. s ∷ r) (ends_from g k (outcome_of g (reached g g.root h) s).next)) (steps_of (place_of g h))) ([] ∷ []))) e
      ∙ sum_over-flat_map (λ r. f (h ++ r)) (λ s. map (λ r. s ∷ r) (ends_from g k (outcome_of g (reached g g.root h) s).next)) (steps_of (place_of g h))
      ∙ sum_over-same (λ s. sum_over (λ r. f (h ++ r)) (map (λ r. s ∷ r) (ends_from g k (outcome_of g (reached g g.root h) s).next))) (λ s. sum_behind k (h ++ s ∷ [])) (steps_of (place_of g h))
      (λ s i. step s)
    where
      step : (s : Step) → sum_over (λ r. f (h ++ r)) (map (λ r. s ∷ r) (ends_from g k (outcome_of g (reached g g.root h) s).next)) ≡ sum_behind k (h ++ s ∷ [])
      step s =
          sum_over-map (λ r. f (h ++ r)) (λ r. s ∷ r) (ends_from g k (outcome_of g (reached g g.root h) s).next)
          ∙ sum_over-same (λ r. f (h ++ s ∷ r)) (λ r. f ((h ++ s ∷ []) ++ r)) (ends_from g k (outcome_of g (reached g g.root h) s).next) (λ r i. ap f (sym (append_assoc h (s ∷ []) r)))
          ∙ ap (λ n. sum_over (λ r. f ((h ++ s ∷ []) ++ r)) (ends_from g k n)) (sym (reached_push g g.root h s))

  -- what a history gives, and what is behind its longer ones, is what is behind it
  one_more : (k : ℕ) (h : History) → at_it h + sum_over (sum_behind k) (longer g h) ≡ sum_behind (suc k) h
  one_more k h = at (is_world (place_of g h)) refl
    where
      nothing_first : (n : ℕ) → 0 + n ≡ n
      nothing_first n = omega arith

      nothing : (n m : ℕ) → m ≡ 0 → n + m ≡ n
      nothing n m e = omega (arith, e)

      at : (b : Bool) → is_world (place_of g h) ≡ b → at_it h + sum_over (sum_behind k) (longer g h) ≡ sum_behind (suc k) h
      at true e =
          ap (λ b. cond (not b) (f h) 0 + sum_over (sum_behind k) (longer g h)) e
          ∙ nothing_first (sum_over (sum_behind k) (longer g h))
          ∙ sum_over-map (sum_behind k) (λ s. h ++ s ∷ []) (steps_of (place_of g h))
          ∙ sym (behind_world k h e)
      at false e =
          ap (λ b. cond (not b) (f h) 0 + sum_over (sum_behind k) (longer g h)) e
          ∙ nothing (f h) (sum_over (sum_behind k) (longer g h)) (ap (λ ss. sum_over (sum_behind k) (map (λ s. h ++ s ∷ []) ss)) (no_steps (place_of g h) e))
          ∙ sym (behind_end (suc k) h e)

  -- without a further step
  none_more : (h : History) → at_it h ≡ sum_behind 0 h
  none_more h = at (is_world (place_of g h)) refl
    where
      at : (b : Bool) → is_world (place_of g h) ≡ b → at_it h ≡ sum_behind 0 h
      at true e = ap (λ b. cond (not b) (f h) 0) e ∙ sym (ap (λ b. sum_over (λ r. f (h ++ r)) (cond b [] ([] ∷ []))) e)
      at false e = ap (λ b. cond (not b) (f h) 0) e ∙ sym (behind_end 0 h e)

  -- the sum over the terminal ones of histories and longer ones
  pub sum_by_suffix : (k : ℕ) (hs : List History) → sum_over f (filter (is_terminal g) (with_longer g k hs)) ≡ sum_over (sum_behind k) hs
  sum_by_suffix zero hs = sum_over-filter f (is_terminal g) hs ∙ sum_over-same at_it (sum_behind 0) hs (λ h i. none_more h)
  sum_by_suffix (suc k) hs =
      ap (sum_over f) (filter-append (is_terminal g) hs (with_longer g k (flat_map (longer g) hs)))
      ∙ sum_over-append f (filter (is_terminal g) hs) (filter (is_terminal g) (with_longer g k (flat_map (longer g) hs)))
      ∙ ap (λ n. n + sum_over f (filter (is_terminal g) (with_longer g k (flat_map (longer g) hs)))) (sum_over-filter f (is_terminal g) hs)
      ∙ ap (λ n. sum_over at_it hs + n) (sum_by_suffix k (flat_map (longer g) hs) ∙ sum_over-flat_map (sum_behind k) (longer g) hs)
      ∙ sum_over-plus at_it (λ h. sum_over (sum_behind k) (longer g h)) hs
      ∙ sum_over-same (λ h. at_it h + sum_over (sum_behind k) (longer g h)) (sum_behind (suc k)) hs (λ h i. one_more k h)

  -- the sum over all terminal histories
  pub sum_over_terminal : sum_over f (terminal_histories g) ≡ sum_over f (ends_from g g.horizon g.root)
  sum_over_terminal = sum_by_suffix g.horizon ([] ∷ []) ∙ alone (sum_over f (ends_from g g.horizon g.root))
    where
      alone : (n : ℕ) → n + 0 ≡ n
      alone n = omega arith
