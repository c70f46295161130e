-- How many weights the table of a seat of a game has.
use Rattle.std.proofs.Common.{◌≡◌, ℕ, zero, suc, ◌+◌, ◌*◌, ◌≤◌, List, [], ◌∷◌, ◌++◌, Bool, true, false, cond, filter, flat_map, map, length, take, Option, Some, None, refl, sym, ap, ◌∙◌, subst, arith, inl, inr, length-append, mul-le-mul, le_of_eq, take_all}
use Rattle.std.specs.declared.cmp.Ordering.{Ordering}
use Rattle.std.specs.declared.cmp.Ordering.TheVariants.{Less, Equal, Greater}
use Rattle.std.specs.Ordering.{is_eq}
use Rattle.std.specs.Prelude.{nat_le}
use Rattle.std.proofs.lemmas.List.{length-map}
use Rattle.std.proofs.lemmas.Map.Lookups.{CmpEqualImpliesEq}
use Rattle.lab_math.specs.Sums.{sum_over}
use Rattle.lab_math.proofs.Members.{In, all_in}
use Rattle.lab_math.proofs.NaturalSums.{sum_over-append, sum_over-map, sum_over-same}
use Rattle.lab_defs_text.specs.Games.{GameModel, Place, a_world, an_end}
use Rattle.lab_defs_text.specs.Texts.{is_world, place_ok}
use Rattle.lab_defs_game.specs.Keys.{count}
use Rattle.lab_defs_game.specs.Histories.{History, actions_at, steps_of, reached, longer, with_longer, histories, inner_histories, place_of}
use Rattle.lab_defs_game.specs.Sets.{Item, seen, sets, set_cmp, set_actions, first_actions}
use Rattle.lab_defs_game.specs.Forms.{FormSet, game_set, game_sets, game_actions}
use Rattle.lab_defs_game.specs.Unfolding.{UnfoldFault, too_many_histories, horizon_passed, standing, first_too_many, first_world, size_fault, horizon_fault, unfold_fault}
use Rattle.lab_defs_game.specs.Accepted.{IsAccepted}
use Rattle.lab_defs_game.proofs.KeyLemmas.{Ascending}
use Rattle.lab_defs_game.proofs.NumberLemmas.{count_none}
use Rattle.lab_defs_game.proofs.Orders.{set_exact}
use Rattle.lab_defs_game.proofs.GameLemmas.{sets_ascending}
use Rattle.lab_defs_game.proofs.HistoryCounts.{level, with_longer_level, history_count_law}
use Rattle.lab_defs_game.proofs.FormLemmas.{first_open, first_world_is, none_open, world_ok}
use Rattle.lab_defs_game.proofs.UnfoldLaws.{few_is, accepted_law}
use Rattle.lab_defs_value.specs.Tables.{weights_of, weight_count}
use Rattle.lab_sizes.proofs.SizeCounts.{steps_many}

-- ---- the actions of histories

-- a seat has no action at an end
end_actions : (seat : ℕ) (p : Place) → is_world p ≡ false → actions_at seat p ≡ 0
end_actions seat (a_world w) e = absurd cc
end_actions seat (an_end z) e = refl

-- a seat has no more actions at a history than histories are a step longer
actions_le : (g : GameModel) → IsAccepted g → (seat : ℕ) (h : History) → actions_at seat (place_of g h) ≤ length (longer g h)
actions_le g ok seat h = at (is_world (place_of g h)) refl
  where
    at : (b : Bool) → is_world (place_of g h) ≡ b → actions_at seat (place_of g h) ≤ length (longer g h)
    at true e =
        let many = steps_many g seat (place_of g h) (world_ok g (reached g g.root h) ok.good e) e in
        omega (arith, many, length-map (steps_of (place_of g h)) (λ s. h ++ s ∷ []))
    at false e = omega (arith, end_actions seat (place_of g h) e)

module _ (g : GameModel) (ok : IsAccepted g) (seat : ℕ) where
  -- how many actions the seat has at histories together
  abbrev actions_over : List History → ℕ
  actions_over hs = sum_over (λ h. actions_at seat (place_of g h)) hs

  -- no more than there are histories a step longer
  actions_next : (hs : List History) → actions_over hs ≤ length (flat_map (longer g) hs)
  actions_next [] = omega arith
  actions_next (h ∷ hs) = omega (arith, actions_le g ok seat h, actions_next hs, length-append (longer g h) (flat_map (longer g) hs))

  -- so up to a depth no more than there are histories, those of the last level counted anew
  actions_to : (t : ℕ) → actions_over (with_longer g t ([] ∷ [])) + 1 ≤ length (with_longer g t ([] ∷ [])) + actions_over (level g t)
  actions_to zero = omega arith
  actions_to (suc t) =
      let all = with_longer g t ([] ∷ []) in
      let next = level g (suc t) in
      let sums = ap actions_over (with_longer_level g t) ∙ sum_over-append (λ h. actions_at seat (place_of g h)) all next in
      let counts = ap length (with_longer_level g t) ∙ length-append all next in
      omega (arith, sums, counts, actions_to t, actions_next (level g t))

  -- at terminal histories there are none
  no_actions : (hs : List History) → ((h : History) → In h hs → is_world (place_of g h) ≡ false) → actions_over hs ≡ 0
  no_actions [] ends = refl
  no_actions (h ∷ hs) ends = omega (arith, end_actions seat (place_of g h) (ends h (inl refl)), no_actions hs (λ k i. ends k (inr i)))

  -- the histories of the last level are such
  last_ends : (h : History) → In h (level g g.horizon) → is_world (place_of g h) ≡ false
  last_ends = none_open g (level g g.horizon) (sym (first_world_is g g.horizon) ∙ none_left (first_world g (standing g g.horizon)) within)
    where
      passed : (o : Option ℕ) → o ≡ None → ◌≡◌ {A = Option UnfoldFault} (elim o [ Some t ↦ Some (too_many_histories t) | None ↦ horizon_fault g ]) None → horizon_fault g ≡ None
      passed (Some t) e f = absurd cc
      passed None e f = f

      within : horizon_fault g ≡ None
      within = passed (first_too_many g 0 (g.horizon + 1)) ((few_is g).0 ((accepted_law g).0 ok.unfolds).0) ok.unfolds

      none_left : (o : Option ℕ) → ◌≡◌ {A = Option UnfoldFault} (elim o [ Some n ↦ Some (horizon_passed n) | None ↦ size_fault g ]) None → o ≡ None
      none_left None e = refl
      none_left (Some n) e = absurd cc

  -- so a seat has at most 2^16 actions at all histories
  few_actions : actions_over (histories g) ≤ 65536
  few_actions =
      let count = subst (λ n. n ≤ 65536) (sym (history_count_law g g.horizon)) (((accepted_law g).0 ok.unfolds).0 g.horizon (omega arith)) in
      omega (arith, count, actions_to g.horizon, no_actions (level g g.horizon) last_ends)

-- ---- the actions of sets

-- a sum where items that pass have another value: as often as they pass, and the sum
picked_sum : {K : Type 0} (p : K → Bool) (a : ℕ) (f : K → ℕ) (xs : List K) → sum_over (λ x. cond (p x) a (f x)) xs ≤ count p xs * a + sum_over f xs
picked_sum p a f [] = omega arith
picked_sum p a f (x ∷ xs) = at (p x) (picked_sum p a f xs)
  where
    at : (b : Bool) → sum_over (λ x. cond (p x) a (f x)) xs ≤ count p xs * a + sum_over f xs → cond b a (f x) + sum_over (λ x. cond (p x) a (f x)) xs ≤ (cond b 1 0 + count p xs) * a + (f x + sum_over f xs)
    at true l = let e : (1 + count p xs) * a ≡ a + count p xs * a = omega arith in omega (arith, l, e)
    at false l = let e : (0 + count p xs) * a ≡ count p xs * a = omega arith in omega (arith, l, e)

-- of keys in order at most one is a given one
one_tied : {K : Type 0} (R : K → K → Ordering) → CmpEqualImpliesEq R → (k : K) (xs : List K) → Ascending R xs → count (λ x. is_eq (R k x)) xs ≤ 1
one_tied {K = K} R exact k [] a = omega arith
one_tied {K = K} R exact k (x ∷ xs) a = at (R k x) refl (one_tied R exact k xs a.1)
  where
    apart : R k x ≡ Equal → (y : K) → In y xs → is_eq (R k y) ≡ false
    apart e y i = ap is_eq (ap (λ z. R z y) (exact k x e) ∙ all_in (λ y. R x y ≡ Less) xs y a.0 i)

    at : (o : Ordering) → R k x ≡ o → count (λ x. is_eq (R k x)) xs ≤ 1 → cond (is_eq o) 1 0 + count (λ x. is_eq (R k x)) xs ≤ 1
    at Less e l = omega (arith, l)
    at Greater e l = omega (arith, l)
    at Equal e l = omega (arith, count_none (λ y. is_eq (R k y)) xs (apart e))

-- a seat has no more actions at sets, each by its first history, than at all histories
first_over : (g : GameModel) (seat : ℕ) (ss : List (List Item)) → Ascending set_cmp ss → (hs : List History)
    → sum_over (λ s. first_actions g seat s hs) ss ≤ sum_over (λ h. actions_at seat (place_of g h)) hs
first_over g seat ss a [] = omega (arith, zeros ss)
  where
    zeros : (ss : List (List Item)) → sum_over (λ s. 0) ss ≡ 0
    zeros [] = refl
    zeros (s ∷ ss) = omega (arith, zeros ss)
first_over g seat ss a (h ∷ hs) =
    let n = actions_at seat (place_of g h) in
    let once = mul-le-mul (one_tied set_cmp set_exact (seen g seat h) ss a) (le_of_eq (same n)) in
    omega (arith, once, picked_sum (λ s. is_eq (set_cmp (seen g seat h) s)) n (λ s. first_actions g seat s hs) ss, first_over g seat ss a hs)
  where
    same : (n : ℕ) → n ≡ n
    same n = refl

-- what passes a test sums to no more
filter_over : {X : Type 0} (f : X → ℕ) (p : X → Bool) (xs : List X) → sum_over f (filter p xs) ≤ sum_over f xs
filter_over f p [] = omega arith
filter_over f p (x ∷ xs) = at (p x) (filter_over f p xs)
  where
    at : (b : Bool) → sum_over f (filter p xs) ≤ sum_over f xs → sum_over f (cond b (x ∷ filter p xs) (filter p xs)) ≤ f x + sum_over f xs
    at true l = omega (arith, l)
    at false l = omega (arith, l)

-- sets have no more weights than actions
weights_over : (ns : List ℕ) → sum_over weights_of ns ≤ sum_over (λ n. n) ns
weights_over [] = omega arith
weights_over (n ∷ ns) = at (nat_le 2 n) (weights_over ns)
  where
    at : (b : Bool) → sum_over weights_of ns ≤ sum_over (λ n. n) ns → cond b n 0 + sum_over weights_of ns ≤ n + sum_over (λ n. n) ns
    at true l = omega (arith, l)
    at false l = omega (arith, l)

-- a table of a seat of an accepted game has at most 2^16 weights
pub few_weights : (g : GameModel) → IsAccepted g → (seat : ℕ) → weight_count g seat ≤ 65536
few_weights g ok seat =
    let ns = game_actions g seat in
    let ss = sets g seat in
    let all : weight_count g seat ≡ sum_over weights_of ns = ap (sum_over weights_of) (take_all (length ns) ns (omega arith)) in
    let sum = sum_over-map (λ n. n) (λ (x : FormSet). x.actions) (game_sets g seat) ∙ sum_over-map (λ (x : FormSet). x.actions) (game_set g seat) ss in
    omega (
      arith,
      all,
      sum,
      weights_over ns,
      first_over g seat ss (sets_ascending g seat) (inner_histories g),
      filter_over (λ h. actions_at seat (place_of g h)) (λ h. is_world (place_of g h)) (histories g),
      few_actions g ok seat,
    )
