-- Weights that sum to the grid, in the words of the definitions.
use Rattle.std.proofs.Common.{◌≡◌, ℕ, zero, suc, ◌+◌, ◌-◌, ◌<◌, ◌≤◌, List, length, take, drop, get_or, Bool, true, false, cond, refl, sym, ap, ◌∙◌, subst, arith}
use Rattle.std.specs.Prelude.{not, ◌||◌, ◌==◌, sum, slice_index}
use Rattle.std.proofs.lemmas.Bool.{eqb-true}
use Rattle.std.proofs.lemmas.List.{get_or-drop, length-drop, take_more}
use Rattle.std.proofs.lemmas.List.Sums.{sum_by_push}
use Rattle.lab_math.specs.Below.{sum_below}
use Rattle.lab_math.proofs.BelowLemmas.{sum_below_cong, eqb_self}
use Rattle.lab_defs_game.specs.Forms.{decides}
use Rattle.lab_defs_value.specs.Tables.{weights_of, first_weight}
use Rattle.lab_defs_value.specs.Replies.{SumsToGrid}
use Rattle.lab_table.specs.Tables.{all_weights, weights_at, AreWeights}
use Rattle.lab_table.proofs.PlaceLemmas.{first_le, next_is}

-- the sum of the first numbers is the sum over their places
sum_take : (xs : List ℕ) (n : ℕ) → n ≤ length xs → sum (take n xs) ≡ sum_below n (λ a. get_or xs a 0)
sum_take xs zero l = refl
sum_take xs (suc n) l =
    let next : suc n ≡ n + 1 = omega arith in
    ap (λ k. sum (take k xs)) next
    ∙ ap sum (take_more xs n 0 (omega (arith, l)))
    ∙ sum_by_push (λ x. x) (take n xs) (get_or xs n 0)
    ∙ ap (λ s. s + get_or xs n 0) (sum_take xs n (omega (arith, l)))

-- the weights of a deciding set sum to what they sum to by their places
span_sum : (actions weights : List ℕ) (set : ℕ) → set < length actions → decides actions set ≡ true → length weights ≡ all_weights actions
    → sum (weights_at actions weights set) ≡ sum_below (slice_index actions set) (λ a. slice_index weights (first_weight actions set + a))
span_sum actions weights set there d count =
    let n = slice_index actions set in
    let first = first_weight actions set in
    let end = first_weight actions (set + 1) in
    let own : weights_of n ≡ n = ap (λ b. cond b n 0) d in
    let next : end ≡ first + n = next_is actions set there ∙ ap (λ m. first + m) own in
    let gap : end - first ≡ n = omega (arith, next) in
    let long : n ≤ length (drop first weights) =
    omega (arith, next, length-drop first weights, count, first_le actions (set + 1) (length actions) (omega (arith, there))) in
    ap (λ m. sum (take m (drop first weights))) gap
    ∙ sum_take (drop first weights) n long
    ∙ sum_below_cong n (λ a. get_or (drop first weights) a 0) (λ a. slice_index weights (first + a)) (λ a l. get_or-drop first weights a 0)

-- weights sum to the grid as the definitions say it
pub weights_sum : (grid : ℕ) (actions weights : List ℕ) → AreWeights grid actions weights → SumsToGrid grid actions weights
weights_sum grid actions weights ok set there d =
    let right : (not (decides actions set) || sum (weights_at actions weights set) == grid) ≡ true = ok.sums set there in
    let sums : (sum (weights_at actions weights set) == grid) ≡ true = subst (λ b. (not b || sum (weights_at actions weights set) == grid) ≡ true) d right in
    sym (span_sum actions weights set there d ok.count) ∙ eqb-true (sum (weights_at actions weights set)) grid sums

-- and back: as many weights as the deciding sets have actions, which sum to the grid as the definitions say it
pub sums_weigh : (grid : ℕ) (actions weights : List ℕ) → length weights ≡ all_weights actions → SumsToGrid grid actions weights → AreWeights grid actions weights
sums_weigh grid actions weights count sums = record { count = count; sums = λ set there. at set there (decides actions set) refl }
  where
    at : (set : ℕ) → set < length actions → (b : Bool) → decides actions set ≡ b → (not b || sum (weights_at actions weights set) == grid) ≡ true
    at set there false d = refl
    at set there true d = ap (λ n. n == grid) (span_sum actions weights set there d count ∙ sums set there d) ∙ eqb_self grid
