-- How large what actions back up is.
use Rattle.std.proofs.Common.{◌≡◌, ℕ, zero, suc, ◌+◌, ◌^◌, ◌<◌, ◌≤◌, ℤ, pos, List, [], ◌∷◌, Bool, true, false, cond, length, map, take, get_or, sym, ap, ◌∙◌, subst, arith}
use Rattle.std.specs.Prelude.{unsigned_abs}
use Rattle.std.specs.List.{All, range_with_len}
use Rattle.std.proofs.lemmas.Int.{ints}
use Rattle.std.proofs.lemmas.List.{take_more, take_all, length-map, get_or-map}
use Rattle.lab_math.specs.Sums.{sum_over}
use Rattle.lab_math.specs.Below.{total_below}
use Rattle.lab_math.proofs.Totals.{total_size}
use Rattle.lab_math.proofs.NaturalSums.{sum_over-append, sum_over-map}
use Rattle.lab_units.specs.declared.worth.Worth.{Worth}
use Rattle.lab_defs_game.specs.Forms.{parent_of, path_of}
use Rattle.lab_defs_game.specs.Paths.{is_taken, last_step}
use Rattle.lab_defs_value.specs.Replies.{Strategy, reply_sets, opponent, worth_against}
use Rattle.lab_defs_value.specs.Bounds.{at, through, through_rows}
use Rattle.lab_defs_value.specs.Laws.{worth_sizes}
use Rattle.lab_best.specs.Values.{numbers}
use Rattle.lab_best.proofs.NumberLemmas.{number_in_range, range_length}

-- what is counted or not is no larger
counted : (b : Bool) (z : ℤ) → unsigned_abs (cond b z (pos 0)) ≤ unsigned_abs z
counted true z = omega arith
counted false z = omega arith

-- some of the first n numbers sum to no more than all of these come to
some_within : (p : ℕ → Bool) (zs : List ℤ) (n : ℕ) → n ≤ length zs → unsigned_abs (total_below n (λ I. cond (p I) (at zs I) (pos 0))) ≤ sum_over unsigned_abs (take n zs)
some_within p zs zero l = omega arith
some_within p zs (suc n) l =
    let next : suc n ≡ n + 1 = omega arith in
    let more = ap (λ k. sum_over unsigned_abs (take k zs)) next ∙ ap (sum_over unsigned_abs) (take_more zs n (pos 0) (omega (arith, l))) ∙ sum_over-append unsigned_abs (take n zs) (get_or zs n (pos 0) ∷ []) in
    omega (arith, ints, some_within p zs n (omega (arith, l)), counted (p n) (at zs n), more)

-- what the rows that end with an action are worth is no more than what all are worth
rows_within : (s : Strategy) (J a : ℕ) → unsigned_abs (through_rows s J a) ≤ worth_sizes s
rows_within s J a =
    total_size (λ z. Unit {0}) (λ z. cond (is_taken (record { set = J; action = a }) (last_step (path_of z (opponent s)))) (worth_against s z) (pos 0)) (λ z. unsigned_abs (worth_against s z)) s.form.rows
    (λ k d l. tt) (λ z u. counted (is_taken (record { set = J; action = a }) (last_step (path_of z (opponent s)))) (worth_against s z))

-- what an action backs up by some numbers is no more than they, and all that the rows are worth, come to
backed_within : (s : Strategy) (zs : List ℤ) (J a : ℕ) → length zs ≡ length (reply_sets s) → unsigned_abs (through s (at zs) J a) ≤ sum_over unsigned_abs zs + worth_sizes s
backed_within s zs J a long =
    let sets = some_within (λ I. is_taken (record { set = J; action = a }) (parent_of s.form (opponent s) I)) zs (length (reply_sets s)) (omega (arith, long)) in
    let whole : sum_over unsigned_abs (take (length (reply_sets s)) zs) ≡ sum_over unsigned_abs zs = ap (sum_over unsigned_abs) (take_all (length (reply_sets s)) zs (omega (arith, long))) in
    omega (arith, ints, sets, whole, rows_within s J a)

-- worths that are what actions back up are no larger
pub all_within : (s : Strategy) (values out : List Worth) (J first n : ℕ) → length values ≡ length (reply_sets s) → worth_sizes s ≤ 2 ^ 94
    → numbers out ≡ map (through s (at (numbers values)) J) (range_with_len first n) → All (λ (w : Worth). unsigned_abs w.0 ≤ sum_over (λ (v : Worth). unsigned_abs v.0) values + 2 ^ 94) out
all_within s values out J first n long small e k d l =
    let h = through s (at (numbers values)) J in
    let place = number_in_range out h first n e k (subst (λ m. k < m) (range_length out h first n e) l) in
    let size = backed_within s (numbers values) J (first + k) (length-map values (λ (v : Worth). v.0) ∙ long) in
    let sum = sum_over-map unsigned_abs (λ (v : Worth). v.0) values in
    subst (λ z. unsigned_abs z ≤ sum_over (λ (v : Worth). unsigned_abs v.0) values + 2 ^ 94) (sym place ∙ get_or-map (λ (w : Worth). w.0) out k d (pos 0) l) (omega (arith, size, sum, small))
