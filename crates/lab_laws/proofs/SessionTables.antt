-- Tables whose weights sum to the grid: as they are read, and with a part replaced.
use Rattle.std.proofs.Common.{◌≡◌, ℕ, zero, suc, ◌+◌, ◌-◌, ◌<◌, ◌≤◌, List, [], ◌∷◌, Bool, true, false, cond, eqb, not, ◌&&◌, ◌||◌, length, take, drop, get_or, refl, sym, ap, ◌∙◌, arith, inl, inr, ◌⊎◌, Option, Some, None, Result, Ok, eqb-true, zero-add}
use Rattle.std.specs.Prelude.{nat_le, nat_lt, slice_index, slice_range, sum}
use Rattle.std.proofs.lemmas.Bool.{both_ways, cases_lt, and_parts, leb-true, ltb-true}
use Rattle.std.proofs.lemmas.List.{take_all, get_or_past, get_or-drop, length-take, length-drop}
use Rattle.std.proofs.lemmas.List.Sums.{sum_by_more}
use Rattle.lab_math.specs.Below.{sum_below}
use Rattle.lab_math.proofs.BelowLemmas.{sum_below_cong}
use Rattle.lab_defs_game.specs.Forms.{decides}
use Rattle.lab_defs_value.specs.Tables.{weights_of, first_weight}
use Rattle.lab_defs_value.specs.Splices.{spliced, FitsSpan}
use Rattle.lab_defs_value.specs.Replies.{SumsToGrid}
use Rattle.lab_defs_value.proofs.SubgameRows.{set_inside, weight_inside, not_inside}
use Rattle.lab_defs_value.proofs.Splicing.{splice_law}
use Rattle.lab_defs_report.specs.States.{SessionFault, first_wrong_sum, unless_wrong}

-- the first weights sum to what they sum to by their places
take_sum : (n : ℕ) (ws : List ℕ) → sum (take n ws) ≡ sum_below n (slice_index ws)
take_sum zero ws = refl
take_sum (suc n) ws = by (cases_lt n (length ws)) (take_sum n ws)
  where
    next : n + 1 ≡ suc n
    next = omega arith

    by : (n < length ws) ⊎ (length ws ≤ n) → sum (take n ws) ≡ sum_below n (slice_index ws) → sum (take (suc n) ws) ≡ sum_below n (slice_index ws) + slice_index ws n
    by (inl l) rest = ap (λ k. sum (take k ws)) (sym next) ∙ sum_by_more (λ x. x) ws n 0 l ∙ ap (λ s. s + slice_index ws n) rest
    by (inr g) rest =
        let none : slice_index ws n ≡ 0 = get_or_past ws n 0 g in
        let same : sum (take (suc n) ws) ≡ sum (take n ws) = ap sum (take_all (suc n) ws (omega (arith, g)) ∙ sym (take_all n ws g)) in
        omega (arith, none, same, rest)

-- weights of which no sum is found wrong sum to the grid
pub sums_from : (grid set : ℕ) (ns ws : List ℕ) → first_wrong_sum grid set ns ws ≡ None → SumsToGrid grid ns ws
sums_from grid set [] ws e J l d = absurd (omega (arith, l))
sums_from grid set (n ∷ ns) ws e J l d = by (nat_le 2 n) refl (eqb (sum (take n ws)) grid) refl e J l d (λ e J l d. sums_from grid (set + 1) ns (drop (weights_of n) ws) e J l d)
  where
    Rest : Type 0
    Rest = first_wrong_sum grid (set + 1) ns (drop (weights_of n) ws) ≡ None → SumsToGrid grid ns (drop (weights_of n) ws)

    later : first_wrong_sum grid (set + 1) ns (drop (weights_of n) ws) ≡ None → Rest → (J : ℕ) → J < length ns → decides ns J ≡ true
        → sum_below (slice_index ns J) (λ a. slice_index ws (first_weight (n ∷ ns) (suc J) + a)) ≡ grid
    later e rest J l d =
        let place : (a : ℕ) → first_weight (n ∷ ns) (suc J) + a ≡ weights_of n + (first_weight ns J + a) = λ a. omega arith in
        sum_below_cong (slice_index ns J) _ (λ a. slice_index (drop (weights_of n) ws) (first_weight ns J + a))
        (λ a k. ap (λ i. get_or ws i 0) (place a) ∙ sym (get_or-drop (weights_of n) ws (first_weight ns J + a) 0)) ∙ rest e J l d

    by : (b : Bool) → nat_le 2 n ≡ b → (c : Bool) → eqb (sum (take n ws)) grid ≡ c → cond (b && not c) (Some set) (first_wrong_sum grid (set + 1) ns (drop (weights_of n) ws)) ≡ None
        → (J : ℕ) → J < length (n ∷ ns) → decides (n ∷ ns) J ≡ true → Rest → sum_below (slice_index (n ∷ ns) J) (λ a. slice_index ws (first_weight (n ∷ ns) J + a)) ≡ grid
    by true p false q e J l d rest = absurd cc
    by true p true q e zero l d rest = sum_below_cong n _ (slice_index ws) (λ a k. ap (λ i. get_or ws i 0) (zero-add a)) ∙ sym (take_sum n ws) ∙ eqb-true (sum (take n ws)) grid q
    by true p true q e (suc J) l d rest = later e rest J (omega (arith, l)) d
    by false p c q e zero l d rest = absurd (both_ways (nat_le 2 n) p d)
    by false p c q e (suc J) l d rest = later e rest J (omega (arith, l)) d

-- where that is told, none was
pub none_wrong : {A : Type 0} (seat : ℕ) (o : Option ℕ) (x y : A) → ◌≡◌ {A = Result A SessionFault} (unless_wrong seat o x) (Ok y) → o ≡ None
none_wrong seat None x y e = refl
none_wrong seat (Some set) x y e = absurd cc

-- a splice of weights that sum to the grid into a table whose weights do is one
pub spliced_sums : (grid : ℕ) (ns : List ℕ) (start end : ℕ) (table proposal : List ℕ) → FitsSpan ns start end table proposal → SumsToGrid grid ns table → SumsToGrid grid (slice_range ns start end) proposal
    → SumsToGrid grid ns (spliced ns start end table proposal)
spliced_sums grid ns start end table proposal f whole part J l d = by (nat_le start J && nat_lt J end) refl
  where
    outside : (nat_lt J start || nat_le end J) ≡ true → sum_below (slice_index ns J) (λ a. slice_index (spliced ns start end table proposal) (first_weight ns J + a)) ≡ grid
    outside out =
        sum_below_cong (slice_index ns J) _ (λ a. slice_index table (first_weight ns J + a)) (λ a la.
        sym (ap (λ b. cond b (slice_index (spliced ns start end table proposal) (first_weight ns J + a)) 1) d)
        ∙ (splice_law ns start end table proposal f).1 (record { set = J; action = a }) la out ∙ ap (λ b. cond b (slice_index table (first_weight ns J + a)) 1) d)
        ∙ whole J l d

    inside : start ≤ J → J < end → sum_below (slice_index ns J) (λ a. slice_index (spliced ns start end table proposal) (first_weight ns J + a)) ≡ grid
    inside ge k =
        let same = set_inside ns start end J ge k in
        let there : J - start < length (slice_range ns start end) = omega (arith, length-take (end - start) (drop start ns), length-drop start ns, f.within, ge, k) in
        let place = weight_inside ns start end J ge k in
        sum_below_cong (slice_index ns J) _ (λ a. slice_index proposal (first_weight (slice_range ns start end) (J - start) + a)) (λ a la.
        (splice_law ns start end table proposal f).2 J a ge k d la ∙ ap (λ i. slice_index proposal (i + a)) (sym place))
        ∙ ap (λ m. sum_below m (λ a. slice_index proposal (first_weight (slice_range ns start end) (J - start) + a))) (sym same)
        ∙ part (J - start) there (ap (nat_le 2) same ∙ d)

    by : (b : Bool) → (nat_le start J && nat_lt J end) ≡ b → sum_below (slice_index ns J) (λ a. slice_index (spliced ns start end table proposal) (first_weight ns J + a)) ≡ grid
    by true e = let p = and_parts (nat_le start J) (nat_lt J end) e in inside (leb-true start J p.0) (ltb-true J end p.1)
    by false e = outside (not_inside start end J e)
