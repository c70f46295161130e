-- Searches through numbers that follow one another, with others behind them.
use Rattle.std.proofs.Common.{◌≡◌, ℕ, zero, suc, ◌+◌, ◌<◌, ◌≤◌, nat_lt, true, false, nat_eq, List, [], ◌∷◌, ◌++◌, length, Some, None, position, refl, sym, ap, ◌∙◌, append-nil, arith, inl, inr}
use Rattle.std.specs.Prelude.{◌==◌}
use Rattle.std.specs.List.{list_any, position_from, range_with_len}
use Rattle.std.proofs.lemmas.Bool.{cases_Bool, ne_eqb, ltb-false, ltb-true, eq-eqb}
use Rattle.std.proofs.lemmas.List.FromFn.{length-range_with_len}
use Rattle.std.proofs.lemmas.Iterator.Adapters.{position_from-zero}

-- a number is no later one
eqb_later : (k a : ℕ) → a < k → (k == a) ≡ false
eqb_later k a lt = ne_eqb k a (λ same. absurd (omega (arith, lt, same)))

any_in : (a n k : ℕ) (xs : List ℕ) → a ≤ k → k < a + n → list_any (nat_eq k) (range_with_len a n ++ xs) ≡ true
any_in a zero k xs le lt = absurd (omega (arith, le, lt))
any_in a (suc n) k xs le lt = elim (cases_Bool (nat_lt a k)) [
  | inl t ↦ (let more : a < k = ltb-true a k t in rw (eqb_later k a more) (any_in (a + 1) n k xs (omega (arith, more)) (omega (arith, lt))))
  | inr f ↦ (let least : k ≤ a = ltb-false a k f in let here : (k == a) ≡ true = eq-eqb k a (omega (arith, le, least)) in rw here refl)
]

any_past : (a n k : ℕ) (xs : List ℕ) → a + n ≤ k → list_any (nat_eq k) (range_with_len a n ++ xs) ≡ list_any (nat_eq k) xs
any_past a zero k xs le = refl
any_past a (suc n) k xs le = rw (eqb_later k a (omega (arith, le))) (any_past (a + 1) n k xs (omega (arith, le)))

position_in : (a n k : ℕ) → a ≤ k → k < a + n → position_from (nat_eq k) a (range_with_len a n) ≡ Some k
position_in a zero k le lt = absurd (omega (arith, le, lt))
position_in a (suc n) k le lt = elim (cases_Bool (nat_lt a k)) [
  | inl t ↦ (let more : a < k = ltb-true a k t in rw (eqb_later k a more) (position_in (a + 1) n k (omega (arith, more)) (omega (arith, lt))))
  | inr f ↦ (let least : k ≤ a = ltb-false a k f in let here : (k == a) ≡ true = eq-eqb k a (omega (arith, le, least)) in let same : a ≡ k = omega (arith, le, least) in rw here (ap Some same))
]

position_past : (a i n k : ℕ) → a + n ≤ k → position_from (nat_eq k) i (range_with_len a n) ≡ None
position_past a i zero k le = refl
position_past a i (suc n) k le = rw (eqb_later k a (omega (arith, le))) (position_past (a + 1) (i + 1) n k (omega (arith, le)))

range_last : (a n j : ℕ) → a + n ≡ j → range_with_len a (suc n) ≡ range_with_len a n ++ j ∷ []
range_last a zero j e = let same : a ≡ j = omega (arith, e) in ap (λ (k : ℕ). k ∷ []) same
range_last a (suc n) j e = ap (λ (l : List ℕ). a ∷ l) (range_last (a + 1) n j (omega (arith, e)))

-- a number below the count is there
pub run_has : (n k : ℕ) (xs : List ℕ) → k < n → list_any (nat_eq k) (range_with_len 0 n ++ xs) ≡ true
run_has n k xs lt = any_in 0 n k xs (omega arith) (omega (arith, lt))

-- another is there where it is among the others
pub run_past : (n k : ℕ) (xs : List ℕ) → n ≤ k → list_any (nat_eq k) (range_with_len 0 n ++ xs) ≡ list_any (nat_eq k) xs
run_past n k xs le = any_past 0 n k xs (omega (arith, le))

-- a number below the count stands at the place that it counts
pub run_place : (n k : ℕ) → k < n → position (nat_eq k) (range_with_len 0 n) ≡ Some k
run_place n k lt = position_from-zero (nat_eq k) (range_with_len 0 n) ∙ position_in 0 n k (omega arith) (omega (arith, lt))

-- another stands nowhere there
pub run_nowhere : (n k : ℕ) → n ≤ k → position (nat_eq k) (range_with_len 0 n) ≡ None
run_nowhere n k le = position_from-zero (nat_eq k) (range_with_len 0 n) ∙ position_past 0 0 n k (omega (arith, le))

-- the next number, where there are no others
pub run_more : (n k : ℕ) (xs : List ℕ) → k ≡ n → xs ≡ [] → range_with_len 0 (n + 1) ++ xs ≡ (range_with_len 0 n ++ xs) ++ k ∷ []
run_more n k xs same none =
    let next : n + 1 ≡ suc n = omega arith in
    ap (λ (ys : List ℕ). range_with_len 0 (n + 1) ++ ys) none ∙ append-nil (range_with_len 0 (n + 1)) ∙ ap (range_with_len 0) next ∙ range_last 0 n k (omega (arith, same))
    ∙ sym (ap (λ (ys : List ℕ). ys ++ k ∷ []) (ap (λ (ys : List ℕ). range_with_len 0 n ++ ys) none ∙ append-nil (range_with_len 0 n)))

-- where there are no others, the numbers are as many as are counted
pub run_alone : (n : ℕ) (xs : List ℕ) → xs ≡ [] → range_with_len 0 n ++ xs ≡ range_with_len 0 (length (range_with_len 0 n ++ xs))
run_alone n xs none =
    let all : range_with_len 0 n ++ xs ≡ range_with_len 0 n = ap (λ (ys : List ℕ). range_with_len 0 n ++ ys) none ∙ append-nil (range_with_len 0 n) in
    all ∙ ap (range_with_len 0) (sym (length-range_with_len 0 n)) ∙ ap (λ (ys : List ℕ). range_with_len 0 (length ys)) (sym all)
