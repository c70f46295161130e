-- Chances are at most the scale, which is not 0.
use Rattle.std.proofs.Common.{◌≡◌, ℕ, zero, suc, ◌+◌, ◌*◌, ◌-◌, ◌/◌, ◌<◌, ◌≤◌, List, [], ◌∷◌, Bool, true, false, ◌&&◌, get_or, length, flat_map, filter, refl, sym, subst, arith, inl, inr, mul-le-mul, le_of_eq}
use Rattle.std.specs.Prelude.{nat_le, nat_lt, ◌==◌}
use Rattle.std.specs.List.{list_all}
use Rattle.std.proofs.Math.Nat.{mul-div-le}
use Rattle.std.proofs.lemmas.Bool.{and_parts, both_ways, leb-true, eqb-true, eq-eqb}
use Rattle.lab_math.specs.Divisors.{gcd, lcm_of}
use Rattle.lab_math.proofs.DivisorLemmas.{gcd_is, quotient_pos}
use Rattle.lab_math.proofs.Members.{In, in_filter, in_from_filter, in_from_map, in_flat_map, in_from_flat_map, contains_from_in, in_from_contains}
use Rattle.lab_math.proofs.Multiples.{divides_lcm_of, lcm_of_divides}
use Rattle.lab_defs_text.specs.Games.{GameModel, Place, a_world, an_end, Outcome}
use Rattle.lab_defs_text.specs.Texts.{game_ok, place_at, place_ok, row_ok, outcome_ok}
use Rattle.lab_defs_text.proofs.GameLemmas.{world_fine}
use Rattle.lab_defs_game.specs.Histories.{History, row_of, outcome_of, place_of, reached, inner_histories}
use Rattle.lab_defs_game.specs.Chance.{row_total, totals_at, chance_unit, units_from, chance_from, chance, scale}
use Rattle.lab_defs_game.specs.Laws.{UnitLaw}
use Rattle.lab_defs_game.proofs.RecallLemmas.{inner_world}
use Rattle.lab_defs_game.proofs.FormLemmas.{world_ok}

-- ---- chances

-- an item's number is at most the sum
weight_le : (os : List Outcome) (k : ℕ) (d : Outcome) → d.weight ≡ 0 → (get_or os k d).weight ≤ row_total os
weight_le [] k d e = omega (arith, e)
weight_le (o ∷ os) zero d e = omega arith
weight_le (o ∷ os) (suc k) d e = let r = weight_le os k d e in omega (arith, r)

-- the chances of steps from a place on are at most the units
chance_from_le : (g : GameModel) (t n : ℕ) (h : History) → t + length h ≤ g.horizon → chance_from g t n h ≤ units_from g t (g.horizon - t)
chance_from_le g t n [] le = le_of_eq refl
chance_from_le g t n (s ∷ h) le =
    let row = row_of (place_at g n) s.action1 s.action2 in
    let q = chance_unit g t / row_total row in
    let w : (outcome_of g n s).weight ≤ row_total row = weight_le row s.outcome (record { weight = 0; next = 0; own1 = 0; own2 = 0; public = 0 }) refl in
    let here : (outcome_of g n s).weight * q ≤ row_total row * q = mul-le-mul w (le_of_eq refl) in
    let unit : row_total row * q ≤ chance_unit g t = mul-div-le (chance_unit g t) (row_total row) in
    let rest = chance_from_le g (t + 1) (outcome_of g n s).next h (omega (arith, le)) in
    let left : g.horizon - t ≡ suc (g.horizon - (t + 1)) = omega (arith, le) in
    subst (λ k. chance_from g t n (s ∷ h) ≤ units_from g t k) (sym left) (mul-le-mul (omega (arith, here, unit)) rest)

-- the chance of a history is at most the scale
pub chance_le : (g : GameModel) (h : History) → length h ≤ g.horizon → chance g h ≤ scale g
chance_le g h le =
    let whole : g.horizon - 0 ≡ g.horizon = omega arith in
    subst (λ k. chance g h ≤ units_from g 0 k) whole (chance_from_le g 0 g.root h (omega (arith, le)))

-- ---- the scale

-- a product of numbers above 0
some_product : (a b : ℕ) → 0 < a → 0 < b → 0 < a * b
some_product a b p q = let r : 1 * 1 ≤ a * b = mul-le-mul p q in omega (arith, r)

-- the least common multiple of numbers above 0 is one
some_multiple : (ns : List ℕ) → ((n : ℕ) → In n ns → 0 < n) → 0 < lcm_of ns
some_multiple [] all = omega arith
some_multiple (n ∷ ns) all =
    let rest = some_multiple ns (λ k i. all k (inr i)) in
    some_product (n / gcd n (lcm_of ns)) (lcm_of ns) (quotient_pos n (gcd n (lcm_of ns)) (all n (inl refl)) (gcd_is n (lcm_of ns)).0) rest

-- the outcomes of a row that passes have a weight
some_total : (g : GameModel) (os : List Outcome) → row_ok g os ≡ true → 0 < row_total os
some_total g [] e = absurd (both_ways false refl e)
some_total g (o ∷ os) e =
    let a = and_parts (nat_lt 0 (length (o ∷ os))) (list_all (outcome_ok g) (o ∷ os)) e in
    let b = and_parts (outcome_ok g o) (list_all (outcome_ok g) os) a.1 in
    let c = and_parts (nat_le 1 o.weight && nat_le o.weight 1048576) _ b.0 in
    let w = leb-true 1 o.weight (and_parts (nat_le 1 o.weight) (nat_le o.weight 1048576) c.0).0 in
    omega (arith, w)

-- what holds of all by a test holds of each
pub tested : {X : Type 0} (p : X → Bool) (xs : List X) (x : X) → list_all p xs ≡ true → In x xs → p x ≡ true
tested p [] x e i = absurd i
tested p (y ∷ xs) x e (inl q) = subst (λ z. p z ≡ true) q (and_parts (p y) (list_all p xs) e).0
tested p (y ∷ xs) x e (inr i) = tested p xs x (and_parts (p y) (list_all p xs) e).1 i

-- the totals of a place that passes are above 0
totals_some : (g : GameModel) (p : Place) → place_ok g p ≡ true → (n : ℕ) → In n (totals_at p) → 0 < n
totals_some g (an_end z) ok n i = absurd i
totals_some g (a_world w) ok n i =
    let r = in_from_map row_total w.rows n i in
    subst (λ k. 0 < k) r.2 (some_total g r.0 (tested (row_ok g) w.rows r.0 (world_fine g w ok).rows r.1))

-- the unit of a step is above 0
some_unit : (g : GameModel) → game_ok g ≡ true → (t : ℕ) → 0 < chance_unit g t
some_unit g ok t =
    let hs = filter (λ h. length h == t) (inner_histories g) in
    some_multiple (flat_map (λ h. totals_at (place_of g h)) hs) (λ n i.
    let r = in_from_flat_map (λ h. totals_at (place_of g h)) hs n i in
    let inner = (in_from_filter (λ h. length h == t) (inner_histories g) r.0 r.1).0 in
    totals_some g (place_of g r.0) (world_ok g (reached g g.root r.0) ok (inner_world g r.0 inner).1) n r.2)

-- so is the scale
pub some_scale : (g : GameModel) → game_ok g ≡ true → 0 < scale g
some_scale g ok = from 0 g.horizon
  where
    from : (t n : ℕ) → 0 < units_from g t n
    from t zero = omega arith
    from t (suc n) = some_product (chance_unit g t) (units_from g (t + 1) n) (some_unit g ok t) (from (t + 1) n)

-- ---- units

-- the law of units
pub unit_law : UnitLaw
unit_law g t = (
  λ h n c len d.
      let i = in_filter (λ h. length h == t) (inner_histories g) h (in_from_contains (inner_histories g) h c) (eq-eqb (length h) t len) in
      divides_lcm_of (flat_map (λ h. totals_at (place_of g h)) (filter (λ h. length h == t) (inner_histories g))) n
      (in_flat_map (λ h. totals_at (place_of g h)) (filter (λ h. length h == t) (inner_histories g)) h n i (in_from_contains (totals_at (place_of g h)) n d)),
  λ m all.
      lcm_of_divides (flat_map (λ h. totals_at (place_of g h)) (filter (λ h. length h == t) (inner_histories g))) m (λ n i.
      let r = in_from_flat_map (λ h. totals_at (place_of g h)) (filter (λ h. length h == t) (inner_histories g)) n i in
      let k = in_from_filter (λ h. length h == t) (inner_histories g) r.0 r.1 in
      all r.0 n (contains_from_in (inner_histories g) r.0 k.0) (eqb-true (length r.0) t k.1) (contains_from_in (totals_at (place_of g r.0)) n r.2)),
)
