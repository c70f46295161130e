-- Allowances by reach: each is a part of a pool, and the parts of a pool sum to it.
use Rattle.std.proofs.Common.{◌≡◌, ℕ, zero, suc, ◌+◌, ◌*◌, ◌/◌, ◌%◌, ◌<◌, ◌≤◌, ℤ, pos, ◌+ℤ◌, ◌-ℤ◌, List, [], ◌∷◌, Bool, true, false, cond, eqb, ltb, min, Option, Some, None, length, refl, sym, ap, ◌∙◌, subst, arith, zero-add, inl, inr, filter, lt-ltb, le-ltb, eqb-true, mod-lt}
use Rattle.std.specs.Prelude.{nat_lt}
use Rattle.std.specs.List.{range_with_len}
use Rattle.std.proofs.lemmas.Bool.{cases_lt, and_parts}
use Rattle.lab_math.specs.Sums.{sum_over}
use Rattle.lab_math.specs.Below.{sum_below}
use Rattle.lab_defs_game.specs.Keys.{count}
use Rattle.lab_defs_game.specs.Sets.{sets}
use Rattle.lab_defs_game.specs.Paths.{SetAction, is_taken}
use Rattle.lab_defs_game.specs.Forms.{parent_of}
use Rattle.lab_defs_game.proofs.SetNumbers.{path_sets_are}
use Rattle.lab_defs_value.specs.Rounding.{share_size, even_part}
use Rattle.lab_defs_value.specs.Bounds.{through}
use Rattle.lab_defs_value.specs.Parents.{IsStepBelow}
use Rattle.lab_defs_value.specs.Replies.{Strategy, opponent, reply_sets}
use Rattle.lab_defs_game.specs.Nodes.{begins, public_of}
use Rattle.lab_defs_value.specs.Allowances.{reach, pool, shared, reach_within, allowance, Ascends, path_followers}
use Rattle.lab_defs_value.specs.Laws.{Sound, ReachLaw, PoolLaw, EvenPartLaw, PathOrderLaw}

-- ---- the parts of a pool

-- one more place has a unit of what remains, or none
more_min : (k r : ℕ) → min (suc k) r ≡ min k r + cond (ltb k r) 1 0
more_min k r = elim (cases_lt k r) [
  | inl l ↦ let e : cond (ltb k r) 1 0 ≡ suc zero = ap (λ b. cond b (suc zero) zero) (lt-ltb k r l) in omega arith
  | inr g ↦ let e : cond (ltb k r) 1 0 ≡ zero = ap (λ b. cond b (suc zero) zero) (le-ltb k r g) in omega arith
]

-- the first k parts
parts_below : (g m k : ℕ) → sum_below k (even_part g m) ≡ k * (g / m) + min k (g % m)
parts_below g m zero = omega arith
parts_below g m (suc k) = omega (arith, parts_below g m k, more_min k (g % m))

-- all parts are the pool
pub parts_sum : (g m : ℕ) → 0 < m → sum_below m (even_part g m) ≡ g
parts_sum g m p = omega (arith, parts_below g m m, mod-lt g p)

-- the units of what remains: one at most at each place, none after a place without one
units_fall : (k r : ℕ) → (cond (ltb (k + 1) r) (suc zero) zero ≤ cond (ltb k r) (suc zero) zero) × (cond (ltb k r) (suc zero) zero ≤ suc zero)
units_fall k r = elim (cases_lt k r) [
  | inl l ↦ let e : cond (ltb k r) (suc zero) zero ≡ suc zero = ap (λ b. cond b (suc zero) zero) (lt-ltb k r l) in (omega (arith, e, at_most (ltb (k + 1) r)), omega (arith, e))
  | inr g ↦
      let e : cond (ltb (k + 1) r) (suc zero) zero ≡ zero = ap (λ b. cond b (suc zero) zero) (le-ltb (k + 1) r (omega (arith, g))) in
      (omega (arith, e), at_most (ltb k r))
]
  where
    at_most : (b : Bool) → cond b (suc zero) zero ≤ suc zero
    at_most true = omega arith
    at_most false = omega arith

-- the law of even parts
pub even_part_law : EvenPartLaw
even_part_law number m some = (
  λ place. let u = units_fall place (number % m) in (omega (arith, u.0), omega (arith, u.1)),
  parts_sum number m some,
)

-- ---- sums by rank

-- a sum over a range has its last number's term last
range_push : (a n : ℕ) (h : ℕ → ℕ) → sum_over h (range_with_len a (suc n)) ≡ sum_over h (range_with_len a n) + h (a + n)
range_push a zero h = let e : h a ≡ h (a + 0) = ap h (omega arith) in omega (arith, e)
range_push a (suc n) h =
    let e : h (a + 1 + n) ≡ h (a + suc n) = ap h (omega arith) in
    omega (arith, e, range_push (a + 1) n h)

-- a sum over a range from 0 on is a sum below its end
pub range_sum : (n : ℕ) (h : ℕ → ℕ) → sum_over h (range_with_len 0 n) ≡ sum_below n h
range_sum zero h = refl
range_sum (suc n) h = range_push 0 n h ∙ ap (λ t. t + h (0 + n)) (range_sum n h) ∙ ap (λ k. sum_below n h + h k) (omega arith)

-- how many numbers of a list are below x
abbrev rank : List ℕ → ℕ → ℕ
rank xs x = count (λ y. nat_lt y x) xs

-- none is below a number that all are at least
none_below : (low n x : ℕ) (xs : List ℕ) → Ascends low n xs → x ≤ low → rank xs x ≡ 0
none_below low n x [] h le = refl
none_below low n x (y ∷ ys) h le =
    ap (λ b. cond b 1 0 + rank ys x) (le-ltb y x (omega (arith, h.0, le))) ∙ omega (arith, none_below (suc y) n x ys h.2 (omega (arith, h.0, le)))

-- a sum over a list in order, where only the rank counts and numbers below y are passed on
sum_push : (h g : ℕ → ℕ) (low n : ℕ) (xs : List ℕ) → Ascends low n xs → ((x : ℕ) → low ≤ x → h x ≡ g x) → sum_over h xs ≡ sum_over g xs
sum_push h g low n [] a e = refl
sum_push h g low n (y ∷ ys) a e =
    ap (λ t. t + sum_over h ys) (e y a.0) ∙ ap (λ t. g y + t) (sum_push h g (suc y) n ys a.2 (λ x le. e x (omega (arith, a.0, le))))

-- a sum over a list in order, by rank, is a sum over the places
sum_by_rank : (h : ℕ → ℕ) (d low n : ℕ) (xs : List ℕ) → Ascends low n xs → sum_over (λ x. h (d + rank xs x)) xs ≡ sum_over h (range_with_len d (length xs))
sum_by_rank h d low n [] a = refl
sum_by_rank h d low n (y ∷ ys) a =
    let first : h (d + rank (y ∷ ys) y) ≡ h d = ap h (ap (λ t. d + t) (none_below y n y (y ∷ ys) (omega arith, a.1, a.2) (omega arith)) ∙ omega arith) in
    let rest = sum_push (λ x. h (d + rank (y ∷ ys) x)) (λ x. h (d + 1 + rank ys x)) (suc y) n ys a.2
    (λ x le. ap h (ap (λ b. d + (cond b 1 0 + rank ys x)) (lt-ltb y x (omega (arith, le))) ∙ omega arith)) in
    ap (λ t. t + sum_over (λ x. h (d + rank (y ∷ ys) x)) ys) first
    ∙ ap (λ t. h d + t) (rest ∙ sum_by_rank h (d + 1) (suc y) n ys a.2)

-- ---- lists in order

-- a lower beginning will do
ascends_from : (low low' n : ℕ) (xs : List ℕ) → low' ≤ low → Ascends low n xs → Ascends low' n xs
ascends_from low low' n [] le h = tt
ascends_from low low' n (x ∷ xs) le h = (omega (arith, le, h.0), h.1, h.2)

-- what passes a test is in order too
pub ascends_filter : (p : ℕ → Bool) (low n : ℕ) (xs : List ℕ) → Ascends low n xs → Ascends low n (filter p xs)
ascends_filter p low n [] h = tt
ascends_filter p low n (x ∷ xs) h = at (p x) (ascends_filter p (suc x) n xs h.2)
  where
    at : (b : Bool) → Ascends (suc x) n (filter p xs) → Ascends low n (cond b (x ∷ filter p xs) (filter p xs))
    at true rest = (h.0, h.1, rest)
    at false rest = ascends_from (suc x) low n (filter p xs) (omega (arith, h.0)) rest

-- a range is in order
pub ascends_range : (s n : ℕ) → Ascends s (s + n) (range_with_len s n)
ascends_range s zero = tt
ascends_range s (suc n) =
    let long : s + 1 + n ≡ s + suc n = omega arith in
    let next : s + 1 ≡ suc s = omega arith in
    (omega arith, omega arith, subst (λ k. Ascends k (s + suc n) (range_with_len (s + 1) n)) next (subst (λ k. Ascends (s + 1) k (range_with_len (s + 1) n)) long (ascends_range (s + 1) n)))

-- the sets on a public path are in order
pub path_law : PathOrderLaw
path_law g seat node =
    subst (Ascends 0 (length (sets g seat))) (sym (path_sets_are g seat node))
    (ascends_filter (λ I. begins (public_of g seat I) node) 0 (length (sets g seat)) (range_with_len 0 (length (sets g seat)))
    (subst (λ k. Ascends 0 k (range_with_len 0 (length (sets g seat)))) (zero-add (length (sets g seat))) (ascends_range 0 (length (sets g seat)))))

-- ---- the allowances

-- a part looks at the allowances of earlier sets alone
shared_cong : (s : Strategy) (B : ℕ → ℤ) (path : List ℕ) (above above' : ℕ → ℕ) (I : ℕ) (o : Option SetAction) → IsStepBelow (reply_sets s) I o → ((J : ℕ) → J < I → above J ≡ above' J)
    → shared s B path above I o ≡ shared s B path above' I o
shared_cong s B path above above' I None h same = refl
shared_cong s B path above above' I (Some t) h same =
    let family = path_followers s path t.set t.action in
    ap (λ x. even_part x (length family) (rank family I)) (pool_cong (same t.set h.0))
  where
    pool_cong : above t.set ≡ above' t.set → pool s B above t.set t.action ≡ pool s B above' t.set t.action
    pool_cong e = ap (λ x. share_size (pos x +ℤ (B t.set -ℤ through s B t.set t.action))) e

-- more room than there are sets above changes nothing
room : (s : Strategy) → Sound s → (B : ℕ → ℤ) (path : List ℕ) (k l I : ℕ) → I < k → I < l → I < length (reply_sets s) → reach_within s B path k I ≡ reach_within s B path l I
room s ok B path zero l I p q r = absurd (omega (arith, p))
room s ok B path (suc k) zero I p q r = absurd (omega (arith, q))
room s ok B path (suc k) (suc l) I p q r =
    shared_cong s B path (reach_within s B path k) (reach_within s B path l) I (parent_of s.form (opponent s) I) (ok.parents I r) (λ J lt. room s ok B path k l J (omega (arith, lt, p)) (omega (arith, lt, q)) (omega (arith, lt, r)))

-- each set has its part of the pool of the step that it follows
pub reach_law : ReachLaw
reach_law s ok B path I l = at (length (reply_sets s)) refl
  where
    at : (k : ℕ) → length (reply_sets s) ≡ k → reach_within s B path k I ≡ shared s B path (allowance reach s B path) I (parent_of s.form (opponent s) I)
    at zero e = absurd (omega (arith, e, l))
    at (suc k) e =
        shared_cong s B path (reach_within s B path k) (allowance reach s B path) I (parent_of s.form (opponent s) I) (ok.parents I l)
        (λ J lt. room s ok B path k (length (reply_sets s)) J (omega (arith, lt, l, e)) (omega (arith, lt, l)) (omega (arith, lt, l)))

-- a step that is the action a at J
pub step_is : (J a : ℕ) (o : Option SetAction) → is_taken (record { set = J; action = a }) o ≡ true → (t : SetAction) × (o ≡ Some t) × (t.set ≡ J) × (t.action ≡ a)
step_is J a None e = absurd (never e)
  where
    never : false ≡ true → ⊥
    never e = cc
step_is J a (Some t) e = let h = and_parts (eqb t.set J) (eqb t.action a) e in (t, refl, eqb-true t.set J h.0, eqb-true t.action a h.1)

-- the allowance of a set that follows J by a
allowance_at : (s : Strategy) → Sound s → (B : ℕ → ℤ) (path : List ℕ) (J a I : ℕ) → I < length (reply_sets s) → is_taken (record { set = J; action = a }) (parent_of s.form (opponent s) I) ≡ true
    → allowance reach s B path I ≡ even_part (pool s B (allowance reach s B path) J a) (length (path_followers s path J a)) (rank (path_followers s path J a) I)
allowance_at s ok B path J a I l e =
    let f = step_is J a (parent_of s.form (opponent s) I) e in
    let t = f.0 in
    reach_law s ok B path I l
    ∙ ap (shared s B path (allowance reach s B path) I) f.1
    ∙ ap (λ K. even_part (pool s B (allowance reach s B path) K t.action) (length (path_followers s path K t.action)) (rank (path_followers s path K t.action) I)) f.2
    ∙ ap (λ b. even_part (pool s B (allowance reach s B path) J b) (length (path_followers s path J b)) (rank (path_followers s path J b) I)) f.3

-- a sum over what passes a test, where the terms are known there
sum_filter : (p : ℕ → Bool) (h g : ℕ → ℕ) (low n : ℕ) (xs : List ℕ) → Ascends low n xs → ((x : ℕ) → x < n → p x ≡ true → h x ≡ g x) → sum_over h (filter p xs) ≡ sum_over g (filter p xs)
sum_filter p h g low n [] a e = refl
sum_filter p h g low n (x ∷ xs) a e = at (p x) (λ k. e x a.1 k) (sum_filter p h g (suc x) n xs a.2 e)
  where
    at : (b : Bool) → (b ≡ true → h x ≡ g x) → sum_over h (filter p xs) ≡ sum_over g (filter p xs) → sum_over h (cond b (x ∷ filter p xs) (filter p xs)) ≡ sum_over g (cond b (x ∷ filter p xs) (filter p xs))
    at true one rest = ap (λ t. t + sum_over h (filter p xs)) (one refl) ∙ ap (λ t. g x + t) rest
    at false one rest = rest

-- the parts of a pool sum to it
pub pool_law : PoolLaw
pool_law s ok B path asc J a some =
    let n = length (reply_sets s) in
    let test = λ (I : ℕ). is_taken (record { set = J; action = a }) (parent_of s.form (opponent s) I) in
    let family = path_followers s path J a in
    let whole = pool s B (allowance reach s B path) J a in
    let m = length family in
    let part = even_part whole m in
    let none : (x : ℕ) → part (rank family x) ≡ part (0 + rank family x) = λ x. ap part (omega arith) in
    sum_filter test (allowance reach s B path) (λ x. part (0 + rank family x)) 0 n path asc (λ x l e. allowance_at s ok B path J a x l e ∙ none x)
    ∙ sum_by_rank part 0 0 n family (ascends_filter test 0 n path asc)
    ∙ range_sum m part ∙ parts_sum whole m some
