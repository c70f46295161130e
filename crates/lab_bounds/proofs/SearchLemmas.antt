-- The search for the first number above a bound.
use Rattle.std.proofs.Common.{◌≡◌, ℕ, ◌+◌, ◌-◌, ◌<◌, ◌≤◌, ℤ, pos, ◌-ℤ◌, ◌≤ℤ◌, ◌⊎◌, List, length, map, get_or, sym, ap, ◌∙◌, subst, arith, inl, inr}
use Rattle.std.specs.Prelude.{slice_index}
use Rattle.std.specs.List.{range_with_len}
use Rattle.std.proofs.lemmas.Bool.{cases_lt}
use Rattle.std.proofs.lemmas.Int.{ints}
use Rattle.std.proofs.lemmas.List.FromFn.{length-map-range_with_len, get_or-map-range_with_len}
use Rattle.std.proofs.lemmas.List.{length-map, get_or-map}
use Rattle.lab_units.specs.declared.worth.Worth.{Worth}
use Rattle.lab_best.specs.Values.{numbers}
use Rattle.lab_defs_value.specs.Replies.{Strategy, reply_sets}
use Rattle.lab_defs_value.specs.Bounds.{at, through, Holds}
use Rattle.lab_bounds.specs.declared.broken.Broken.{Broken}
use Rattle.lab_bounds.specs.Tables.{IsBelow, IsFirstAbove, IsFirstBroken}

-- ---- numbers

-- a number of a range, as it stands in the list
range_at : (h : ℕ → ℤ) (from n k : ℕ) (zs : List ℤ) → zs ≡ map h (range_with_len from n) → from ≤ k → k < from + n → at zs (k - from) ≡ h k
range_at h from n k zs e ge l =
    ap (λ ys. at ys (k - from)) e ∙ get_or-map-range_with_len h from n (k - from) k (pos 0) (omega (arith, ge, l)) (omega (arith, ge))

-- there are as many worths as numbers of the range
pub range_long : (h : ℕ → ℤ) (from n m : ℕ) (worths : List Worth) → numbers worths ≡ map h (range_with_len from n) → length worths ≡ m → numbers worths ≡ map h (range_with_len from m)
range_long h from n m worths e long =
    let same : n ≡ m = sym (length-map-range_with_len h from n) ∙ ap length (sym e) ∙ length-map worths (λ (w : Worth). w.0) ∙ long in
    subst (λ k. numbers worths ≡ map h (range_with_len from k)) same e

-- what none of the first ones in the list passes, none of the first of the range does
pub below_range : (h : ℕ → ℤ) (bound : ℤ) (from n m : ℕ) (zs : List ℤ) → zs ≡ map h (range_with_len from n) → m ≤ n → IsBelow (at zs) bound 0 m → IsBelow h bound from (from + m)
below_range h bound from n m zs e le below k ge l =
    subst (λ z. z ≤ℤ bound) (range_at h from n k zs e ge (omega (arith, l, le))) (below (k - from) (omega arith) (omega (arith, ge, l)))

-- the first one of a range that passes the bound, by that in the list
pub first_range : (h : ℕ → ℤ) (bound : ℤ) (from n place : ℕ) (over : ℤ) (zs : List ℤ) → zs ≡ map h (range_with_len from n) → IsFirstAbove (at zs) bound 0 n place over
    → IsFirstAbove h bound from (from + n) (from + place) over
first_range h bound from n place over zs e first =
    let same : from + place - from ≡ place = omega arith in
    let here = range_at h from n (from + place) zs e (omega arith) (omega (arith, first.there)) in
    record {
      after = omega arith;
      there = omega (arith, first.there);
      excess = first.excess ∙ ap (λ z. z -ℤ bound) (sym (ap (at zs) same) ∙ here);
      above = first.above;
      before = below_range h bound from n place zs e (omega (arith, first.there)) first.before;
    }

-- none up to a number, and none from it on
pub below_join : (h : ℕ → ℤ) (bound : ℤ) (from mid to : ℕ) → IsBelow h bound from mid → IsBelow h bound mid to → IsBelow h bound from to
below_join h bound from mid to low high k ge l = elim (cases_lt k mid) [ inl less ↦ low k ge less | inr more ↦ high k more l ]

-- the first one is so too where more are looked at
pub first_wider : (h : ℕ → ℤ) (bound : ℤ) (from mid to n place : ℕ) (over : ℤ) → from ≤ mid → to ≤ n → IsBelow h bound from mid → IsFirstAbove h bound mid to place over
    → IsFirstAbove h bound from n place over
first_wider h bound from mid to n place over le wide low first = record {
  after = omega (arith, le, first.after);
  there = omega (arith, first.there, wide);
  excess = first.excess;
  above = first.above;
  before = below_join h bound from mid place low first.before;
}

-- none up to a number, nor there
pub below_more : (h : ℕ → ℤ) (bound : ℤ) (from n : ℕ) → IsBelow h bound from n → h n ≤ℤ bound → IsBelow h bound from (n + 1)
below_more h bound from n below here k ge l = elim (cases_lt k n) [
  | inl less ↦ below k ge less
  | inr more ↦ let same : n ≡ k = omega (arith, l, more) in subst (λ m. h m ≤ℤ bound) same here
]

-- a worth as a number
pub number_at : (worths : List Worth) (i : ℕ) (d : Worth) → i < length worths → at (numbers worths) i ≡ (get_or worths i d).0
number_at worths i d l = get_or-map (λ (w : Worth). w.0) worths i d (pos 0) l

-- ---- bounds

-- the bounds hold at the sets before a number
abbrev pub HoldsBefore : Strategy → (ℕ → ℤ) → ℕ → Type 0
HoldsBefore s B n = (J a : ℕ) → J < n → a < slice_index (reply_sets s) J → through s B J a ≤ℤ B J

-- and at one set more
pub holds_more : (s : Strategy) (B : ℕ → ℤ) (n : ℕ) → HoldsBefore s B n → IsBelow (through s B n) (B n) 0 (slice_index (reply_sets s) n) → HoldsBefore s B (n + 1)
holds_more s B n before here J a l la = elim (cases_lt J n) [
  | inl less ↦ before J a less la
  | inr more ↦
      let same : n ≡ J = omega (arith, l, more) in
      subst (λ K. IsBelow (through s B K) (B K) 0 (slice_index (reply_sets s) K)) same here a (omega arith) la
]

-- the first action of a set that is broken, where the sets before it hold, is the first of all
pub first_at : (s : Strategy) (B : ℕ → ℤ) (set action : ℕ) (over : ℤ) → set < length (reply_sets s) → HoldsBefore s B set
    → IsFirstAbove (through s B set) (B set) 0 (slice_index (reply_sets s) set) action over → IsFirstBroken s B set action over
first_at s B set action over there before first = record {
  set_there = there;
  action_there = first.there;
  excess = first.excess;
  broken = first.above;
  earlier = λ J a l la e. elim e [
    | inl less ↦ before J a less la
    | inr same ↦ subst (λ K. through s B K a ≤ℤ B K) (sym same.0) (first.before a (omega arith) same.1)
  ];
}

-- where the bounds hold, none is broken
pub none_broken : (s : Strategy) (B : ℕ → ℤ) (set action : ℕ) (over : ℤ) → Holds s B → IsFirstBroken s B set action over → ⊥
none_broken s B set action over holds first =
    let le = holds set action first.set_there first.action_there in
    omega (arith, ints, first.excess, first.broken)

-- of two that are first, neither is earlier
not_earlier : (s : Strategy) (B : ℕ → ℤ) (J a set action : ℕ) (more over : ℤ) → IsFirstBroken s B J a more → IsFirstBroken s B set action over → ((J < set) ⊎ ((J ≡ set) × (a < action))) → ⊥
not_earlier s B J a set action more over one other e =
    let le = other.earlier J a one.set_there one.action_there e in
    omega (arith, ints, one.excess, one.broken)

-- there is one first only
pub one_first : (s : Strategy) (B : ℕ → ℤ) (b c : Broken) → IsFirstBroken s B b.set.0 b.action b.over.0 → IsFirstBroken s B c.set.0 c.action c.over.0 → b ≡ c
one_first s B b c one other =
    let set : b.set.0 ≡ c.set.0 = same b.set.0 c.set.0 (λ l. not_earlier s B b.set.0 b.action c.set.0 c.action b.over.0 c.over.0 one other (inl l))
    (λ l. not_earlier s B c.set.0 c.action b.set.0 b.action c.over.0 b.over.0 other one (inl l)) in
    let action : b.action ≡ c.action = same b.action c.action (λ l. not_earlier s B b.set.0 b.action c.set.0 c.action b.over.0 c.over.0 one other (inr (set, l)))
    (λ l. not_earlier s B c.set.0 c.action b.set.0 b.action c.over.0 b.over.0 other one (inr (sym set, l))) in
    let over : b.over.0 ≡ c.over.0 =
    one.excess ∙ ap (λ J. through s B J b.action -ℤ B J) set ∙ ap (λ a. through s B c.set.0 a -ℤ B c.set.0) action ∙ sym other.excess in
    ap (λ J. record { set = record { 0 = J }; action = b.action; over = b.over }) set
    ∙ ap (λ a. record { set = c.set; action = a; over = b.over }) action ∙ ap (λ z. record { set = c.set; action = c.action; over = record { 0 = z } }) over
  where
    same : (m n : ℕ) → (m < n → ⊥) → (n < m → ⊥) → m ≡ n
    same m n p q = elim (cases_lt m n) [ inl l ↦ absurd (p l) | inr ge ↦ elim (cases_lt n m) [ inl l ↦ absurd (q l) | inr le ↦ omega (arith, ge, le) ] ]
