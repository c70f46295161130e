-- The orders of lists of numbers and of sets.
use Rattle.std.proofs.Common.{◌≡◌, ℕ, List, [], ◌∷◌, ◌++◌, true, false, eqb, ◌||◌, ◌&&◌, refl, sym, ap, ◌∙◌, inl, inr, ◌⊎◌}
use Rattle.std.specs.Ordering.{is_lt, nat_cmp, ordering_then}
use Rattle.std.specs.declared.cmp.Ordering.{Ordering}
use Rattle.std.specs.declared.cmp.Ordering.TheVariants.{Less, Equal, Greater}
use Rattle.std.specs.Cmp.{IsTotalOrder}
use Rattle.std.specs.Cmp.Lexicographic.{slice_cmp}
use Rattle.std.proofs.lemmas.Cmp.{lists_total, then_total, on_total, nat_cmp_total, tied_itself}
use Rattle.std.proofs.lemmas.Map.Lookups.{CmpEqualImpliesEq, exact_unsigned}
use Rattle.std.proofs.lemmas.Bool.{eq-eqb, eqb-true, and_parts, or_left, or_right}
use Rattle.lab_defs_game.specs.Keys.{list_cmp}
use Rattle.lab_defs_game.specs.Sets.{Item, publics, item_cmp, set_cmp}
use Rattle.lab_defs_game.specs.Nodes.{begins}

-- two comparisons in turn are equal where both are
pub then_equal : (a b : Ordering) → ordering_then a b ≡ Equal → (a ≡ Equal) × (b ≡ Equal)
then_equal Less b e = absurd (never e)
  where
    never : Less ≡ Equal → ⊥
    never e = cc
then_equal Equal b e = (refl, e)
then_equal Greater b e = absurd (never e)
  where
    never : Greater ≡ Equal → ⊥
    never e = cc

-- and less where the first is, or is equal and the second less
pub then_less : (a b : Ordering) → ordering_then a b ≡ Less → (a ≡ Less) ⊎ ((a ≡ Equal) × (b ≡ Less))
then_less Less b e = inl refl
then_less Equal b e = inr (refl, e)
then_less Greater b e = absurd (never e)
  where
    never : Greater ≡ Less → ⊥
    never e = cc

-- lists that compare equal are equal where their elements do
pub exact_lists : {K : Type 0} (R : K → K → Ordering) → CmpEqualImpliesEq R → CmpEqualImpliesEq (slice_cmp R)
exact_lists R exact [] [] e = refl
exact_lists R exact [] (y ∷ ys) e = absurd (never e)
  where
    never : Less ≡ Equal → ⊥
    never e = cc
exact_lists R exact (x ∷ xs) [] e = absurd (never e)
  where
    never : Greater ≡ Equal → ⊥
    never e = cc
exact_lists R exact (x ∷ xs) (y ∷ ys) e =
    let both = then_equal (R x y) (slice_cmp R xs ys) e in
    ap (λ z. z ∷ xs) (exact x y both.0) ∙ ap (λ zs. y ∷ zs) (exact_lists R exact xs ys both.1)

-- the order of lists of numbers is total
pub list_total : IsTotalOrder list_cmp
list_total = lists_total nat_cmp_total

-- lists of numbers that compare equal are one
pub list_exact : CmpEqualImpliesEq list_cmp
list_exact = exact_lists nat_cmp exact_unsigned

-- the order of items is total
pub item_total : IsTotalOrder item_cmp
item_total = then_total (on_total (λ (x : Item). x.action) nat_cmp_total) (then_total (on_total (λ (x : Item). x.own) nat_cmp_total) (on_total (λ (x : Item). x.public) nat_cmp_total))

-- items that compare equal are one
pub item_exact : CmpEqualImpliesEq item_cmp
item_exact x y e =
    let one = then_equal (nat_cmp x.action y.action) (ordering_then (nat_cmp x.own y.own) (nat_cmp x.public y.public)) e in
    let two = then_equal (nat_cmp x.own y.own) (nat_cmp x.public y.public) one.1 in
    same x y (exact_unsigned x.action y.action one.0) (exact_unsigned x.own y.own two.0) (exact_unsigned x.public y.public two.1)
  where
    same : (x y : Item) → x.action ≡ y.action → x.own ≡ y.own → x.public ≡ y.public → x ≡ y
    same x y p q r = λ i. record { action = p i; own = q i; public = r i }

-- the order of sets is total
pub set_total : IsTotalOrder set_cmp
set_total = then_total (on_total publics list_total) (lists_total item_total)

-- sets that compare equal are one
pub set_exact : CmpEqualImpliesEq set_cmp
set_exact x y e = exact_lists item_cmp item_exact x y (then_equal (list_cmp (publics x) (publics y)) (slice_cmp item_cmp x y) e).1

-- a prefix stands before what it begins
pub prefix_less : {K : Type 0} {R : K → K → Ordering} → IsTotalOrder R → (p : List K) (x : K) (t : List K) → slice_cmp R p (p ++ x ∷ t) ≡ Less
prefix_less o [] x t = refl
prefix_less {R = R} o (y ∷ p) x t = ap (λ c. ordering_then c (slice_cmp R p (p ++ x ∷ t))) (tied_itself o y) ∙ prefix_less o p x t

-- the public list with one more item
pub publics-push : (s : List Item) (x : Item) → publics (s ++ x ∷ []) ≡ publics s ++ x.public ∷ []
publics-push [] x = refl
publics-push (y ∷ s) x = ap (λ t. y.public ∷ t) (publics-push s x)

-- a seen list stands before those that are longer by an item
pub before_longer : (s : List Item) (x : Item) → set_cmp s (s ++ x ∷ []) ≡ Less
before_longer s x =
    ap (λ p. ordering_then (list_cmp (publics s) p) (slice_cmp item_cmp s (s ++ x ∷ []))) (publics-push s x)
    ∙ ap (λ c. ordering_then c (slice_cmp item_cmp s (s ++ x ∷ []))) (prefix_less nat_cmp_total (publics s) x.public [])

-- where P begins y, what stands before y stands before P or is begun by P
pub before_begun : (P x y : List ℕ) → list_cmp x y ≡ Less → begins P y ≡ true → (is_lt (list_cmp x P) || begins P x) ≡ true
before_begun [] x y lt b = or_right (is_lt (list_cmp x [])) true refl
before_begun (p ∷ P) x [] lt b = absurd (never b)
  where
    never : false ≡ true → ⊥
    never e = cc
before_begun (p ∷ P) [] (z ∷ y) lt b = refl
before_begun (p ∷ P) (w ∷ x) (z ∷ y) lt b =
    let parts = and_parts (eqb p z) (begins P y) b in
    let pz : p ≡ z = eqb-true p z parts.0 in
    at pz (then_less (nat_cmp w z) (list_cmp x y) lt) (λ l. before_begun P x y l parts.1)
  where
    at : p ≡ z → (nat_cmp w z ≡ Less) ⊎ ((nat_cmp w z ≡ Equal) × (list_cmp x y ≡ Less)) → (list_cmp x y ≡ Less → (is_lt (list_cmp x P) || begins P x) ≡ true)
        → (is_lt (ordering_then (nat_cmp w p) (list_cmp x P)) || (eqb p w && begins P x)) ≡ true
    at pz (inl less) rest =
        or_left (is_lt (ordering_then (nat_cmp w p) (list_cmp x P))) (eqb p w && begins P x) (ap (λ c. is_lt (ordering_then c (list_cmp x P))) (ap (λ v. nat_cmp w v) pz ∙ less))
    at pz (inr both) rest =
        let wp : w ≡ p = exact_unsigned w z both.0 ∙ sym pz in
        ap (λ v. is_lt (ordering_then (nat_cmp v p) (list_cmp x P)) || (eqb p v && begins P x)) wp
        ∙ ap (λ c. is_lt (ordering_then c (list_cmp x P)) || (eqb p p && begins P x)) (tied_itself nat_cmp_total p)
        ∙ ap (λ t. is_lt (list_cmp x P) || (t && begins P x)) (eq-eqb p p refl)
        ∙ rest both.1

-- what P begins does not stand before P
pub begun_not_before : (P y : List ℕ) → begins P y ≡ true → is_lt (list_cmp y P) ≡ false
begun_not_before [] [] b = refl
begun_not_before [] (z ∷ y) b = refl
begun_not_before (p ∷ P) [] b = absurd (never b)
  where
    never : false ≡ true → ⊥
    never e = cc
begun_not_before (p ∷ P) (z ∷ y) b =
    let parts = and_parts (eqb p z) (begins P y) b in
    ap (λ v. is_lt (ordering_then (nat_cmp z v) (list_cmp y P))) (eqb-true p z parts.0)
    ∙ ap (λ c. is_lt (ordering_then c (list_cmp y P))) (tied_itself nat_cmp_total z)
    ∙ begun_not_before P y parts.1
