-- The sets of a subgame, and its nodes, have consecutive numbers.
use Rattle.std.proofs.Common.{◌≡◌, ℕ, ◌+◌, ◌<◌, ◌≤◌, List, Bool, true, false, ◌||◌, length, get_or, refl, sym, ap, ◌∙◌, subst, inl, inr, ◌⊎◌, ◌↔◌}
use Rattle.std.specs.Ordering.{is_lt, is_eq}
use Rattle.std.specs.Cmp.Lexicographic.{slice_cmp}
use Rattle.std.specs.declared.cmp.Ordering.{Ordering}
use Rattle.std.specs.declared.cmp.Ordering.TheVariants.{Less, Equal, Greater}
use Rattle.std.proofs.lemmas.Bool.{or_left, or_cases, false_from_ne_true}
use Rattle.lab_defs_game.specs.Keys.{number_of, count, list_cmp}
use Rattle.lab_defs_text.specs.Games.{GameModel}
use Rattle.lab_defs_game.specs.Sets.{Item, publics, set_cmp, item_cmp, sets}
use Rattle.lab_defs_game.specs.Nodes.{begins, nodes, span_from, span_to}
use Rattle.lab_defs_game.proofs.NumberLemmas.{HoldsUpTo, within_at, lt_is}
use Rattle.lab_defs_game.proofs.GameLemmas.{sets_ascending, nodes_ascending}
use Rattle.lab_defs_game.proofs.Orders.{list_total, list_exact, then_less, before_begun, begun_not_before}

-- standing before P is a test that holds up to a place
pub list_before_holds : (P : List ℕ) → HoldsUpTo list_cmp (λ x. is_lt (list_cmp x P))
list_before_holds P x y l t = ap is_lt (list_total.trans x y P l (lt_is t))

-- so does standing before P or beginning with it
pub list_within_holds : (P : List ℕ) → HoldsUpTo list_cmp (λ x. is_lt (list_cmp x P) || begins P x)
list_within_holds P x y l t = at (or_cases (is_lt (list_cmp y P)) (begins P y) t)
  where
    at : (is_lt (list_cmp y P) ≡ true) ⊎ (begins P y ≡ true) → (is_lt (list_cmp x P) || begins P x) ≡ true
    at (inl b) = or_left (is_lt (list_cmp x P)) (begins P x) (list_before_holds P x y l b)
    at (inr b) = before_begun P x y l b

-- what stands before P does not begin with it
pub apart : (P x : List ℕ) → is_lt (list_cmp x P) ≡ true → begins P x ≡ false
apart P x l = false_from_ne_true (begins P x) (λ b. never (sym (begun_not_before P x b) ∙ l))
  where
    never : false ≡ true → ⊥
    never e = cc

-- a test of public lists that holds up to a place holds so of sets
public_holds : (p : List ℕ → Bool) → HoldsUpTo list_cmp p → HoldsUpTo set_cmp (λ s. p (publics s))
public_holds p h x y l t = at (then_less (list_cmp (publics x) (publics y)) (slice_cmp item_cmp x y) l)
  where
    at : (list_cmp (publics x) (publics y) ≡ Less) ⊎ ((list_cmp (publics x) (publics y) ≡ Equal) × (slice_cmp item_cmp x y ≡ Less)) → p (publics x) ≡ true
    at (inl less) = h (publics x) (publics y) less t
    at (inr both) = ap p (list_exact (publics x) (publics y) both.0) ∙ t

-- the sets inside the subgame of P are those whose numbers lie in its span
pub span_is : (g : GameModel) (seat : ℕ) (P : List ℕ) (i : ℕ) (d : List Item) → i < length (sets g seat)
    → (begins P (publics (get_or (sets g seat) i d)) ≡ true) ↔ ((span_from g seat P ≤ i) × (i < span_to g seat P))
span_is g seat P i d l =
    within_at set_cmp (λ s. is_lt (list_cmp (publics s) P)) (λ s. begins P (publics s))
    (public_holds (λ x. is_lt (list_cmp x P)) (list_before_holds P)) (public_holds (λ x. is_lt (list_cmp x P) || begins P x) (list_within_holds P))
    (λ s. apart P (publics s)) (sets g seat) i d (sets_ascending g seat) l

-- so of nodes: from the number of P on
pub node_span_is : (g : GameModel) (P : List ℕ) (i : ℕ) (d : List ℕ) → i < length (nodes g)
    → (begins P (get_or (nodes g) i d) ≡ true) ↔ ((number_of list_cmp (nodes g) P ≤ i) × (i < number_of list_cmp (nodes g) P + count (begins P) (nodes g)))
node_span_is g P i d l =
    within_at list_cmp (λ x. is_lt (list_cmp x P)) (begins P) (list_before_holds P) (list_within_holds P) (apart P) (nodes g) i d (nodes_ascending g) l

-- what is found to be equal is equal
pub eq_is : (c : Ordering) → is_eq c ≡ true → c ≡ Equal
eq_is Less e = absurd (never e)
  where
    never : false ≡ true → ⊥
    never e = cc
eq_is Equal e = refl
eq_is Greater e = absurd (never e)
  where
    never : false ≡ true → ⊥
    never e = cc

-- so does standing before P or being it
list_at_holds : (P : List ℕ) → HoldsUpTo list_cmp (λ x. is_lt (list_cmp x P) || is_eq (list_cmp x P))
list_at_holds P x y l t = or_left (is_lt (list_cmp x P)) (is_eq (list_cmp x P)) (at (or_cases (is_lt (list_cmp y P)) (is_eq (list_cmp y P)) t))
  where
    at : (is_lt (list_cmp y P) ≡ true) ⊎ (is_eq (list_cmp y P) ≡ true) → is_lt (list_cmp x P) ≡ true
    at (inl b) = list_before_holds P x y l b
    at (inr e) = ap is_lt (subst (λ z. list_cmp x z ≡ Less) (list_exact y P (eq_is (list_cmp y P) e)) l)

-- less is not equal
pub lt_no_eq : (c : Ordering) → is_lt c ≡ true → is_eq c ≡ false
lt_no_eq c e = ap is_eq (lt_is e)

-- the sets at the node P are the first ones of its span
pub node_sets_are : (g : GameModel) (seat : ℕ) (P : List ℕ) (i : ℕ) (d : List Item) → i < length (sets g seat)
    → (is_eq (list_cmp (publics (get_or (sets g seat) i d)) P) ≡ true) ↔ ((span_from g seat P ≤ i) × (i < span_from g seat P + count (λ s. is_eq (list_cmp (publics s) P)) (sets g seat)))
node_sets_are g seat P i d l =
    within_at set_cmp (λ s. is_lt (list_cmp (publics s) P)) (λ s. is_eq (list_cmp (publics s) P))
    (public_holds (λ x. is_lt (list_cmp x P)) (list_before_holds P)) (public_holds (λ x. is_lt (list_cmp x P) || is_eq (list_cmp x P)) (list_at_holds P))
    (λ s. lt_no_eq (list_cmp (publics s) P)) (sets g seat) i d (sets_ascending g seat) l
