-- The histories stand by length, and then lexicographically by their steps.
use Rattle.std.proofs.Common.{◌≡◌, ℕ, zero, suc, ◌+◌, ◌<◌, ◌≤◌, List, [], ◌∷◌, ◌++◌, map, flat_map, length, refl, sym, ap, ◌∙◌, subst, arith, inl, inr, ◌⊎◌}
use Rattle.std.specs.List.{range_with_len}
use Rattle.std.specs.Ordering.{nat_cmp, ordering_then}
use Rattle.std.specs.declared.cmp.Ordering.{Ordering}
use Rattle.std.specs.declared.cmp.Ordering.TheVariants.{Less, Equal, Greater}
use Rattle.std.specs.Cmp.{IsTotalOrder, nat_cmp_is}
use Rattle.std.specs.Cmp.Lexicographic.{slice_cmp}
use Rattle.std.proofs.lemmas.Cmp.{lists_total, then_total, on_total, nat_cmp_total, tied_itself}
use Rattle.lab_math.proofs.Members.{In, all_in, all_from_in, in_append_cases, in_from_map, in_from_flat_map, in_from_range}
use Rattle.lab_defs_text.specs.Games.{GameModel, Place}
use Rattle.lab_defs_game.specs.Histories.{History, Step, actions_at, row_of, place_of, steps_of, longer, with_longer, histories}
use Rattle.lab_defs_game.specs.Laws.{step_cmp, history_cmp, HistoryOrderLaw}
use Rattle.lab_defs_game.proofs.HistoryCounts.{level}
use Rattle.lab_defs_game.proofs.KeyLemmas.{Ascending, sorted_from_ascending}
use Rattle.lab_defs_game.proofs.Legal.{step_at, steps_by, length_push}

-- ---- lists in order

module _ {K : Type 0} (R : K → K → Ordering) where
  -- two lists in order, the first one before the second
  pub ascending_append : (xs ys : List K) → Ascending R xs → Ascending R ys → ((x y : K) → In x xs → In y ys → R x y ≡ Less) → Ascending R (xs ++ ys)
  ascending_append [] ys a b l = b
  ascending_append (x ∷ xs) ys a b l = (all_from_in (λ y. R x y ≡ Less) (xs ++ ys) (λ y i. at y (in_append_cases xs ys y i)), ascending_append xs ys a.1 b (λ u v i j. l u v (inr i) j))
    where
      at : (y : K) → In y xs ⊎ In y ys → R x y ≡ Less
      at y (inl i) = all_in (λ y. R x y ≡ Less) xs y a.0 i
      at y (inr j) = l x y (inl refl) j

module _ {J K : Type 0} (R : J → J → Ordering) (S : K → K → Ordering) where
  -- what is made in order from a list in order
  pub ascending_map : (f : J → K) (xs : List J) → Ascending R xs → ((x y : J) → R x y ≡ Less → S (f x) (f y) ≡ Less) → Ascending S (map f xs)
  ascending_map f [] a l = tt
  ascending_map f (x ∷ xs) a l = (all_from_in (λ y. S (f x) y ≡ Less) (map f xs) (λ y i. at y (in_from_map f xs y i)), ascending_map f xs a.1 l)
    where
      at : (y : K) → (z : J) × In z xs × (f z ≡ y) → S (f x) y ≡ Less
      at y r = subst (λ y. S (f x) y ≡ Less) r.2 (l x r.0 (all_in (λ z. R x z ≡ Less) xs r.0 a.0 r.1))

  -- lists in order, each before those that are made of later items
  pub ascending_flat_map : (f : J → List K) (xs : List J) → Ascending R xs → ((x : J) → In x xs → Ascending S (f x))
      → ((x y : J) → In x xs → In y xs → R x y ≡ Less → (u v : K) → In u (f x) → In v (f y) → S u v ≡ Less) → Ascending S (flat_map f xs)
  ascending_flat_map f [] a s l = tt
  ascending_flat_map f (x ∷ xs) a s l =
      ascending_append S (f x) (flat_map f xs) (s x (inl refl)) (ascending_flat_map f xs a.1 (λ y i. s y (inr i)) (λ y z i j. l y z (inr i) (inr j)))
      (λ u v i j. at u v i (in_from_flat_map f xs v j))
    where
      at : (u v : K) → In u (f x) → (y : J) × In y xs × In v (f y) → S u v ≡ Less
      at u v i r = l x r.0 (inl refl) (inr r.1) (all_in (λ z. R x z ≡ Less) xs r.0 a.0 r.1) u v i r.2

-- a lower number stands before
pub nat_cmp-less : (x y : ℕ) → x < y → nat_cmp x y ≡ Less
nat_cmp-less x y l = sym (nat_cmp_is x y Less l)

-- the numbers of a range
pub range_ascending : (s n : ℕ) → Ascending nat_cmp (range_with_len s n)
range_ascending s zero = tt
range_ascending s (suc n) = (all_from_in (λ y. nat_cmp s y ≡ Less) (range_with_len (s + 1) n) (λ y i. nat_cmp-less s y (let r = in_from_range y (s + 1) n i in omega (arith, r.0))), range_ascending (s + 1) n)

-- ---- steps

-- the order of steps is total
step_total : IsTotalOrder step_cmp
step_total = then_total (on_total (λ (s : Step). s.action1) nat_cmp_total) (then_total (on_total (λ (s : Step). s.action2) nat_cmp_total) (on_total (λ (s : Step). s.outcome) nat_cmp_total))

-- a comparison that is tied leaves it to the next
after_tie : (n : ℕ) (c : Ordering) → c ≡ Less → ordering_then (nat_cmp n n) c ≡ Less
after_tie n c e = ap (λ o. ordering_then o c) (tied_itself nat_cmp_total n) ∙ e

-- the outcomes of a joint action stand in order
by_outcome : (a b o q : ℕ) → nat_cmp o q ≡ Less → step_cmp (step_at a b o) (step_at a b q) ≡ Less
by_outcome a b o q l = after_tie a (ordering_then (nat_cmp b b) (nat_cmp o q)) (after_tie b (nat_cmp o q) l)

-- those with a lower action of the second seat stand first
by_second : (a b c o q : ℕ) → nat_cmp b c ≡ Less → step_cmp (step_at a b o) (step_at a c q) ≡ Less
by_second a b c o q l = after_tie a (ordering_then (nat_cmp b c) (nat_cmp o q)) (ap (λ r. ordering_then r (nat_cmp o q)) l)

-- those with a lower action of the first seat stand first
by_first : (s t : Step) → nat_cmp s.action1 t.action1 ≡ Less → step_cmp s t ≡ Less
by_first s t l = ap (λ r. ordering_then r (ordering_then (nat_cmp s.action2 t.action2) (nat_cmp s.outcome t.outcome))) l

-- the steps of one joint action
abbrev steps_by_both : Place → ℕ → ℕ → List Step
steps_by_both p a b = map (step_at a b) (range_with_len 0 (length (row_of p a b)))

-- a step by the first seat's action a has that action
first_is : (p : Place) (a : ℕ) (s : Step) → In s (steps_by p a) → s.action1 ≡ a
first_is p a s i =
    let b = in_from_flat_map (steps_by_both p a) (range_with_len 0 (actions_at 2 p)) s i in
    let o = in_from_map (step_at a b.0) (range_with_len 0 (length (row_of p a b.0))) s b.2 in
    ap (λ (t : Step). t.action1) (sym o.2)

-- the steps of one action of the first seat
steps_by_ascending : (p : Place) (a : ℕ) → Ascending step_cmp (steps_by p a)
steps_by_ascending p a =
    ascending_flat_map nat_cmp step_cmp (steps_by_both p a) (range_with_len 0 (actions_at 2 p)) (range_ascending 0 (actions_at 2 p))
    (λ b i. ascending_map nat_cmp step_cmp (step_at a b) (range_with_len 0 (length (row_of p a b))) (range_ascending 0 (length (row_of p a b))) (by_outcome a b))
    (λ b c i j l u v iu iv. at b c l u v (in_from_map (step_at a b) (range_with_len 0 (length (row_of p a b))) u iu) (in_from_map (step_at a c) (range_with_len 0 (length (row_of p a c))) v iv))
  where
    at : (b c : ℕ) → nat_cmp b c ≡ Less → (u v : Step) → (o : ℕ) × In o (range_with_len 0 (length (row_of p a b))) × (step_at a b o ≡ u)
        → (q : ℕ) × In q (range_with_len 0 (length (row_of p a c))) × (step_at a c q ≡ v) → step_cmp u v ≡ Less
    at b c l u v x y = subst (λ u. step_cmp u v ≡ Less) x.2 (subst (λ v. step_cmp (step_at a b x.0) v ≡ Less) y.2 (by_second a b c x.0 y.0 l))

-- the steps out of a place stand in order
pub steps_ascending : (p : Place) → Ascending step_cmp (steps_of p)
steps_ascending p =
    ascending_flat_map nat_cmp step_cmp (steps_by p) (range_with_len 0 (actions_at 1 p)) (range_ascending 0 (actions_at 1 p)) (λ a i. steps_by_ascending p a)
    (λ a b i j l u v iu iv. by_first u v (subst (λ x. nat_cmp x v.action1 ≡ Less) (sym (first_is p a u iu)) (subst (λ x. nat_cmp a x ≡ Less) (sym (first_is p b v iv)) l)))

-- ---- histories

-- lists that begin alike compare by what is behind
cmp_behind : (h x y : History) → slice_cmp step_cmp x y ≡ Less → slice_cmp step_cmp (h ++ x) (h ++ y) ≡ Less
cmp_behind [] x y l = l
cmp_behind (s ∷ h) x y l = ap (λ o. ordering_then o (slice_cmp step_cmp (h ++ x) (h ++ y))) (tied_itself step_total s) ∙ cmp_behind h x y l

-- what stands before among lists of one length does so with anything behind
cmp_before : (h k x y : History) → length h ≡ length k → slice_cmp step_cmp h k ≡ Less → slice_cmp step_cmp (h ++ x) (k ++ y) ≡ Less
cmp_before [] [] x y e l = absurd (never l)
  where
    never : Equal ≡ Less → ⊥
    never e = cc
cmp_before [] (t ∷ k) x y e l = absurd (omega (arith, e))
cmp_before (s ∷ h) [] x y e l = absurd (omega (arith, e))
cmp_before (s ∷ h) (t ∷ k) x y e l = at (step_cmp s t) l (cmp_before h k x y (omega (arith, e)))
  where
    at : (o : Ordering) → ordering_then o (slice_cmp step_cmp h k) ≡ Less → (slice_cmp step_cmp h k ≡ Less → slice_cmp step_cmp (h ++ x) (k ++ y) ≡ Less)
        → ordering_then o (slice_cmp step_cmp (h ++ x) (k ++ y)) ≡ Less
    at Less l rest = refl
    at Equal l rest = rest l
    at Greater l rest = l

-- all histories of a list have m steps
abbrev AllLong : ℕ → List History → Type 0
AllLong m hs = (h : History) → In h hs → length h ≡ m

-- one step longer
next_long : (g : GameModel) (m : ℕ) (hs : List History) → AllLong m hs → AllLong (suc m) (flat_map (longer g) hs)
next_long g m hs l k i =
    let b = in_from_flat_map (longer g) hs k i in
    let s = in_from_map (λ s. b.0 ++ s ∷ []) (steps_of (place_of g b.0)) k b.2 in
    ap length (sym s.2) ∙ length_push b.0 s.0 ∙ ap suc (l b.0 b.1)

-- histories of one length in order, made longer, stand in order
next_ascending : (g : GameModel) (m : ℕ) (hs : List History) → AllLong m hs → Ascending (slice_cmp step_cmp) hs → Ascending (slice_cmp step_cmp) (flat_map (longer g) hs)
next_ascending g m hs long a =
    ascending_flat_map (slice_cmp step_cmp) (slice_cmp step_cmp) (longer g) hs a
    (λ h i. ascending_map step_cmp (slice_cmp step_cmp) (λ s. h ++ s ∷ []) (steps_of (place_of g h)) (steps_ascending (place_of g h))
    (λ s t l. cmp_behind h (s ∷ []) (t ∷ []) (ap (λ o. ordering_then o Equal) l)))
    (λ h k i j l u v iu iv. at h k (long h i ∙ sym (long k j)) l u v (in_from_map (λ s. h ++ s ∷ []) (steps_of (place_of g h)) u iu) (in_from_map (λ s. k ++ s ∷ []) (steps_of (place_of g k)) v iv))
  where
    at : (h k : History) → length h ≡ length k → slice_cmp step_cmp h k ≡ Less → (u v : History) → (s : Step) × In s (steps_of (place_of g h)) × (h ++ s ∷ [] ≡ u)
        → (t : Step) × In t (steps_of (place_of g k)) × (k ++ t ∷ [] ≡ v) → slice_cmp step_cmp u v ≡ Less
    at h k e l u v x y =
        subst (λ u. slice_cmp step_cmp u v ≡ Less) x.2 (subst (λ v. slice_cmp step_cmp (h ++ x.0 ∷ []) v ≡ Less) y.2 (cmp_before h k (x.0 ∷ []) (y.0 ∷ []) e l))

-- histories of m steps in order are in the order of histories
one_length : (m : ℕ) (hs : List History) → AllLong m hs → Ascending (slice_cmp step_cmp) hs → Ascending history_cmp hs
one_length m [] l a = tt
one_length m (h ∷ hs) l a = (
  all_from_in (λ k. history_cmp h k ≡ Less) hs (λ k i. at k (l h (inl refl) ∙ sym (l k (inr i))) (all_in (λ k. slice_cmp step_cmp h k ≡ Less) hs k a.0 i)),
  one_length m hs (λ k i. l k (inr i)) a.1,
)
  where
    at : (k : History) → length h ≡ length k → slice_cmp step_cmp h k ≡ Less → history_cmp h k ≡ Less
    at k e lt = ap (λ n. ordering_then (nat_cmp (length h) n) (slice_cmp step_cmp h k)) (sym e) ∙ after_tie (length h) (slice_cmp step_cmp h k) lt

-- histories that are made longer have no fewer steps
no_shorter : (g : GameModel) (n m : ℕ) (hs : List History) → AllLong m hs → (h : History) → In h (with_longer g n hs) → m ≤ length h
no_shorter g zero m hs l h i = let e = l h i in omega (arith, e)
no_shorter g (suc n) m hs l h i = at (in_append_cases hs (with_longer g n (flat_map (longer g) hs)) h i) (λ j. no_shorter g n (suc m) (flat_map (longer g) hs) (next_long g m hs l) h j)
  where
    at : In h hs ⊎ In h (with_longer g n (flat_map (longer g) hs)) → (In h (with_longer g n (flat_map (longer g) hs)) → suc m ≤ length h) → m ≤ length h
    at (inl j) rest = let e = l h j in omega (arith, e)
    at (inr j) rest = let e = rest j in omega (arith, e)

-- histories and longer ones stand in order
with_longer_ascending : (g : GameModel) (n m : ℕ) (hs : List History) → AllLong m hs → Ascending (slice_cmp step_cmp) hs → Ascending history_cmp (with_longer g n hs)
with_longer_ascending g zero m hs l a = one_length m hs l a
with_longer_ascending g (suc n) m hs l a =
    ascending_append history_cmp hs (with_longer g n (flat_map (longer g) hs)) (one_length m hs l a)
    (with_longer_ascending g n (suc m) (flat_map (longer g) hs) (next_long g m hs l) (next_ascending g m hs l a))
    (λ h k i j. at h k (l h i) (no_shorter g n (suc m) (flat_map (longer g) hs) (next_long g m hs l) k j))
  where
    at : (h k : History) → length h ≡ m → suc m ≤ length k → history_cmp h k ≡ Less
    at h k e lt = ap (λ o. ordering_then o (slice_cmp step_cmp h k)) (nat_cmp-less (length h) (length k) (omega (arith, e, lt)))

-- the law of the order of histories
pub history_order_law : HistoryOrderLaw
history_order_law g = sorted_from_ascending history_cmp (histories g) (with_longer_ascending g g.horizon 0 ([] ∷ []) first (tt, tt))
  where
    first : (h : History) → In h ([] ∷ []) → length h ≡ 0
    first h (inl e) = ap length (sym e)
    first h (inr i) = absurd i

-- the order of histories is total
pub history_total : IsTotalOrder history_cmp
history_total = then_total (on_total (λ (h : History). length h) nat_cmp_total) (lists_total step_total)

-- a level has histories of as many steps
level_long : (g : GameModel) (t : ℕ) → AllLong t (level g t)
level_long g zero h (inl e) = ap length (sym e)
level_long g zero h (inr i) = absurd i
level_long g (suc t) h i = next_long g t (level g t) (level_long g t) h i

-- a level stands in order
level_lists : (g : GameModel) (t : ℕ) → Ascending (slice_cmp step_cmp) (level g t)
level_lists g zero = (tt, tt)
level_lists g (suc t) = next_ascending g t (level g t) (level_long g t) (level_lists g t)

-- a level stands in the order of histories
pub level_ascending : (g : GameModel) (t : ℕ) → Ascending history_cmp (level g t)
level_ascending g t = one_length t (level g t) (level_long g t) (level_lists g t)
