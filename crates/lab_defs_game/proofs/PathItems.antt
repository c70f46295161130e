-- The items of a path: which earlier item a set follows, and as which of how many.
use Rattle.std.proofs.Common.{◌≡◌, ℕ, zero, suc, ◌<◌, List, [], ◌∷◌, Bool, true, false, take, length, get_or, Option, Some, None, refl, sym, ap, ◌∙◌, subst, arith, inl, inr, ◌⊎◌}
use Rattle.std.specs.Prelude.{◌==◌, nat_lt}
use Rattle.std.specs.Ordering.{is_lt}
use Rattle.std.proofs.lemmas.Bool.{and_from, eq-eqb}
use Rattle.lab_math.proofs.Members.{In, in_get_or}
use Rattle.lab_defs_text.specs.Games.{GameModel}
use Rattle.lab_defs_game.specs.Keys.{count, number_of}
use Rattle.lab_defs_game.specs.Sets.{Item, seen, set_cmp, sets, set_number}
use Rattle.lab_defs_game.specs.Paths.{SetAction, parent, is_taken}
use Rattle.lab_defs_game.specs.Nodes.{path, Follow, following, path_place, path_item, follow_at}
use Rattle.lab_defs_game.specs.Laws.{FollowLaw, FirstItemLaw}
use Rattle.lab_defs_game.proofs.NumberLemmas.{length-filter, number_at, at_number, number_below, passes_at, before_holds, count_cong, count_at_true, count_at_false, is_true_or, count_none}
use Rattle.lab_defs_game.proofs.Orders.{set_total}
use Rattle.lab_defs_game.proofs.GameLemmas.{Follows, set_cases, sets_ascending, parent_is}
use Rattle.lab_defs_game.proofs.Ways.{path_ascending, path_has, path_parent, not_before_root}

-- numbers of sets compare as the sets do
number_cmp : (g : GameModel) (seat : ℕ) (s u : List Item) → In s (sets g seat) → nat_lt (set_number g seat s) (set_number g seat u) ≡ is_lt (set_cmp s u)
number_cmp g seat s u i =
    sym (passes_at set_cmp (λ x. is_lt (set_cmp x u)) (before_holds set_cmp set_total u) (sets g seat) (set_number g seat s) [] (sets_ascending g seat)
    (number_below set_cmp set_total (sets g seat) s (sets_ascending g seat) i))
    ∙ ap (λ x. is_lt (set_cmp x u)) (at_number set_cmp set_total (sets g seat) s [] (sets_ascending g seat) i)

-- the place on a path of a set's number is the place of the set
place_is : (g : GameModel) (seat : ℕ) (node : List ℕ) (u : List Item) → path_place g seat node (set_number g seat u) ≡ number_of set_cmp (path g seat node) u
place_is g seat node u =
    count_cong (λ s. nat_lt (set_number g seat s) (set_number g seat u)) (λ s. is_lt (set_cmp s u)) (path g seat node) (λ s i. number_cmp g seat s u (path_has g seat node s i).0)

-- what passes at a place is not yet counted before it
count_before : {K : Type 0} (p : K → Bool) (xs : List K) (i : ℕ) (d : K) → i < length xs → p (get_or xs i d) ≡ true → count p (take i xs) < count p xs
count_before p [] i d l e = absurd (omega (arith, l))
count_before p (x ∷ xs) zero d l e = let c = count_at_true p x xs e in omega (arith, c)
count_before p (x ∷ xs) (suc i) d l e = at (is_true_or (p x)) (count_before p xs i d (omega (arith, l)) e)
  where
    at : (p x ≡ true) ⊎ (p x ≡ false) → count p (take i xs) < count p xs → count p (x ∷ take i xs) < count p (x ∷ xs)
    at (inl t) r = let a = count_at_true p x (take i xs) t in let b = count_at_true p x xs t in omega (arith, a, b, r)
    at (inr f) r = let a = count_at_false p x (take i xs) f in let b = count_at_false p x xs f in omega (arith, a, b, r)

-- what was taken is what was taken
taken_itself : (t : SetAction) → is_taken t (Some t) ≡ true
taken_itself t = and_from (t.set == t.set) (t.action == t.action) (eq-eqb t.set t.set refl) (eq-eqb t.action t.action refl)

-- the set at a place of a path
abbrev set_at : GameModel → ℕ → List ℕ → ℕ → List Item
set_at g seat node i = get_or (path g seat node) i []

-- what an option holds
same_follow : (e f : Follow) → ◌≡◌ {A = Option Follow} (Some e) (Some f) → e ≡ f
same_follow e f q = cc

-- nothing is no follower
no_follow : (f : Follow) → ◌≡◌ {A = Option Follow} None (Some f) → ⊥
no_follow f q = cc

-- what is said of a set that follows
abbrev Said : GameModel → ℕ → List ℕ → ℕ → Follow → Type 0
Said g seat node i f =
    (f.before < i) × (parent g seat (set_at g seat node i) ≡ Some (record { set = (path_item g seat node f.before).set; action = f.action })) × (f.place < f.total)

-- what holds of a set that follows an earlier one
follow_said : (g : GameModel) (seat : ℕ) (node : List ℕ) (i : ℕ) (t : SetAction) → i < length (path g seat node) → parent g seat (set_at g seat node i) ≡ Some t
    → (u : List Item) → In u (path g seat node) → t.set ≡ set_number g seat u → number_of set_cmp (path g seat node) u < i
    → Said g seat node i (record { before = path_place g seat node t.set; action = t.action; place = following g seat t (take i (path g seat node)); total = following g seat t (path g seat node) })
follow_said g seat node i t l e u j n less = (
  subst (λ m. m < i) (sym before) less,
  e ∙ ap (λ m. Some (record { set = m; action = t.action })) (n ∙ ap (set_number g seat) (sym there)),
  (let counted = λ (us : List (List Item)). length-filter (λ s. is_taken t (parent g seat s)) us in
      let less = count_before (λ s. is_taken t (parent g seat s)) (path g seat node) i [] l (ap (is_taken t) e ∙ taken_itself t) in
      subst (λ n. n < following g seat t (path g seat node)) (sym (counted (take i (path g seat node)))) (subst (λ n. count (λ s. is_taken t (parent g seat s)) (take i (path g seat node)) < n) (sym (counted (path g seat node))) less)),
)
  where
    before : path_place g seat node t.set ≡ number_of set_cmp (path g seat node) u
    before = ap (path_place g seat node) n ∙ place_is g seat node u

    there : get_or (path g seat node) (path_place g seat node t.set) [] ≡ u
    there = ap (λ m. get_or (path g seat node) m []) before ∙ at_number set_cmp set_total (path g seat node) u [] (path_ascending g seat node) j

-- the law of sets that follow
pub follow_law : FollowLaw
follow_law g seat node i f l e = at (set_cases g seat (set_at g seat node i) (path_has g seat node (set_at g seat node i) on).0)
  where
    on : In (get_or (path g seat node) i []) (path g seat node)
    on = in_get_or (path g seat node) i [] l

    at : (get_or (path g seat node) i [] ≡ []) ⊎ Follows g seat (get_or (path g seat node) i []) → Said g seat node i f
    at (inl q) = absurd (no_follow f (ap (follow_at g seat node i) (sym (ap (parent g seat) q)) ∙ e))
    at (inr w) =
        let p = parent_is g seat (set_at g seat node i) w in
        let r = path_parent g seat node (set_at g seat node i) on w in
        let n = number_at set_cmp set_total (path g seat node) i [] (path_ascending g seat node) l in
        subst (Said g seat node i) (same_follow _ f (ap (follow_at g seat node i) (sym p) ∙ e))
        (follow_said g seat node i _ l p (seen g seat w.history) r.0 refl (subst (λ m. number_of set_cmp (path g seat node) (seen g seat w.history) < m) n r.1))

-- the law of the first item
pub first_item_law : FirstItemLaw
first_item_law g seat node i l = (λ e. there e (set_cases g seat (set_at g seat node i) (path_has g seat node (set_at g seat node i) on).0), λ e. back e (set_cases g seat (set_at g seat node i) (path_has g seat node (set_at g seat node i) on).0))
  where
    on : In (get_or (path g seat node) i []) (path g seat node)
    on = in_get_or (path g seat node) i [] l

    n_is : number_of set_cmp (path g seat node) (get_or (path g seat node) i []) ≡ i
    n_is = number_at set_cmp set_total (path g seat node) i [] (path_ascending g seat node) l

    some_follow : (f : Follow) → ◌≡◌ {A = Option Follow} (Some f) None → ⊥
    some_follow f q = cc

    there : (path_item g seat node i).follows ≡ None → (get_or (path g seat node) i [] ≡ []) ⊎ Follows g seat (get_or (path g seat node) i []) → i ≡ 0
    there e (inl q) = sym n_is ∙ ap (number_of set_cmp (path g seat node)) q ∙ none_before (path g seat node)
      where
        none_before : (ss : List (List Item)) → number_of set_cmp ss [] ≡ 0
        none_before ss = count_none (λ s. is_lt (set_cmp s [])) ss (λ s i. not_before_root s)
    there e (inr w) = absurd (some_follow _ (ap (follow_at g seat node i) (sym (parent_is g seat (set_at g seat node i) w)) ∙ e))

    back : i ≡ 0 → (get_or (path g seat node) i [] ≡ []) ⊎ Follows g seat (get_or (path g seat node) i []) → (path_item g seat node i).follows ≡ None
    back z (inl q) = ap (λ s. follow_at g seat node i (parent g seat s)) q
    back z (inr w) = let r = path_parent g seat node (set_at g seat node i) on w in absurd (omega (arith, z, n_is, r.1))
