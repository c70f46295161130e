-- The public path of a node, and the sets inside a subgame.
use Rattle.std.proofs.Common.{◌≡◌, ℕ, ◌<◌, ◌≤◌, List, [], ◌∷◌, ◌++◌, true, false, eqb, ◌&&◌, map, take, length, get_or, refl, sym, ap, ◌∙◌, subst, arith, inl, inr, ◌⊎◌, ◌↔◌}
use Rattle.std.specs.Ordering.{is_lt}
use Rattle.std.specs.List.{range_with_len}
use Rattle.std.specs.declared.cmp.Ordering.TheVariants.{Less}
use Rattle.std.proofs.lemmas.Bool.{and_parts, and_from, eqb-true}
use Rattle.lab_math.proofs.Members.{In, in_filter, in_from_filter}
use Rattle.lab_defs_text.specs.Games.{GameModel}
use Rattle.lab_defs_game.specs.Keys.{count, number_of}
use Rattle.lab_defs_game.specs.Histories.{reached}
use Rattle.lab_defs_game.specs.Sets.{Item, item_of, seen, publics, set_cmp, sets, set_number}
use Rattle.lab_defs_game.specs.Paths.{SetAction, parent, is_taken}
use Rattle.lab_defs_game.specs.Nodes.{begins, path, span_from, span_to, following}
use Rattle.lab_defs_game.proofs.KeyLemmas.{Ascending, filter_ascending}
use Rattle.lab_defs_game.proofs.NumberLemmas.{number_lt, number_below, at_number, count_none, length-filter, map_same}
use Rattle.lab_defs_game.proofs.GameLemmas.{Follows, set_cases, set_has, sets_ascending, parent_before}
use Rattle.lab_defs_game.proofs.Orders.{set_total, publics-push, before_longer}
use Rattle.lab_defs_game.proofs.Places.{passing, places_are}
use Rattle.lab_defs_game.proofs.Spans.{span_is}

-- what a longer list begins, a shorter one does too
pub begins_shorter : (p : List ℕ) (x : ℕ) (P : List ℕ) → begins (p ++ x ∷ []) P ≡ true → begins p P ≡ true
begins_shorter [] x P b = refl
begins_shorter (y ∷ p) x [] b = b
begins_shorter (y ∷ p) x (z ∷ P) b =
    let parts = and_parts (eqb y z) (begins (p ++ x ∷ []) P) b in
    and_from (eqb y z) (begins p P) parts.0 (begins_shorter p x P parts.1)

-- what begins a list begins a longer one
pub begins_longer : (P q : List ℕ) (x : ℕ) → begins P q ≡ true → begins P (q ++ x ∷ []) ≡ true
begins_longer [] q x b = refl
begins_longer (z ∷ P) [] x b = absurd (never b)
  where
    never : false ≡ true → ⊥
    never e = cc
begins_longer (z ∷ P) (y ∷ q) x b =
    let parts = and_parts (eqb z y) (begins P q) b in
    and_from (eqb z y) (begins P (q ++ x ∷ [])) parts.0 (begins_longer P q x parts.1)

-- what begins a list begins the list without its last item_of, or is the list
pub begins_cases : (P q : List ℕ) (x : ℕ) → begins P (q ++ x ∷ []) ≡ true → (begins P q ≡ true) ⊎ (P ≡ q ++ x ∷ [])
begins_cases [] q x b = inl refl
begins_cases (z ∷ []) [] x b = let parts = and_parts (eqb z x) true b in inr (ap (λ n. n ∷ []) (eqb-true z x parts.0))
begins_cases (z ∷ w ∷ P) [] x b = let parts = and_parts (eqb z x) false b in absurd (never parts.1)
  where
    never : false ≡ true → ⊥
    never e = cc
begins_cases (z ∷ P) (y ∷ q) x b =
    let parts = and_parts (eqb z y) (begins P (q ++ x ∷ [])) b in
    at (eqb-true z y parts.0) parts.0 (begins_cases P q x parts.1)
  where
    at : z ≡ y → eqb z y ≡ true → (begins P q ≡ true) ⊎ (P ≡ q ++ x ∷ []) → ((eqb z y && begins P q) ≡ true) ⊎ (z ∷ P ≡ y ∷ (q ++ x ∷ []))
    at e t (inl r) = inl (and_from (eqb z y) (begins P q) t r)
    at e t (inr r) = inr (ap (λ n. n ∷ P) e ∙ ap (λ l. y ∷ l) r)

-- the public list of a set that follows another
pub publics_of : (g : GameModel) (seat : ℕ) (s : List Item) → (f : Follows g seat s) → publics s ≡ publics (seen g seat f.history) ++ (item_of g seat (reached g g.root f.history) f.step).public ∷ []
publics_of g seat s f = ap publics f.made ∙ publics-push (seen g seat f.history) (item_of g seat (reached g g.root f.history) f.step)

-- ---- the path of P

-- a path stands in order
pub path_ascending : (g : GameModel) (seat : ℕ) (P : List ℕ) → Ascending set_cmp (path g seat P)
path_ascending g seat P = filter_ascending set_cmp (λ s. begins (publics s) P) (sets g seat) (sets_ascending g seat)

-- what is on a path is a set whose public list begins the node's
pub path_has : (g : GameModel) (seat : ℕ) (P : List ℕ) (s : List Item) → In s (path g seat P) → In s (sets g seat) × (begins (publics s) P ≡ true)
path_has g seat P s i = in_from_filter (λ s. begins (publics s) P) (sets g seat) s i

-- the set that a set of the path follows is on the path, and earlier on it
pub path_parent : (g : GameModel) (seat : ℕ) (P : List ℕ) (s : List Item) → In s (path g seat P) → (f : Follows g seat s)
    → In (seen g seat f.history) (path g seat P) × (number_of set_cmp (path g seat P) (seen g seat f.history) < number_of set_cmp (path g seat P) s)
path_parent g seat P s i f =
    let before = seen g seat f.history in
    let x = item_of g seat (reached g g.root f.history) f.step in
    let on = begins_shorter (publics before) x.public P (subst (λ q. begins q P ≡ true) (publics_of g seat s f) (path_has g seat P s i).1) in
    let there = in_filter (λ s. begins (publics s) P) (sets g seat) before (set_has g seat f.history f.there) on in
    (there, number_lt set_cmp set_total (path g seat P) before s (path_ascending g seat P) there (subst (λ t. set_cmp before t ≡ Less) (sym f.made) (before_longer before x)))

-- the sets of a path that follow a set by an action have the places 0, 1, .. in their order
pub follower_places : (g : GameModel) (seat : ℕ) (P : List ℕ) (t : SetAction)
    → map (λ i. following g seat t (take i (path g seat P))) (passing (λ s. is_taken t (parent g seat s)) [] (path g seat P)) ≡ range_with_len 0 (following g seat t (path g seat P))
follower_places g seat P t =
    let ss = path g seat P in
    let counted = λ (us : List (List Item)). length-filter (λ s. is_taken t (parent g seat s)) us in
    map_same (λ i. following g seat t (take i ss)) (λ i. count (λ s. is_taken t (parent g seat s)) (take i ss)) (λ i. counted (take i ss)) (passing (λ s. is_taken t (parent g seat s)) [] ss)
    ∙ places_are (λ s. is_taken t (parent g seat s)) [] ss
    ∙ ap (range_with_len 0) (sym (counted ss))

-- ---- the subgame of P

-- a set of the subgame follows a set of it, or stands at P itself
pub inside_parent : (g : GameModel) (seat : ℕ) (P : List ℕ) (s : List Item) → (f : Follows g seat s) → begins P (publics s) ≡ true
    → (begins P (publics (seen g seat f.history)) ≡ true) ⊎ (P ≡ publics s)
inside_parent g seat P s f b =
    at (begins_cases P (publics (seen g seat f.history)) (item_of g seat (reached g g.root f.history) f.step).public (subst (λ q. begins P q ≡ true) (publics_of g seat s f) b))
  where
    at : (begins P (publics (seen g seat f.history)) ≡ true) ⊎ (P ≡ publics (seen g seat f.history) ++ (item_of g seat (reached g g.root f.history) f.step).public ∷ []) → (begins P (publics (seen g seat f.history)) ≡ true) ⊎ (P ≡ publics s)
    at (inl r) = inl r
    at (inr e) = inr (e ∙ sym (publics_of g seat s f))

-- what follows a set of the subgame is inside
pub inside_follower : (g : GameModel) (seat : ℕ) (P : List ℕ) (s : List Item) → (f : Follows g seat s) → begins P (publics (seen g seat f.history)) ≡ true → begins P (publics s) ≡ true
inside_follower g seat P s f b = subst (λ q. begins P q ≡ true) (sym (publics_of g seat s f)) (begins_longer P (publics (seen g seat f.history)) (item_of g seat (reached g g.root f.history) f.step).public b)

-- whether a set's parent is inside shows in its number alone
pub parent_number : (g : GameModel) (seat : ℕ) (P : List ℕ) (s : List Item) → In s (sets g seat) → (f : Follows g seat s) → begins P (publics s) ≡ true
    → (begins P (publics (seen g seat f.history)) ≡ true) ↔ (span_from g seat P ≤ set_number g seat (seen g seat f.history))
parent_number g seat P s i f b = (λ t. (there t).0, λ le. back le)
  where
    before : List Item
    before = seen g seat f.history

    j : In (seen g seat f.history) (sets g seat)
    j = set_has g seat f.history f.there

    low : set_number g seat (seen g seat f.history) < length (sets g seat)
    low = number_below set_cmp set_total (sets g seat) (seen g seat f.history) (sets_ascending g seat) j

    at_it : get_or (sets g seat) (set_number g seat (seen g seat f.history)) [] ≡ seen g seat f.history
    at_it = at_number set_cmp set_total (sets g seat) (seen g seat f.history) [] (sets_ascending g seat) j

    own : set_number g seat s < span_to g seat P
    own = ((span_is g seat P (set_number g seat s) [] (number_below set_cmp set_total (sets g seat) s (sets_ascending g seat) i)).0
        (subst (λ t. begins P (publics t) ≡ true) (sym (at_number set_cmp set_total (sets g seat) s [] (sets_ascending g seat) i)) b)).1

    there : begins P (publics (seen g seat f.history)) ≡ true → (span_from g seat P ≤ set_number g seat (seen g seat f.history)) × (set_number g seat (seen g seat f.history) < span_to g seat P)
    there t = (span_is g seat P (set_number g seat (seen g seat f.history)) [] low).0 (subst (λ u. begins P (publics u) ≡ true) (sym at_it) t)

    back : span_from g seat P ≤ set_number g seat (seen g seat f.history) → begins P (publics (seen g seat f.history)) ≡ true
    back le =
        let less = parent_before g seat s f in
        let o = own in
        subst (λ u. begins P (publics u) ≡ true) at_it ((span_is g seat P (set_number g seat (seen g seat f.history)) [] low).1 ((le, omega (arith, less, o))))

-- ---- the first set

-- nothing stands before what has seen nothing
pub not_before_root : (s : List Item) → is_lt (set_cmp s []) ≡ false
not_before_root [] = refl
not_before_root (x ∷ s) = refl

-- the first set has number 0
pub root_number : (g : GameModel) (seat : ℕ) → set_number g seat [] ≡ 0
root_number g seat = count_none (λ s. is_lt (set_cmp s [])) (sets g seat) (λ s i. not_before_root s)

-- every other set has a parent
pub others_follow : (g : GameModel) (seat : ℕ) (s : List Item) → In s (sets g seat) → 0 < set_number g seat s → Follows g seat s
others_follow g seat s i some = at (set_cases g seat s i)
  where
    at : (s ≡ []) ⊎ Follows g seat s → Follows g seat s
    at (inl e) = let n : set_number g seat s ≡ 0 = ap (set_number g seat) e ∙ root_number g seat in absurd (omega arith)
    at (inr f) = f
