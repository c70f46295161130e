-- Equal numbers of actions are equal names.
use Rattle.std.proofs.Common.{◌≡◌, ℕ, zero, suc, ◌<◌, ◌≤◌, List, [], ◌∷◌, ◌++◌, length, get_or, cond, true, false, refl, sym, ap, ◌∙◌, subst, arith, inl, inr, ◌⊎◌}
use Rattle.std.specs.Prelude.{◌&&◌, ◌==◌, nat_lt, nat_eq, if◌then◌else◌}
use Rattle.std.specs.List.{list_all}
use Rattle.std.specs.Str.{bytes_eq}
use Rattle.std.specs.Cmp.Lexicographic.{pointwise}
use Rattle.std.proofs.lemmas.Bool.{and_parts, or_left, or_right, cases_lt, eq-eqb, eqb-true, ltb-true, false_from_ne_true}
use Rattle.std.proofs.lemmas.List.{get_or_append_left, length_push}
use Rattle.lab_defs_text.specs.Games as model
use Rattle.lab_defs_text.specs.Texts.{game_ok, name_of, place_at}
use Rattle.lab_defs_text.specs.Words.{Bytes, stands_in}
use Rattle.lab_defs_text.proofs.SplitLemmas.{bytes_eq_is, bytes_eq_refl}
use Rattle.lab_defs_game.proofs.NumberLemmas.{is_true_or}
use Rattle.lab_defs_game.proofs.RecallLemmas.{not_both, names_itself}
use Rattle.lab_defs_game.specs.Recall.{same_names}
use Rattle.lab_defs_game.specs.Histories.{action_names}
use Rattle.lab_world.specs.declared.game.Game.{Game}
use Rattle.lab_world.specs.declared.place.ActionId.{ActionId}
use Rattle.lab_world.specs.Games.{game_model}
use Rattle.lab_world.specs.declared.place.World.{World}
use Rattle.lab_world.specs.Models.{action_list, world_model}
use Rattle.lab_world.specs.Filled.{ids_fit}
use Rattle.lab_world.specs.Wholes.{with_new, all_action_names, place_fits}

-- no name stands twice
abbrev Distinct : List Bytes → Type 0
Distinct ns = (i j : ℕ) → i < length ns → j < length ns → get_or ns i [] ≡ get_or ns j [] → i ≡ j

-- a name that stands at a place is found
stands_at : (ns : List Bytes) (n : Bytes) (i : ℕ) → i < length ns → get_or ns i [] ≡ n → stands_in n ns ≡ true
stands_at [] n i l e = absurd (omega (arith, l))
stands_at (x ∷ ns) n zero l e = or_left (bytes_eq n x) (stands_in n ns) (ap (bytes_eq n) e ∙ bytes_eq_refl n)
stands_at (x ∷ ns) n (suc i) l e = or_right (bytes_eq n x) (stands_in n ns) (stands_at ns n i (omega (arith, l)) e)

-- the last of some names
last_name : (ns : List Bytes) (n : Bytes) → get_or (ns ++ n ∷ []) (length ns) [] ≡ n
last_name [] n = refl
last_name (x ∷ ns) n = last_name ns n

-- with a new name behind
distinct_push : (ns : List Bytes) (n : Bytes) → Distinct ns → stands_in n ns ≡ false → Distinct (ns ++ n ∷ [])
distinct_push ns n d f i j li lj e = at (cases_lt i (length ns)) (cases_lt j (length ns))
  where
    end : (k : ℕ) → k < length (ns ++ n ∷ []) → length ns ≤ k → k ≡ length ns
    end k l h = omega (arith, l, h, length_push ns n)

    -- the name at a place before is none of the last
    apart : (k : ℕ) → k < length ns → get_or (ns ++ n ∷ []) k [] ≡ get_or (ns ++ n ∷ []) (length ns) [] → ⊥
    apart k l s = not_both (stands_at ns n k l (sym (get_or_append_left ns (n ∷ []) [] k l) ∙ s ∙ last_name ns n)) f

    at : (i < length ns) ⊎ (length ns ≤ i) → (j < length ns) ⊎ (length ns ≤ j) → i ≡ j
    at (inl a) (inl b) = d i j a b (sym (get_or_append_left ns (n ∷ []) [] i a) ∙ e ∙ get_or_append_left ns (n ∷ []) [] j b)
    at (inl a) (inr b) = absurd (apart i a (e ∙ ap (λ k. get_or (ns ++ n ∷ []) k []) (end j lj b)))
    at (inr a) (inl b) = absurd (apart j b (sym e ∙ ap (λ k. get_or (ns ++ n ∷ []) k []) (end i li a)))
    at (inr a) (inr b) = end i li a ∙ sym (end j lj b)

-- with those of others that are new
distinct_new : (names ns : List Bytes) → Distinct names → Distinct (with_new names ns)
distinct_new names [] d = d
distinct_new names (n ∷ ns) d = distinct_new (if stands_in n names then names else names ++ n ∷ []) ns (at (is_true_or (stands_in n names)))
  where
    at : (stands_in n names ≡ true) ⊎ (stands_in n names ≡ false) → Distinct (if stands_in n names then names else names ++ n ∷ [])
    at (inl t) = subst (λ b. Distinct (cond b names (names ++ n ∷ []))) (sym t) d
    at (inr f) = subst (λ b. Distinct (cond b names (names ++ n ∷ []))) (sym f) (distinct_push names n d f)

-- with those of places
distinct_names : (names : List Bytes) (ps : List model.Place) → Distinct names → Distinct (all_action_names names ps)
distinct_names names [] d = d
distinct_names names (model.a_world w ∷ ps) d = distinct_names (with_new (with_new names w.one) w.two) ps (distinct_new (with_new names w.one) w.two (distinct_new names w.one d))
distinct_names names (model.an_end z ∷ ps) d = distinct_names names ps d

-- lists of names that are equal one by one are one
pointwise_is : (xs ys : List Bytes) → pointwise bytes_eq xs ys ≡ true → xs ≡ ys
pointwise_is [] [] e = refl
pointwise_is [] (y ∷ ys) e = absurd cc
pointwise_is (x ∷ xs) [] e = absurd cc
pointwise_is (x ∷ xs) (y ∷ ys) e =
    let p = and_parts (bytes_eq x y) (pointwise bytes_eq xs ys) e in
    ap (λ z. z ∷ xs) (bytes_eq_is x y p.0) ∙ ap (λ zs. y ∷ zs) (pointwise_is xs ys p.1)

-- no name of an action of a game stands twice
distinct_actions : (g : Game) → Distinct g.actions
distinct_actions g = subst Distinct (sym (pointwise_is g.actions (all_action_names [] (game_model g).places) names)) (distinct_names [] (game_model g).places (λ i j li lj e. absurd (omega (arith, li))))
  where
    names : pointwise bytes_eq g.actions (all_action_names [] (game_model g).places) ≡ true
    names =
        (and_parts (list_all (place_fits (length g.actions)) g.places) (pointwise bytes_eq g.actions (all_action_names [] (game_model g).places))
        (and_parts (game_ok (game_model g)) (list_all (place_fits (length g.actions)) g.places && pointwise bytes_eq g.actions (all_action_names [] (game_model g).places)) g.whole).1).1

-- ids that are in range
abbrev pub InRange : ℕ → List ActionId → Type 0
InRange n ids = list_all (λ (i : ActionId). nat_lt i.0 n) ids ≡ true

-- ids of actions are equal where their names are
same_ids : (names : List Bytes) (xs ys : List ActionId) → Distinct names → InRange (length names) xs → InRange (length names) ys
    → pointwise (λ (x y : ActionId). nat_eq x.0 y.0) xs ys ≡ same_names (action_list names xs) (action_list names ys)
same_ids names [] [] d a b = refl
same_ids names [] (y ∷ ys) d a b = refl
same_ids names (x ∷ xs) [] d a b = refl
same_ids names (x ∷ xs) (y ∷ ys) d a b =
    ap (λ c. c && pointwise (λ (x y : ActionId). nat_eq x.0 y.0) xs ys) (heads (is_true_or (nat_eq x.0 y.0)))
    ∙ ap (λ c. bytes_eq (name_of names x.0) (name_of names y.0) && c) (same_ids names xs ys d p.1 q.1)
  where
    p : (nat_lt x.0 (length names) ≡ true) × InRange (length names) xs
    p = and_parts (nat_lt x.0 (length names)) (list_all (λ (i : ActionId). nat_lt i.0 (length names)) xs) a

    q : (nat_lt y.0 (length names) ≡ true) × InRange (length names) ys
    q = and_parts (nat_lt y.0 (length names)) (list_all (λ (i : ActionId). nat_lt i.0 (length names)) ys) b

    heads : (nat_eq x.0 y.0 ≡ true) ⊎ (nat_eq x.0 y.0 ≡ false) → nat_eq x.0 y.0 ≡ bytes_eq (name_of names x.0) (name_of names y.0)
    heads (inl t) = t ∙ sym (ap (λ k. bytes_eq (name_of names x.0) (name_of names k)) (sym (eqb-true x.0 y.0 t)) ∙ bytes_eq_refl (name_of names x.0))
    heads (inr f) =
        f
        ∙ sym (false_from_ne_true (bytes_eq (name_of names x.0) (name_of names y.0)) (λ t.
        let e = d x.0 y.0 (ltb-true x.0 (length names) p.0) (ltb-true y.0 (length names) q.0) (bytes_eq_is (name_of names x.0) (name_of names y.0) t) in
        not_both (eq-eqb x.0 y.0 e) f))

-- so those of a game are compared by their ids
pub compared : (g : Game) (xs ys : List ActionId) (ns ms : List Bytes) → InRange (length g.actions) xs → InRange (length g.actions) ys → action_list g.actions xs ≡ ns → action_list g.actions ys ≡ ms
    → pointwise (λ (x y : ActionId). nat_eq x.0 y.0) xs ys ≡ same_names ns ms
compared g xs ys ns ms a b e f = same_ids g.actions xs ys (distinct_actions g) a b ∙ ap (λ ns. same_names ns (action_list g.actions ys)) e ∙ ap (same_names ns) f

-- those of a seat at a world are in range
pub seat_ids : (n seat : ℕ) (w : World) (ids : List ActionId) → ids ≡ cond (seat == 1) w.one w.two → ids_fit n w ≡ true → InRange n ids
seat_ids n seat w ids e fit = subst (InRange n) (sym e) (at (is_true_or (seat == 1)))
  where
    both : InRange n w.one × InRange n w.two
    both = and_parts (list_all (λ (i : ActionId). nat_lt i.0 n) w.one) (list_all (λ (i : ActionId). nat_lt i.0 n) w.two) fit

    at : (seat == 1 ≡ true) ⊎ (seat == 1 ≡ false) → InRange n (cond (seat == 1) w.one w.two)
    at (inl t) = subst (λ b. InRange n (cond b w.one w.two)) (sym t) both.0
    at (inr f) = subst (λ b. InRange n (cond b w.one w.two)) (sym f) both.1

-- and have the names of the seat's actions there
pub seat_names : (actions : List Bytes) (seat : ℕ) (w : World) (ids : List ActionId) (p : model.Place) → ids ≡ cond (seat == 1) w.one w.two → p ≡ model.a_world (world_model actions w)
    → action_list actions ids ≡ action_names seat p
seat_names actions seat w ids p e is = ap (action_list actions) e ∙ at (is_true_or (seat == 1)) ∙ ap (action_names seat) (sym is)
  where
    at : (seat == 1 ≡ true) ⊎ (seat == 1 ≡ false) → action_list actions (cond (seat == 1) w.one w.two) ≡ cond (seat == 1) (action_list actions w.one) (action_list actions w.two)
    at (inl t) = ap (λ b. action_list actions (cond b w.one w.two)) t ∙ ap (λ b. cond b (action_list actions w.one) (action_list actions w.two)) (sym t)
    at (inr f) = ap (λ b. action_list actions (cond b w.one w.two)) f ∙ ap (λ b. cond b (action_list actions w.one) (action_list actions w.two)) (sym f)

-- a place has the names that it has
pub one_place : (g : model.GameModel) (seat m n : ℕ) → nat_eq m n ≡ true → same_names (action_names seat (place_at g m)) (action_names seat (place_at g n)) ≡ true
one_place g seat m n e = ap (λ k. same_names (action_names seat (place_at g m)) (action_names seat (place_at g k))) (sym (eqb-true m n e)) ∙ names_itself (action_names seat (place_at g m))
