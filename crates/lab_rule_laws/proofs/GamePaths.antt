-- The path to a node of a game: what each of its items follows, and the steps between them.
use Rattle.std.proofs.Common.{◌≡◌, ℕ, zero, suc, ◌<◌, List, [], ◌∷◌, true, false, eqb, ◌&&◌, Option, Some, None, map, filter, take, length, get_or, refl, sym, ap, ◌∙◌, subst, arith, inl, inr, eqb-true, eq-eqb, zero-add}
use Rattle.std.specs.List.{range_with_len}
use Rattle.std.proofs.lemmas.Bool.{and_parts, and_from, cases_eq, cases_lt}
use Rattle.std.proofs.lemmas.List.{get_or-map, length-map}
use Rattle.lab_math.proofs.BelowLemmas.{eqb_self}
use Rattle.lab_math.proofs.Members.{In, in_get_or, in_filter, in_from_filter, in_map, in_range, in_from_range}
use Rattle.lab_defs_text.specs.Games.{GameModel}
use Rattle.lab_defs_game.specs.Keys.{count}
use Rattle.lab_defs_game.specs.Sets.{Item}
use Rattle.lab_defs_game.specs.Paths.{SetAction, parent, is_taken}
use Rattle.lab_defs_game.specs.Nodes.{Follow, PathItem, path, following, path_place, path_item, follow_at, path_items}
use Rattle.lab_defs_game.proofs.NumberLemmas.{length-filter}
use Rattle.lab_defs_game.proofs.SetNumbers.{tests_same}
use Rattle.lab_defs_game.proofs.Places.{filter_map, passing}
use Rattle.lab_defs_game.proofs.Ways.{follower_places}
use Rattle.lab_defs_game.proofs.PathItems.{follow_law}
use Rattle.lab_defs_value.specs.Allowances.{Ascends}
use Rattle.lab_defs_value.specs.Views.{begins_step, step_items, same_step, step_number}
use Rattle.lab_defs_value.proofs.Pools.{ascends_filter, ascends_range}
use Rattle.lab_rule_laws.proofs.PathPlaces.{on_path, path_at, number_of_place}
use Rattle.lab_rule_laws.proofs.PathSteps.{count_both, count_map, count_once, count_after, number_there, number_same, number_of_step}

-- what an option of a step holds, and one of a follower
one_step : (t u : SetAction) → ◌≡◌ {A = Option SetAction} (Some t) (Some u) → t ≡ u
one_step t u e = cc

one_follow : (e f : Follow) → ◌≡◌ {A = Option Follow} (Some e) (Some f) → e ≡ f
one_follow e f q = cc

-- steps with one set and one action are one
step_same : (t u : SetAction) → t.set ≡ u.set → t.action ≡ u.action → t ≡ u
step_same t u p q = λ i. record { set = p i; action = q i }

-- so where one is taken
pub taken_is : (t u : SetAction) → is_taken t (Some u) ≡ true → u ≡ t
taken_is t u e = let both = and_parts (eqb u.set t.set) (eqb u.action t.action) e in step_same u t (eqb-true u.set t.set both.0) (eqb-true u.action t.action both.1)

-- a step is the step that is taken
pub taken_self : (t : SetAction) → is_taken t (Some t) ≡ true
taken_self t = and_from (eqb t.set t.set) (eqb t.action t.action) (eqb_self t.set) (eqb_self t.action)

-- of numbers whose images are a range from 0 on one has the image 0
range_begins : (h : ℕ → ℕ) (xs : List ℕ) (n i : ℕ) → map h xs ≡ range_with_len 0 n → In i xs → (x : ℕ) × In x xs × (h x ≡ 0)
range_begins h [] n i e on = absurd on
range_begins h (x ∷ xs) n i e on = (x, inl refl, ap (λ ns. get_or ns 0 0) e ∙ first n)
  where
    first : (n : ℕ) → get_or (range_with_len 0 n) 0 0 ≡ 0
    first zero = refl
    first (suc n) = refl

module _ (g : GameModel) (seat : ℕ) (node : List ℕ) where
  -- the sets on the path, and how many
  abbrev ps : List (List Item)
  ps = path g seat node

  abbrev many : ℕ
  many = on_path g seat node

  -- the parent of the set at a place
  abbrev pub parent_here : ℕ → Option SetAction
  parent_here i = parent g seat (path_at g seat node i)

  -- the item at a place
  abbrev pub item : ℕ → PathItem
  item = path_item g seat node

  -- what it says of the step that it follows
  abbrev pub follow_of : ℕ → SetAction → Follow
  follow_of i t = record { before = path_place g seat node t.set; action = t.action; place = following g seat t (take i ps); total = following g seat t ps }

  -- so it says where the set has that parent
  pub item_follows : (i : ℕ) (t : SetAction) → parent_here i ≡ Some t → (item i).follows ≡ Some (follow_of i t)
  item_follows i t e = ap (follow_at g seat node i) e

  -- the set that it follows is earlier on the path, and it is one of those that follow the step
  pub step_before : (i : ℕ) (t : SetAction) → i < many → parent_here i ≡ Some t
      → (path_place g seat node t.set < i) × (number_of_place g seat node (path_place g seat node t.set) ≡ t.set) × (following g seat t (take i ps) < following g seat t ps)
  step_before i t l e =
      let law = follow_law g seat node i (follow_of i t) l (item_follows i t e) in
      (law.0, ap (λ (u : SetAction). u.set) (one_step (record { set = number_of_place g seat node (path_place g seat node t.set); action = t.action }) t (sym law.1 ∙ e)), law.2)

  -- items that follow one step have one parent
  pub parent_same : (a b : ℕ) (t u : SetAction) → a < many → b < many → parent_here a ≡ Some t → parent_here b ≡ Some u → same_step (follow_of b u) (item a) ≡ true → t ≡ u
  parent_same a b t u la lb ea eb same =
      let here : same_step (follow_of b u) (record { set = (item a).set; follows = Some (follow_of a t) }) ≡ true =
      sym (ap (λ o. same_step (follow_of b u) (record { set = (item a).set; follows = o })) (item_follows a t ea)) ∙ same in
      let both = and_parts (eqb (path_place g seat node t.set) (path_place g seat node u.set)) (eqb t.action u.action) here in
      let place = eqb-true (path_place g seat node t.set) (path_place g seat node u.set) both.0 in
      step_same t u (sym (step_before a t la ea).1 ∙ ap (number_of_place g seat node) place ∙ (step_before b u lb eb).1) (eqb-true t.action u.action both.1)

  -- and the other way round
  pub same_parent : (a b : ℕ) (t : SetAction) → parent_here a ≡ Some t → same_step (follow_of b t) (item a) ≡ true
  same_parent a b t e =
      ap (λ o. same_step (follow_of b t) (record { set = (item a).set; follows = o })) (item_follows a t e)
      ∙ and_from (eqb (path_place g seat node t.set) (path_place g seat node t.set)) (eqb t.action t.action) (eqb_self (path_place g seat node t.set)) (eqb_self t.action)

  -- ---- the first items of the steps

  -- their places
  abbrev pub chosen : List ℕ
  chosen = filter (λ i. begins_step (item i)) (range_with_len 0 many)

  -- the first items are those at these places
  pub steps_are : step_items (path_items g seat node) ≡ map item chosen
  steps_are = filter_map begins_step item (range_with_len 0 many)

  pub steps_many : length (step_items (path_items g seat node)) ≡ length chosen
  steps_many = ap length steps_are ∙ length-map chosen item

  -- the item of a step
  pub step_item : (k : ℕ) (d : PathItem) → k < length chosen → get_or (step_items (path_items g seat node)) k d ≡ item (get_or chosen k 0)
  step_item k d l = ap (λ xs. get_or xs k d) steps_are ∙ get_or-map item chosen k 0 d l

  -- where an item is the first of those that follow its step
  pub record IsFirst (i : ℕ) : Type 0 where
    pub low : i < many
    pub step : SetAction
    pub parent : parent_here i ≡ Some step
    pub first : following g seat step (take i ps) ≡ 0

  first_of : (i : ℕ) → In i chosen → IsFirst i
  first_of i j = at (parent_here i) refl
    where
      there : In i (range_with_len 0 many) × (begins_step (item i) ≡ true)
      there = in_from_filter (λ i. begins_step (item i)) (range_with_len 0 many) i j

      never : false ≡ true → ⊥
      never e = cc

      at : (o : Option SetAction) → parent_here i ≡ o → IsFirst i
      at None e = absurd (never (sym (ap (λ o. begins_step (record { set = (item i).set; follows = o })) (ap (follow_at g seat node i) e)) ∙ there.1))
      at (Some t) e = record {
        low = omega (arith, (in_from_range i 0 many there.0).1);
        step = t;
        parent = e;
        first = eqb-true (following g seat t (take i ps)) 0 (sym (ap (λ o. begins_step (record { set = (item i).set; follows = o })) (item_follows i t e)) ∙ there.1);
      }

  -- it follows the step that its step is
  first_moved : (i : ℕ) (p : IsFirst i) (t : SetAction) → p.step ≡ t → parent_here i ≡ Some t
  first_moved i p t e = subst (λ u. parent_here i ≡ Some u) e p.parent

  -- that of the step k
  pub first_at : (k : ℕ) → k < length chosen → IsFirst (get_or chosen k 0)
  first_at k l = first_of (get_or chosen k 0) (in_get_or chosen k 0 l)

  -- an item that follows none of its step before it is one of them
  chosen_has : (i : ℕ) (t : SetAction) → i < many → parent_here i ≡ Some t → following g seat t (take i ps) ≡ 0 → In i chosen
  chosen_has i t l e none =
      in_filter (λ i. begins_step (item i)) (range_with_len 0 many) i (in_range i 0 many (omega arith) (omega (arith, l)))
      (ap (λ o. begins_step (record { set = (item i).set; follows = o })) (item_follows i t e) ∙ eq-eqb (following g seat t (take i ps)) 0 none)

  -- each step has one first item
  chosen_apart : (a b : ℕ) (f : Follow) → In a chosen → In b chosen → (item b).follows ≡ Some f → same_step f (item a) ≡ true → a ≡ b
  chosen_apart a b f i j e same =
      let p = first_of a i in
      let q = first_of b j in
      let is : follow_of b q.step ≡ f = one_follow (follow_of b q.step) f (sym (item_follows b q.step q.parent) ∙ e) in
      let one : p.step ≡ q.step = parent_same a b p.step q.step p.low q.low p.parent q.parent (ap (λ f. same_step f (item a)) is ∙ same) in
      elim (cases_eq a b) [
        | inl e ↦ e
        | inr ne ↦
            elim (cases_lt a b) [
              | inl less ↦ absurd (clash a b q.step less p.low (p.parent ∙ ap (λ t. Some t) one) q.first)
              | inr ge ↦ absurd (clash b a p.step (omega (arith, ge, ne)) q.low (q.parent ∙ ap (λ t. Some t) (sym one)) p.first)
            ]
      ]
    where
      clash : (a b : ℕ) (t : SetAction) → a < b → a < many → parent_here a ≡ Some t → following g seat t (take b ps) ≡ 0 → ⊥
      clash a b t less low e none =
          let some = count_after (λ s. is_taken t (parent g seat s)) ps a b [] less low (ap (is_taken t) e ∙ taken_self t) in
          let counted = length-filter (λ s. is_taken t (parent g seat s)) (take b ps) in
          omega (arith, some, counted, none)

  -- so the step of a first item has its number
  pub first_number : (k : ℕ) → k < length chosen → (f : Follow) → (item (get_or chosen k 0)).follows ≡ Some f → step_number (step_items (path_items g seat node)) f ≡ k
  first_number k l f e =
      ap (λ xs. step_number xs f) steps_are
      ∙ number_of_step item 0 many chosen
      (ascends_filter (λ i. begins_step (item i)) 0 many (range_with_len 0 many) (subst (λ n. Ascends 0 n (range_with_len 0 many)) (zero-add many) (ascends_range 0 many)))
      chosen_apart k l f e

  -- ---- the number of a step

  -- the step that an item follows has a first item, with the same parent
  pub number_low : (i : ℕ) (t : SetAction) → i < many → parent_here i ≡ Some t →
      let k = step_number (step_items (path_items g seat node)) (follow_of i t) in
      (k < length chosen) × (parent_here (get_or chosen k 0) ≡ Some t)
  number_low i t l e =
      let test = λ (s : List Item). is_taken t (parent g seat s) in
      let on : In i (passing test [] ps) = in_filter (λ j. test (get_or ps j [])) (range_with_len 0 many) i (in_range i 0 many (omega arith) (omega (arith, l))) (ap (is_taken t) e ∙ taken_self t) in
      let x = range_begins (λ j. following g seat t (take j ps)) (passing test [] ps) (following g seat t ps) i (follower_places g seat node t) on in
      let there = in_from_filter (λ j. test (get_or ps j [])) (range_with_len 0 many) x.0 x.1 in
      let low : x.0 < many = omega (arith, (in_from_range x.0 0 many there.0).1) in
      let parent_x = parent_taken (parent_here x.0) there.1 in
      let items = step_items (path_items g seat node) in
      let member : In (item x.0) items = subst (In (item x.0)) (sym steps_are) (in_map item chosen x.0 (chosen_has x.0 t low parent_x x.2)) in
      let none : PathItem = record { set = 0; follows = None } in
      let r = number_there items (follow_of i t) (item x.0) none member (same_parent x.0 i t parent_x) in
      let k = step_number items (follow_of i t) in
      let below : k < length chosen = subst (λ n. k < n) steps_many r.0 in
      let p = first_at k below in
      let found : same_step (follow_of i t) (item (get_or chosen k 0)) ≡ true = subst (λ x. same_step (follow_of i t) x ≡ true) (step_item k none below) r.1 in
      let one : p.step ≡ t = parent_same (get_or chosen k 0) i p.step t p.low l p.parent e found in
      (below, first_moved (get_or chosen k 0) p t one)
    where
      parent_taken : (o : Option SetAction) → is_taken t o ≡ true → o ≡ Some t
      parent_taken None q = cc
      parent_taken (Some u) q = ap (λ u. Some u) (taken_is t u q)

  -- an item follows the step k where its parent is that step
  pub number_is : (i : ℕ) (t : SetAction) → i < many → parent_here i ≡ Some t → (k : ℕ) → k < length chosen → (u : SetAction) → parent_here (get_or chosen k 0) ≡ Some u
      → eqb (step_number (step_items (path_items g seat node)) (follow_of i t)) k ≡ is_taken u (Some t)
  number_is i t l e k m u q =
      let items = step_items (path_items g seat node) in
      let number = step_number items (follow_of i t) in
      tests_same (eqb number k) (is_taken u (Some t))
      (λ n. let same = eqb-true number k n in
      let here : parent_here (get_or chosen k 0) ≡ Some t = subst (λ n. parent_here (get_or chosen n 0) ≡ Some t) same (number_low i t l e).1 in
      let one : t ≡ u = one_step t u (sym here ∙ q) in
      subst (λ v. is_taken v (Some t) ≡ true) one (taken_self t))
      (λ n. let one : t ≡ u = taken_is u t n in
      let y = get_or chosen k 0 in
      eq-eqb number k (number_same items (follow_of i t) (follow_of y u) (ap (λ (v : SetAction). path_place g seat node v.set) one) (ap (λ (v : SetAction). v.action) one) ∙ first_number k m (follow_of y u) (item_follows y u q)))

  -- of the items that follow a step one has each place
  pub place_once : (u : SetAction) (place : ℕ) → place < following g seat u ps → count (λ i. is_taken u (parent_here i) && eqb (following g seat u (take i ps)) place) (range_with_len 0 many) ≡ 1
  place_once u place l =
      let here = λ (i : ℕ). following g seat u (take i ps) in
      let family = passing (λ s. is_taken u (parent g seat s)) [] ps in
      count_both (λ i. is_taken u (parent_here i)) (λ i. eqb (here i) place) (range_with_len 0 many)
      ∙ sym (count_map (λ n. eqb n place) here family)
      ∙ ap (count (λ n. eqb n place)) (follower_places g seat node u)
      ∙ count_once place 0 (following g seat u ps) (omega arith) (omega (arith, l))
