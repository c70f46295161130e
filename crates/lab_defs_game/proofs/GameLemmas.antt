-- Histories, and what is seen along them.
use Rattle.std.proofs.Common.{◌≡◌, ℕ, zero, suc, ◌<◌, List, [], ◌∷◌, ◌++◌, true, map, flat_map, Option, Some, None, refl, sym, ap, ◌∙◌, subst, inl, inr, ◌⊎◌}
use Rattle.std.proofs.lemmas.List.{append_assoc, append-nil}
use Rattle.std.specs.declared.cmp.Ordering.TheVariants.{Less}
use Rattle.lab_math.proofs.Members.{In, in_append_left, in_append_right, in_append_cases, in_filter, in_from_filter, in_map, in_from_map, in_from_flat_map}
use Rattle.lab_defs_text.specs.Games.{GameModel, Place, a_world, an_end}
use Rattle.lab_defs_text.specs.Texts.{is_world}
use Rattle.lab_defs_game.specs.Keys.{list_cmp}
use Rattle.lab_defs_game.specs.Histories.{History, Step, place_of, reached, outcome_of, steps_of, longer, with_longer, histories, inner_histories}
use Rattle.lab_defs_game.specs.Sets.{Item, item_of, seen, seen_from, public_from, public_list, publics, set_cmp, sets, set_number}
use Rattle.lab_defs_game.specs.Paths.{SetAction, last_after, last_step, taken_from, parent}
use Rattle.lab_defs_game.specs.Nodes.{nodes}
use Rattle.lab_defs_game.proofs.KeyLemmas.{Ascending, in_order_ascending, in_order_has, in_order_from}
use Rattle.lab_defs_game.proofs.NumberLemmas.{number_lt}
use Rattle.lab_defs_game.proofs.Orders.{list_total, list_exact, set_total, set_exact, before_longer}

-- where a history with one more step leads
pub reached_push : (g : GameModel) (w : ℕ) (h : History) (s : Step) → reached g w (h ++ s ∷ []) ≡ (outcome_of g (reached g w h) s).next
reached_push g w [] s = refl
reached_push g w (t ∷ h) s = reached_push g (outcome_of g w t).next h s

-- what is seen with one more step
pub seen_push : (g : GameModel) (seat w : ℕ) (h : History) (s : Step) → seen_from g seat w (h ++ s ∷ []) ≡ seen_from g seat w h ++ item_of g seat (reached g w h) s ∷ []
seen_push g seat w [] s = refl
seen_push g seat w (t ∷ h) s = ap (λ r. item_of g seat w t ∷ r) (seen_push g seat (outcome_of g w t).next h s)

-- the public list with one more step
pub public_push : (g : GameModel) (w : ℕ) (h : History) (s : Step) → public_from g w (h ++ s ∷ []) ≡ public_from g w h ++ (outcome_of g (reached g w h) s).public ∷ []
public_push g w [] s = refl
public_push g w (t ∷ h) s = ap (λ r. (outcome_of g w t).public ∷ r) (public_push g (outcome_of g w t).next h s)

-- what a seat sees tells the public list
pub publics_seen : (g : GameModel) (seat w : ℕ) (h : History) → publics (seen_from g seat w h) ≡ public_from g w h
publics_seen g seat w [] = refl
publics_seen g seat w (t ∷ h) = ap (λ r. (outcome_of g w t).public ∷ r) (publics_seen g seat (outcome_of g w t).next h)

-- histories that a seat sees as one are at one node
pub same_node : (g : GameModel) (seat : ℕ) (h k : History) → seen g seat h ≡ seen g seat k → public_list g h ≡ public_list g k
same_node g seat h k e = sym (publics_seen g seat g.root h) ∙ ap publics e ∙ publics_seen g seat g.root k

-- a history that is one legal step longer than one of the list
pub record Longer (g : GameModel) (hs : List History) (h : History) : Type 0 where
  pub before : History
  pub step : Step
  pub made : h ≡ before ++ step ∷ []
  pub there : In before hs
  pub legal : In step (steps_of (place_of g before))

-- of histories and longer ones each was there, or is a longer one
pub with_longer_cases : (g : GameModel) (n : ℕ) (hs : List History) (h : History) → In h (with_longer g n hs) → In h hs ⊎ Longer g (with_longer g n hs) h
with_longer_cases g zero hs h i = inl i
with_longer_cases g (suc n) hs h i = at (in_append_cases hs (with_longer g n (flat_map (longer g) hs)) h i) (λ j. with_longer_cases g n (flat_map (longer g) hs) h j)
  where
    next : In h (flat_map (longer g) hs) ⊎ Longer g (with_longer g n (flat_map (longer g) hs)) h → In h hs ⊎ Longer g (with_longer g (suc n) hs) h
    next (inl j) =
        let b = in_from_flat_map (longer g) hs h j in
        let s = in_from_map (λ s. b.0 ++ s ∷ []) (steps_of (place_of g b.0)) h b.2 in
        inr (record { before = b.0; step = s.0; made = sym s.2; there = in_append_left hs (with_longer g n (flat_map (longer g) hs)) b.0 b.1; legal = s.1 })
    next (inr r) = inr (record { before = r.before; step = r.step; made = r.made; there = in_append_right hs (with_longer g n (flat_map (longer g) hs)) r.before r.there; legal = r.legal })

    at : In h hs ⊎ In h (with_longer g n (flat_map (longer g) hs))
        → (In h (with_longer g n (flat_map (longer g) hs)) → In h (flat_map (longer g) hs) ⊎ Longer g (with_longer g n (flat_map (longer g) hs)) h)
        → In h hs ⊎ Longer g (with_longer g (suc n) hs) h
    at (inl j) rest = inl j
    at (inr j) rest = next (rest j)

-- a history is empty, or one legal step longer than another
pub history_cases : (g : GameModel) (h : History) → In h (histories g) → (h ≡ []) ⊎ Longer g (histories g) h
history_cases g h i = at (with_longer_cases g g.horizon ([] ∷ []) h i)
  where
    at : In h ([] ∷ []) ⊎ Longer g (histories g) h → (h ≡ []) ⊎ Longer g (histories g) h
    at (inl (inl e)) = inl (sym e)
    at (inl (inr j)) = absurd j
    at (inr r) = inr r

-- where a step is legal, no end is
pub steps_inner : (p : Place) (s : Step) → In s (steps_of p) → is_world p ≡ true
steps_inner (an_end z) s i = absurd i
steps_inner (a_world w) s i = refl

-- what is not terminal is a history
pub inner_from : (g : GameModel) (h : History) → In h (inner_histories g) → In h (histories g)
inner_from g h i = (in_from_filter (λ h. is_world (place_of g h)) (histories g) h i).0

-- a history that leads to a world is not terminal
pub inner_has : (g : GameModel) (h : History) → In h (histories g) → is_world (place_of g h) ≡ true → In h (inner_histories g)
inner_has g h i e = in_filter (λ h. is_world (place_of g h)) (histories g) h i e

-- before a legal step no history is terminal
pub before_inner : (g : GameModel) (h : History) → (r : Longer g (histories g) h) → In r.before (inner_histories g)
before_inner g h r = inner_has g r.before r.there (steps_inner (place_of g r.before) r.step r.legal)

-- the sets are what is seen along the histories that are no ends
pub set_has : (g : GameModel) (seat : ℕ) (h : History) → In h (inner_histories g) → In (seen g seat h) (sets g seat)
set_has g seat h i = in_order_has set_cmp set_exact (map (seen g seat) (inner_histories g)) (seen g seat h) (in_map (seen g seat) (inner_histories g) h i)

-- each set is what is seen along a history that is not terminal
pub set_from : (g : GameModel) (seat : ℕ) (s : List Item) → In s (sets g seat) → (h : History) × In h (inner_histories g) × (seen g seat h ≡ s)
set_from g seat s i = in_from_map (seen g seat) (inner_histories g) s (in_order_from set_cmp (map (seen g seat) (inner_histories g)) s i)

-- the sets stand in order
pub sets_ascending : (g : GameModel) (seat : ℕ) → Ascending set_cmp (sets g seat)
sets_ascending g seat = in_order_ascending set_cmp set_total (map (seen g seat) (inner_histories g))

-- the nodes stand in order
pub nodes_ascending : (g : GameModel) → Ascending list_cmp (nodes g)
nodes_ascending g = in_order_ascending list_cmp list_total (map (public_list g) (histories g))

-- the public list of a history is a node
pub node_has : (g : GameModel) (h : History) → In h (histories g) → In (public_list g h) (nodes g)
node_has g h i = in_order_has list_cmp list_exact (map (public_list g) (histories g)) (public_list g h) (in_map (public_list g) (histories g) h i)

-- what was seen, but for the last item_of, is a set
pub record Follows (g : GameModel) (seat : ℕ) (s : List Item) : Type 0 where
  pub history : History
  pub step : Step
  pub there : In history (inner_histories g)
  pub legal : In step (steps_of (place_of g history))
  pub made : s ≡ seen g seat history ++ item_of g seat (reached g g.root history) step ∷ []

-- what is seen is nothing, or follows a set
pub seen_cases : (g : GameModel) (seat : ℕ) (h : History) → In h (histories g) → (seen g seat h ≡ []) ⊎ Follows g seat (seen g seat h)
seen_cases g seat h i = at (history_cases g h i)
  where
    at : (h ≡ []) ⊎ Longer g (histories g) h → (seen g seat h ≡ []) ⊎ Follows g seat (seen g seat h)
    at (inl e) = inl (ap (seen g seat) e)
    at (inr r) = inr (record { history = r.before; step = r.step; there = before_inner g h r; legal = r.legal; made = ap (seen g seat) r.made ∙ seen_push g seat g.root r.before r.step })

-- a set is the first, or follows a set
pub set_cases : (g : GameModel) (seat : ℕ) (s : List Item) → In s (sets g seat) → (s ≡ []) ⊎ Follows g seat s
set_cases g seat s i =
    let r = set_from g seat s i in
    subst (λ t. (t ≡ []) ⊎ Follows g seat t) r.2 (seen_cases g seat r.0 (inner_from g r.0 r.1))

-- the last step of a path with one more step is that step
pub last_after_push : (before : Option SetAction) (p : List SetAction) (t : SetAction) → last_after before (p ++ t ∷ []) ≡ Some t
last_after_push before [] t = refl
last_after_push before (u ∷ p) t = last_after_push (Some u) p t

-- with one more item one more set and action are taken
pub taken_push : (number : List Item → ℕ) (done xs : List Item) (x : Item)
    → taken_from number done (xs ++ x ∷ []) ≡ taken_from number done xs ++ record { set = number (done ++ xs); action = x.action } ∷ []
taken_push number done [] x = ap (λ d. record { set = number d; action = x.action } ∷ []) (sym (append-nil done))
taken_push number done (y ∷ xs) x =
    ap (λ t. record { set = number done; action = y.action } ∷ t)
    (taken_push number (done ++ y ∷ []) xs x
    ∙ ap (λ d. taken_from number (done ++ y ∷ []) xs ++ record { set = number d; action = x.action } ∷ []) (append_assoc done (y ∷ []) xs))

-- the set before the last item, and the action there
pub last_push : (number : List Item → ℕ) (done xs : List Item) (x : Item)
    → last_step (taken_from number done (xs ++ x ∷ [])) ≡ Some (record { set = number (done ++ xs); action = x.action })
last_push number done xs x = ap last_step (taken_push number done xs x) ∙ last_after_push None (taken_from number done xs) (record { set = number (done ++ xs); action = x.action })

-- the parent of a set is the set that it follows
pub parent_is : (g : GameModel) (seat : ℕ) (s : List Item) → (f : Follows g seat s)
    → parent g seat s ≡ Some (record { set = set_number g seat (seen g seat f.history); action = (item_of g seat (reached g g.root f.history) f.step).action })
parent_is g seat s f = ap (parent g seat) f.made ∙ last_push (set_number g seat) [] (seen g seat f.history) (item_of g seat (reached g g.root f.history) f.step)

-- the set before has a lower number
pub parent_before : (g : GameModel) (seat : ℕ) (s : List Item) → (f : Follows g seat s) → set_number g seat (seen g seat f.history) < set_number g seat s
parent_before g seat s f =
    number_lt set_cmp set_total (sets g seat) (seen g seat f.history) s (sets_ascending g seat) (set_has g seat f.history f.there)
    (subst (λ t. set_cmp (seen g seat f.history) t ≡ Less) (sym f.made) (before_longer (seen g seat f.history) (item_of g seat (reached g g.root f.history) f.step)))
