-- Histories by their number of steps, and as the program has them.
use Rattle.std.proofs.Common.{◌≡◌, ℕ, zero, suc, ◌+◌, ◌-◌, ◌<◌, ◌≤◌, List, [], ◌∷◌, ◌++◌, length, get_or, map, flat_map, take, drop, Option, Some, refl, sym, ap, ◌∙◌, subst, arith, append_assoc, length-append, ◌⊎◌, inl, inr}
use Rattle.std.proofs.lemmas.List.{length-map, map-append, append-nil, get_or_append_left, get_or-take, get_or-map, drop_more, take-append-le, length-take}
use Rattle.std.proofs.lemmas.Bool.{cases_lt}
use Rattle.std.proofs.Math.Seq.{drop-append_seam}
use Rattle.lab_math.proofs.Members.{in_get_or}
use Rattle.lab_defs_text.specs.Games.{GameModel}
use Rattle.lab_defs_game.specs.Histories as model
use Rattle.lab_defs_game.specs.Laws.{history_cmp}
use Rattle.lab_defs_game.specs.Unfolding.{standing, history_count, unfold_fault, too_many_histories}
use Rattle.lab_defs_game.proofs.GameLemmas.{reached_push}
use Rattle.lab_defs_game.proofs.HistoryCounts.{level, standing_is, with_longer_level, history_count_law}
use Rattle.lab_defs_game.proofs.HistoryOrder.{history_total, history_order_law}
use Rattle.lab_defs_game.proofs.KeyLemmas.{Ascending, ascending_from_sorted}
use Rattle.lab_defs_game.proofs.Legal.{length_push, history_legal}
use Rattle.lab_defs_game.proofs.NumberLemmas.{number_at}
use Rattle.lab_defs_game.proofs.UnfoldLaws.{too_many_law}
use Rattle.lab_unfold.specs.declared.history.HistoryId.{HistoryId}
use Rattle.lab_unfold.specs.declared.history.History.{History}
use Rattle.lab_unfold.specs.declared.history.Step.{Step}
use Rattle.lab_unfold.specs.Values.{step_in, history_number, before_last, last_step, parent_in, history_in}
use Rattle.lab_unfold.specs.Levels.{histories_to, IsFirstOf}
use Rattle.lab_unfold.specs.Children.{child_in, children_in}

-- ---- a step more

-- before the last of some steps
pub before_push : (h : model.History) (s : model.Step) → before_last (h ++ s ∷ []) ≡ h
before_push [] s = refl
before_push (t ∷ []) s = refl
before_push (t ∷ u ∷ h) s = ap (λ k. t ∷ k) (before_push (u ∷ h) s)

-- the last of some steps
pub last_is : (h : model.History) (s : model.Step) → last_step (h ++ s ∷ []) ≡ Some (step_in s)
last_is [] s = refl
last_is (t ∷ []) s = refl
last_is (t ∷ u ∷ h) s = last_is (u ∷ h) s

-- the parent is the history before the last step
pub parent_push : (g : GameModel) (h : model.History) (s : model.Step) → parent_in g (h ++ s ∷ []) ≡ Some (record { 0 = history_number g h })
parent_push g [] s = refl
parent_push g (t ∷ h) s = ap (λ k. Some (record { 0 = history_number g k })) (before_push (t ∷ h) s)

-- a child is the history with one more step
child_is : (g : GameModel) (h : model.History) (s : model.Step)
    → child_in g (record { 0 = history_number g h }) (model.reached g g.root h) (length h + 1) s ≡ history_in g (h ++ s ∷ [])
child_is g h s =
    ap (λ (p : Option HistoryId). made p (Some (step_in s)) (model.outcome_of g (model.reached g g.root h) s).next (length h + 1)) (sym (parent_push g h s))
    ∙ ap (λ (t : Option Step). made (parent_in g (h ++ s ∷ [])) t (model.outcome_of g (model.reached g g.root h) s).next (length h + 1)) (sym (last_is h s))
    ∙ ap (λ n. made (parent_in g (h ++ s ∷ [])) (last_step (h ++ s ∷ [])) n (length h + 1)) (sym (reached_push g g.root h s))
    ∙ ap (made (parent_in g (h ++ s ∷ [])) (last_step (h ++ s ∷ [])) (model.reached g g.root (h ++ s ∷ []))) (long (length_push h s))
  where
    long : length (h ++ s ∷ []) ≡ suc (length h) → length h + 1 ≡ length (h ++ s ∷ [])
    long e = omega (arith, e)

    made : Option HistoryId → Option Step → ℕ → ℕ → History
    made p t n d = record { parent = p; step = t; world = record { 0 = n }; depth = d }

-- the children are the histories with one more step
pub children_longer : (g : GameModel) (h : model.History)
    → children_in g (record { 0 = history_number g h }) (model.reached g g.root h) (length h + 1) ≡ map (history_in g) (model.longer g h)
children_longer g h = by (model.steps_of (model.place_of g h))
  where
    by : (ss : List model.Step) → map (child_in g (record { 0 = history_number g h }) (model.reached g g.root h) (length h + 1)) ss ≡ map (history_in g) (map (λ s. h ++ s ∷ []) ss)
    by [] = refl
    by (s ∷ ss) =
        ap (λ k. k ∷ map (child_in g (record { 0 = history_number g h }) (model.reached g g.root h) (length h + 1)) ss) (child_is g h s)
        ∙ ap (λ ks. history_in g (h ++ s ∷ []) ∷ ks) (by ss)

-- ---- levels

-- the histories of more steps stand behind
behind : (g : GameModel) (t n : ℕ) → (rest : List model.History) × (histories_to g (t + n) ≡ histories_to g t ++ rest)
behind g t zero = let e : t + zero ≡ t = omega arith in ([], ap (histories_to g) e ∙ sym (append-nil (histories_to g t)))
behind g t (suc n) =
    let r = behind g t n in
    let e : t + suc n ≡ suc (t + n) = omega arith in
    (r.0 ++ level g (suc (t + n)), ap (histories_to g) e ∙ with_longer_level g (t + n) ∙ ap (λ hs. hs ++ level g (suc (t + n))) r.1 ∙ append_assoc (histories_to g t) r.0 (level g (suc (t + n))))

-- those of at most t steps come first
pub prefix : (g : GameModel) (t : ℕ) → t ≤ g.horizon → (rest : List model.History) × (model.histories g ≡ histories_to g t ++ rest)
prefix g t l =
    let r = behind g t (g.horizon - t) in
    let e : t + (g.horizon - t) ≡ g.horizon = omega (arith, l) in
    (r.0, ap (histories_to g) (sym e) ∙ r.1)

-- so they have the same places
at_prefix : (g : GameModel) (t i : ℕ) → t ≤ g.horizon → i < length (histories_to g t) → get_or (model.histories g) i [] ≡ get_or (histories_to g t) i []
at_prefix g t i l h = let r = prefix g t l in ap (λ hs. get_or hs i []) r.1 ∙ get_or_append_left (histories_to g t) r.0 [] i h

-- the histories stand in order
pub ascending : (g : GameModel) → Ascending history_cmp (model.histories g)
ascending g = ascending_from_sorted history_cmp (model.histories g) (history_order_law g)

-- a history has the number of its place
pub number_is : (g : GameModel) (i : ℕ) → i < length (model.histories g) → history_number g (get_or (model.histories g) i []) ≡ i
number_is g i h = number_at history_cmp history_total (model.histories g) i [] (ascending g) h

-- likewise among those of at most t steps
number_to : (g : GameModel) (t i : ℕ) → t ≤ g.horizon → i < length (histories_to g t) → history_number g (get_or (histories_to g t) i []) ≡ i
number_to g t i l h =
    let r = prefix g t l in
    ap (history_number g) (sym (at_prefix g t i l h)) ∙ number_is g i (omega (arith, h, ap length r.1, length-append (histories_to g t) r.0))

-- those of t steps come last
front : (g : GameModel) (t : ℕ) → (before : List model.History) × (histories_to g t ≡ before ++ level g t)
front g zero = ([], refl)
front g (suc t) = (histories_to g t, with_longer_level g t)

-- as many places of histories of t steps as histories
pub standing_length : (g : GameModel) (t : ℕ) → length (standing g t) ≡ length (level g t)
standing_length g t = ap length (standing_is g t) ∙ length-map (level g t) (model.reached g g.root)

-- those from the first of t steps on
pub level_drop : (g : GameModel) (t first : ℕ) → IsFirstOf g t first → drop first (histories_to g t) ≡ level g t
level_drop g t first e =
    let b = front g t in
    let n : first ≡ length b.0 = omega (arith, e, standing_length g t, ap length b.1, length-append b.0 (level g t)) in
    ap (λ k. drop k (histories_to g t)) n ∙ ap (drop (length b.0)) b.1 ∙ drop-append_seam b.0 (level g t)

-- with the longer ones of those they are those of at most a step more
pub level_start : (g : GameModel) (t first : ℕ) → IsFirstOf g t first
    → map (history_in g) (histories_to g t) ++ map (history_in g) (flat_map (model.longer g) (drop first (histories_to g t))) ≡ map (history_in g) (histories_to g (t + 1))
level_start g t first e =
    sym (map-append (history_in g) (histories_to g t) (flat_map (model.longer g) (drop first (histories_to g t))))
    ∙ ap (λ hs. map (history_in g) (histories_to g t ++ flat_map (model.longer g) hs)) (level_drop g t first e)
    ∙ ap (map (history_in g)) (sym (with_longer_level g t))
    ∙ ap (λ n. map (history_in g) (histories_to g n)) (next t)
  where
    next : (t : ℕ) → suc t ≡ t + 1
    next t = omega arith

-- of what is left the children of the next history come first
pub level_next : (g : GameModel) (t i : ℕ) (items all : List History) (p : History) → t ≤ g.horizon → i < length (histories_to g t) → p ≡ history_in g (get_or (histories_to g t) i [])
    → items ++ map (history_in g) (flat_map (model.longer g) (drop i (histories_to g t))) ≡ all
    → items ++ (children_in g (record { 0 = i }) p.world.0 (p.depth + 1) ++ map (history_in g) (flat_map (model.longer g) (drop (i + 1) (histories_to g t)))) ≡ all
level_next g t i items all p l h e so_far =
    ap (λ (q : History). items ++ (children_in g (record { 0 = i }) q.world.0 (q.depth + 1) ++ left)) e
    ∙ ap (λ n. items ++ (children_in g (record { 0 = n }) (model.reached g g.root k) (length k + 1) ++ left)) (sym (number_to g t i l h))
    ∙ ap (λ hs. items ++ (hs ++ left)) (children_longer g k)
    ∙ ap (λ hs. items ++ hs) (sym (map-append (history_in g) (model.longer g k) (flat_map (model.longer g) (drop (i + 1) (histories_to g t)))))
    ∙ ap (λ hs. items ++ map (history_in g) (flat_map (model.longer g) hs)) (sym (drop_more (histories_to g t) i [] h))
    ∙ so_far
  where
    k : model.History
    k = get_or (histories_to g t) i []

    left : List History
    left = map (history_in g) (flat_map (model.longer g) (drop (i + 1) (histories_to g t)))

-- what is read while more is added
pub kept_read : (g : GameModel) (t i : ℕ) (items old : List History) (p : History) → p ≡ get_or items i p → take (length old) items ≡ old → old ≡ map (history_in g) (histories_to g t)
    → i < length old → p ≡ history_in g (get_or (histories_to g t) i [])
kept_read g t i items old p read kept e h =
    read ∙ sym (get_or-take (length old) items i p h) ∙ ap (λ hs. get_or hs i p) kept ∙ ap (λ hs. get_or hs i p) e
    ∙ get_or-map (history_in g) (histories_to g t) i [] p (omega (arith, h, ap length e, length-map (histories_to g t) (history_in g)))

-- a history of at most t steps has at most the horizon's
pub depth_small : (g : GameModel) (t i : ℕ) → t ≤ g.horizon → i < length (histories_to g t) → length (get_or (histories_to g t) i []) ≤ g.horizon
depth_small g t i l h =
    let r = prefix g t l in
    subst (λ k. length k ≤ g.horizon) (at_prefix g t i l h)
    (history_legal g (get_or (model.histories g) i []) (in_get_or (model.histories g) i [] (omega (arith, h, ap length r.1, length-append (histories_to g t) r.0)))).1

-- ---- counts

-- as many as are counted
pub kept_count : (g : GameModel) (t : ℕ) (items : List History) → items ≡ map (history_in g) (histories_to g t) → length items ≡ history_count g t
kept_count g t items e = ap length e ∙ length-map (histories_to g t) (history_in g) ∙ history_count_law g t

-- the first of t + 1 steps stands behind those of t steps
pub first_behind : (g : GameModel) (t : ℕ) (items : List History) → items ≡ map (history_in g) (histories_to g t) → IsFirstOf g (t + 1) (length items)
first_behind g t items e =
    let next : suc t ≡ t + 1 = omega arith in
    subst (λ n. IsFirstOf g n (length items)) next
    (omega (arith, ap length e, length-map (histories_to g t) (history_in g), standing_length g (suc t), ap length (with_longer_level g t), length-append (histories_to g t) (level g (suc t))))

-- a limit that is kept up to t, and then
pub few_more : (g : GameModel) (t : ℕ) → ((s : ℕ) → s ≤ t → history_count g s ≤ 65536) → history_count g (t + 1) ≤ 65536 → (s : ℕ) → s ≤ t + 1 → history_count g s ≤ 65536
few_more g t few next s l = at (cases_lt t s)
  where
    at : (t < s) ⊎ (s ≤ t) → history_count g s ≤ 65536
    at (inl h) = let e : t + 1 ≡ s = omega (arith, h, l) in subst (λ n. history_count g n ≤ 65536) e next
    at (inr h) = few s h

-- where they are too many at t + 1 steps first, that is the reason
pub too_many : (g : GameModel) (t : ℕ) → t < g.horizon → ((s : ℕ) → s ≤ t → history_count g s ≤ 65536) → 65536 < length (histories_to g (t + 1)) → unfold_fault g ≡ Some (too_many_histories (t + 1))
too_many g t l few more =
    (too_many_law g (t + 1)).1 ((omega (arith, l), subst (λ n. 65536 < n) (history_count_law g (t + 1)) more, λ s h. few s (omega (arith, h))))

-- what is kept in front is kept when more is added
pub kept_more : (items piece new old : List History) → take (length old) items ≡ old → length old ≤ length items → new ≡ items ++ piece → take (length old) new ≡ old
kept_more items piece new old kept l e = ap (take (length old)) e ∙ take-append-le (length old) items piece l ∙ kept

-- what is kept in front is no longer than all
pub kept_short : (items old : List History) → take (length old) items ≡ old → length old ≤ length items
kept_short items old kept = omega (arith, ap length kept, length-take (length old) items)

-- a number of what is kept is one of the histories
pub kept_below : (g : GameModel) (t i : ℕ) (old : List History) → old ≡ map (history_in g) (histories_to g t) → i < length old → i < length (histories_to g t)
kept_below g t i old e h = omega (arith, h, ap length e, length-map (histories_to g t) (history_in g))
