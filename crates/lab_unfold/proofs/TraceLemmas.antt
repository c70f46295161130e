-- What is kept of what is seen, a step further.
use Rattle.std.proofs.Common.{◌≡◌, ℕ, ◌<◌, List, [], ◌∷◌, ◌++◌, length, get_or, cond, Bool, true, false, Option, Some, refl, sym, ap, ◌∙◌, arith}
use Rattle.std.proofs.lemmas.List.{map-append, get_or-map}
use Rattle.lab_defs_text.specs.Games.{GameModel}
use Rattle.lab_defs_game.specs.Histories as model
use Rattle.lab_defs_game.specs.Sets as sets
use Rattle.lab_defs_game.proofs.GameLemmas.{seen_push, steps_inner}
use Rattle.lab_unfold.specs.Parents.{history_at, Behind}
use Rattle.lab_unfold.specs.declared.item.Item.{Item}
use Rattle.lab_unfold.specs.declared.link.Kept.{Kept}
use Rattle.lab_unfold.specs.declared.link.Kept.TheVariants.{Public, Tokens, Whole}
use Rattle.lab_unfold.specs.Firsts.{is_inner}
use Rattle.lab_unfold.specs.Items.{item_model, last_item}
use Rattle.lab_unfold.specs.Traces.{item_in, kept_of, counted, kept_list, trace, traces}
use Rattle.lab_unfold.proofs.StepItems.{last_behind}

-- what is kept of a history that counts
pub trace_counted : (g : GameModel) (seat : ℕ) (kept : Kept) (h : model.History) → counted g kept h ≡ true → trace g seat kept h ≡ kept_list kept (sets.seen g seat h)
trace_counted g seat kept h e = ap (λ b. cond b (kept_list kept (sets.seen g seat h)) []) e

-- and of one that does not
pub trace_none : (g : GameModel) (seat : ℕ) (kept : Kept) (h : model.History) → counted g kept h ≡ false → trace g seat kept h ≡ []
trace_none g seat kept h e = ap (λ b. cond b (kept_list kept (sets.seen g seat h)) []) e

-- with no step nothing is seen
pub trace_root : (g : GameModel) (seat : ℕ) (kept : Kept) → trace g seat kept [] ≡ []
trace_root g seat kept = either (counted g kept []) []
  where
    either : (b : Bool) (xs : List Item) → cond b xs xs ≡ xs
    either true xs = refl
    either false xs = refl

-- a history that is not terminal counts
pub inner_counted : (g : GameModel) (kept : Kept) (h : model.History) → is_inner g h ≡ true → counted g kept h ≡ true
inner_counted g Public h e = refl
inner_counted g Tokens h e = e
inner_counted g Whole h e = e

-- what is kept of the history with a number
pub trace_at : (g : GameModel) (seat : ℕ) (kept : Kept) (i : ℕ) → i < length (model.histories g) → get_or (traces g seat kept) i [] ≡ trace g seat kept (history_at g i)
trace_at g seat kept i l = get_or-map (trace g seat kept) (model.histories g) i [] [] l

-- a step further, what is kept of the last item comes behind
pub trace_behind : (g : GameModel) (seat : ℕ) (kept : Kept) (i j : ℕ) (x : Item) → i < length (model.histories g) → (b : Behind g i j) → counted g kept (history_at g i) ≡ true
    → Some (item_model x) ≡ last_item (sets.seen g seat (history_at g i)) → get_or (traces g seat kept) i [] ≡ get_or (traces g seat kept) j [] ++ kept_of kept x ∷ []
trace_behind g seat kept i j x l b c e =
    trace_at g seat kept i l
    ∙ trace_counted g seat kept (history_at g i) c
    ∙ ap (λ h. kept_list kept (sets.seen g seat h)) b.made
    ∙ ap (kept_list kept) (seen_push g seat g.root h b.step)
    ∙ map-append (λ y. kept_of kept (item_in y)) (sets.seen g seat h) (y ∷ [])
    ∙ ap (λ z. kept_list kept (sets.seen g seat h) ++ kept_of kept (item_in z) ∷ []) (sym (inside (item_model x) y (e ∙ last_behind g seat i j b)))
    ∙ ap (λ xs. xs ++ kept_of kept x ∷ [])
    (sym (trace_at g seat kept j (omega (arith, l, b.below)) ∙ trace_counted g seat kept h (inner_counted g kept h (steps_inner (model.place_of g h) b.step b.legal))))
  where
    h : model.History
    h = history_at g j

    y : sets.Item
    y = sets.item_of g seat (model.reached g g.root h) b.step

    inside : (p q : sets.Item) → ◌≡◌ {A = Option sets.Item} (Some p) (Some q) → p ≡ q
    inside p q e = cc
