-- The steps of histories by their parents and last steps.
use Rattle.std.proofs.Common.{◌≡◌, ℕ, ℤ, zero, suc, ◌+◌, ◌<◌, List, [], ◌∷◌, ◌++◌, length, map, take, drop, Option, Some, None, refl, sym, ap, ◌∙◌, subst, arith}
use Rattle.std.specs.Prelude.{IfSome, IfNone}
use Rattle.std.proofs.lemmas.List.{drop_more, take_more, get_or-take, take_all}
use Rattle.std.proofs.Math.ListN.{drop_of_length-le}
use Rattle.std.proofs.lemmas.Option.{slice_get_within, slice_get-get_or, get_or_from_slice_get}
use Rattle.lab_defs_text.specs.Games.{GameModel}
use Rattle.lab_defs_game.specs.Chance.{chance}
use Rattle.lab_defs_game.specs.Histories as model
use Rattle.lab_unfold.specs.declared.history.HistoryId.{HistoryId}
use Rattle.lab_unfold.specs.declared.history.History.{History}
use Rattle.lab_unfold.specs.declared.history.Scale.{Scale}
use Rattle.lab_unfold.specs.declared.history.Step.{Step}
use Rattle.lab_unfold.specs.Firsts.{node_first, set_first}
use Rattle.lab_unfold.specs.Births.{IsChild, TellLonger}
use Rattle.lab_unfold.specs.Values.{step_model, last_step, parent_in, history_in, steps_behind, all_steps, IsLonger, Unfolded, unfolded, scale_in}
use Rattle.lab_unfold.proofs.LevelLemmas.{number_is, last_is, parent_push}
use Rattle.lab_unfold.specs.Parents.{history_at}
use Rattle.lab_unfold.proofs.ParentLemmas.{read_is, read_behind, read_step, step_same, parent_found, no_parent, all_length}

-- the steps of the history with a number, those of the histories before it being known
behind_is : (g : GameModel) (n : ℕ) → n < length (model.histories g) → steps_behind (take n (model.histories g)) (parent_in g (history_at g n)) (last_step (history_at g n)) ≡ history_at g n
behind_is g n l = at (parent_in g (history_at g n)) refl
  where
    known : List model.History
    known = take n (model.histories g)

    at : (p : Option HistoryId) → parent_in g (history_at g n) ≡ p → steps_behind known p (last_step (history_at g n)) ≡ history_at g n
    at None e = sym (no_parent g (history_at g n) e)
    at (Some p) e =
        let b = parent_found g n p l e in
        ap (steps_behind known (Some p)) (ap last_step b.made ∙ last_is (history_at g p.0) b.step)
        ∙ ap (λ h. h ++ b.step ∷ []) (get_or-take n (model.histories g) p.0 [] b.below)
        ∙ sym b.made

-- the steps of the histories from a number on
steps_from : (g : GameModel) (m n : ℕ) → n + m ≡ length (model.histories g) → all_steps (take n (model.histories g)) (map (history_in g) (drop n (model.histories g))) ≡ model.histories g
steps_from g zero n e =
    ap (λ hs. all_steps (take n (model.histories g)) (map (history_in g) hs)) (drop_of_length-le (model.histories g) (omega (arith, e)))
    ∙ take_all n (model.histories g) (omega (arith, e))
steps_from g (suc m) n e =
    let l : n < length (model.histories g) = omega (arith, e) in
    ap (λ hs. all_steps (take n (model.histories g)) (map (history_in g) hs)) (drop_more (model.histories g) n [] l)
    ∙ ap (λ h. all_steps (take n (model.histories g) ++ h ∷ []) (map (history_in g) (drop (n + 1) (model.histories g)))) (behind_is g n l)
    ∙ ap (λ hs. all_steps hs (map (history_in g) (drop (n + 1) (model.histories g)))) (sym (take_more (model.histories g) n [] l))
    ∙ steps_from g m (n + 1) (omega (arith, e))

-- the steps of all histories
pub steps_are : (g : GameModel) (items : List History) → items ≡ map (history_in g) (model.histories g) → all_steps [] items ≡ model.histories g
steps_are g items e = ap (all_steps []) e ∙ steps_from g (length (model.histories g)) 0 (omega arith)

-- parents and last steps tell which history is longer by which step
pub steps_tell : (g : GameModel) (items : List History) → items ≡ map (history_in g) (model.histories g) → TellLonger items
steps_tell g items e id s k l = (there, back)
  where
    told : IsLonger (model.histories g) id.0 s k → IsLonger (all_steps [] items) id.0 s k
    told = subst (λ hs. IsLonger hs id.0 s k) (sym (steps_are g items e))

    there : IsChild items id s k → IsLonger (all_steps [] items) id.0 s k
    there c =
        let below = slice_get_within items k c.0 c.1 in
        let read = get_or_from_slice_get items k c.0 c.0 c.1 in
        let b = read_behind g k items c.0 id e below (ap (λ (h : History). h.parent) read ∙ c.2) in
        let step = step_same s b.step (sym c.3 ∙ sym (ap (λ (h : History). h.step) read) ∙ read_step g k id.0 items c.0 b e below) in
        told ((omega (arith, below, all_length g items e), b.made ∙ ap (λ t. history_at g id.0 ++ t ∷ []) (sym step)))

    back : IsLonger (all_steps [] items) id.0 s k → IsChild items id s k
    back c =
        let d = subst (λ hs. IsLonger hs id.0 s k) (steps_are g items e) c in
        let none : History = record { parent = None; step = None; world = record { 0 = 0 }; depth = 0 } in
        let below : k < length items = omega (arith, d.0, all_length g items e) in
        let here : id.0 < length (model.histories g) = omega (arith, l, all_length g items e) in (
          history_in g (history_at g k),
          slice_get-get_or items k none below ∙ ap (λ h. Some h) (read_is g k items none e below),
          ap (parent_in g) d.1 ∙ parent_push g (history_at g id.0) (step_model s) ∙ ap (λ n. Some (record { 0 = n })) (number_is g id.0 here),
          ap last_step d.1 ∙ last_is (history_at g id.0) (step_model s),
        )

-- a child is the longer history
pub longer_some : (items : List History) (id : HistoryId) (s : Step) (r : Option HistoryId) → TellLonger items → id.0 < length items → IfSome r (λ k. IsChild items id s k.0)
    → IfSome r (λ k. IsLonger (all_steps [] items) id.0 s k.0)
longer_some items id s None tell l c = tt
longer_some items id s (Some k) tell l c = (tell id s k.0 l).0 c

-- and one of the histories
pub child_below : (items : List History) (id : HistoryId) (s : Step) (r : Option HistoryId) → IfSome r (λ k. IsChild items id s k.0) → IfSome r (λ k. k.0 < length items)
child_below items id s None c = tt
child_below items id s (Some k) c = slice_get_within items k.0 c.0 c.1

-- where no child is, no history is longer by the step
pub longer_none : (items : List History) (id : HistoryId) (s : Step) (r : Option HistoryId) → TellLonger items → id.0 < length items → IfNone r ((k : ℕ) → IsChild items id s k → ⊥)
    → IfNone r ((k : ℕ) → IsLonger (all_steps [] items) id.0 s k → ⊥)
longer_none items id s None tell l c = λ k h. c k ((tell id s k l).1 h)
longer_none items id s (Some k) tell l c = tt

-- what is told of the histories
pub record AreTold (g : GameModel) (chances : List ℕ) (payoffs : List ℤ) (nodes sets1 sets2 : List ℕ) : Type 0 where
  pub chances_are : chances ≡ map (chance g) (model.histories g)
  pub payoffs_are : payoffs ≡ map (model.payoff g) (model.histories g)
  pub nodes_are : nodes ≡ map (node_first g) (model.histories g)
  pub first_are : sets1 ≡ map (set_first g 1) (model.histories g)
  pub second_are : sets2 ≡ map (set_first g 2) (model.histories g)

-- what a game unfolds to, from its parts
pub value_is : (g : GameModel) (items : List History) (chances : List ℕ) (payoffs : List ℤ) (nodes sets1 sets2 : List ℕ) (s : Scale) → items ≡ map (history_in g) (model.histories g)
    → AreTold g chances payoffs nodes sets1 sets2 → s ≡ scale_in g
    → ◌≡◌ {A = Unfolded}
    (record { histories = all_steps [] items; items = items; chances = chances; payoffs = payoffs; node_firsts = nodes; set_firsts1 = sets1; set_firsts2 = sets2; scale = s }) (unfolded g)
value_is g items cs ps ns one two s e t k =
    ap (λ hs. made hs items cs ps ns one two s) (steps_are g items e)
    ∙ ap (λ is. made hs is cs ps ns one two s) e
    ∙ ap (λ cs. made hs is cs ps ns one two s) t.chances_are
    ∙ ap (λ ps. made hs is (map (chance g) hs) ps ns one two s) t.payoffs_are
    ∙ ap (λ ns. made hs is (map (chance g) hs) (map (model.payoff g) hs) ns one two s) t.nodes_are
    ∙ ap (λ one. made hs is (map (chance g) hs) (map (model.payoff g) hs) (map (node_first g) hs) one two s) t.first_are
    ∙ ap (λ two. made hs is (map (chance g) hs) (map (model.payoff g) hs) (map (node_first g) hs) (map (set_first g 1) hs) two s) t.second_are
    ∙ ap (made hs is (map (chance g) hs) (map (model.payoff g) hs) (map (node_first g) hs) (map (set_first g 1) hs) (map (set_first g 2) hs)) k
  where
    hs : List model.History
    hs = model.histories g

    is : List History
    is = map (history_in g) hs

    made : List model.History → List History → List ℕ → List ℤ → List ℕ → List ℕ → List ℕ → Scale → Unfolded
    made hs is cs ps ns one two k = record { histories = hs; items = is; chances = cs; payoffs = ps; node_firsts = ns; set_firsts1 = one; set_firsts2 = two; scale = k }
