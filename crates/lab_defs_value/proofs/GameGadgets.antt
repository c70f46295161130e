-- In an accepted game a gadget is a form: the opponent comes into a subgame at the sets of its node.
use Rattle.std.proofs.Common.{◌≡◌, ℕ, ◌+◌, ◌-◌, ◌<◌, ◌≤◌, List, [], ◌∷◌, length, get_or, Bool, true, false, cond, Option, Some, None, refl, sym, ap, ◌∙◌, subst, arith, inl, inr, ◌⊎◌}
use Rattle.std.proofs.lemmas.List.{length-map}
use Rattle.lab_math.proofs.Members.{in_get_or}
use Rattle.lab_defs_text.specs.Games.{GameModel}
use Rattle.lab_defs_game.specs.Seats.{IsSeat}
use Rattle.lab_defs_game.specs.Histories.{reached}
use Rattle.lab_defs_game.specs.Sets.{Item, item_of, seen, sets, set_number, public_list, publics, most_decisions}
use Rattle.lab_defs_game.specs.Forms.{parent_at}
use Rattle.lab_defs_game.specs.Paths.{SetAction, parent}
use Rattle.lab_defs_game.specs.Nodes.{begins, span_from, span_to, node_sets, sets_inside, root_sets}
use Rattle.lab_defs_game.proofs.NumberLemmas.{length-filter}
use Rattle.lab_defs_game.proofs.GameLemmas.{Follows, set_cases, publics_seen}
use Rattle.lab_defs_game.proofs.Spans.{span_is}
use Rattle.lab_defs_game.proofs.Ways.{inside_parent}
use Rattle.lab_defs_game.proofs.TreeLaws.{node_set_law}
use Rattle.lab_defs_game.proofs.FormLemmas.{game_actions_length, game_parents_at}
use Rattle.lab_defs_game.proofs.RootSets.{root_law}
use Rattle.lab_defs_value.specs.Parents.{IsForm}
use Rattle.lab_defs_value.specs.Tables.{first_weight}
use Rattle.lab_defs_value.specs.Subgames.{span_sets, span_actions, parent_inside, subgame_form}
use Rattle.lab_defs_value.specs.Gadgets.{node_limit, gadget_form}
use Rattle.lab_defs_value.specs.MatchingLaws.{GameGadgetLaw}
use Rattle.lab_defs_value.specs.GameLaws.{DecidesLaw}
use Rattle.lab_defs_value.proofs.GadgetForms.{gadget_form_law}
use Rattle.lab_defs_value.proofs.SubgameForms.{span, place_within, parent_span, parent_follows, subgame_form_law}

-- ---- the sets at a node

-- where there is a weight there is a set
some_set : (ns : List ℕ) → 0 < first_weight ns (length ns) → 0 < length ns
some_set [] l = l
some_set (n ∷ ns) l = omega arith

-- the law of the sets at a node where a seat decides inside
pub decides_law : DecidesLaw
decides_law g seat o node some =
    let s = span g seat node in
    let there : 0 < length (span_actions s) = some_set (span_actions s) some in
    let within = place_within s 0 there in
    let many : length (sets_inside g seat node) ≡ span_to g seat node - span_from g seat node = length-filter (λ s. begins node (publics s)) (sets g seat) ∙ omega arith in
    root_law g seat o node (omega (arith, many, within.0))

module _ (g : GameModel) (seat : ℕ) (node : List ℕ) where
  -- a set of the subgame without a parent there is at the node
  at_node : (s : List Item) → (s ≡ []) ⊎ Follows g seat s → begins node (publics s) ≡ true → parent_inside (span g seat node) (parent g seat s) ≡ None → publics s ≡ node
  at_node s (inl e) inside none = ap publics e ∙ root node (ap (λ u. begins node (publics u)) (sym e) ∙ inside)
    where
      root : (n : List ℕ) → begins n [] ≡ true → [] ≡ n
      root [] e = refl
      root (x ∷ n) e = cc
  at_node s (inr f) inside none = at (inside_parent g seat node s f inside)
    where
      t : SetAction
      t = record { set = set_number g seat (seen g seat f.history) - (span g seat node).start; action = (item_of g seat (reached g g.root f.history) f.step).action }

      never : (b : Bool) → b ≡ true → cond {A = Option SetAction} b (Some t) None ≡ None → ⊥
      never true q e = cc
      never false q e = cc

      at : (begins node (publics (seen g seat f.history)) ≡ true) ⊎ (node ≡ publics s) → publics s ≡ node
      at (inl b) = absurd (never (begins node (public_list g f.history)) (ap (begins node) (sym (publics_seen g seat g.root f.history)) ∙ b) (sym (parent_follows g seat node s f) ∙ none))
      at (inr e) = sym e

  -- so it is one of the first of its span
  pub follows_first : (I : ℕ) → I < length (span_actions (span g seat node)) → parent_at (span_sets (span g seat node)) I ≡ None → I < length (root_sets g seat node)
  follows_first I l none =
      let J = span_from g seat node + I in
      let within = place_within (span g seat node) I l in
      let low : J < length (sets g seat) = subst (λ n. J < n) (game_actions_length g seat) within.1 in
      let s = get_or (sets g seat) J [] in
      let inside = (span_is g seat node J [] low).1 (omega arith, within.0) in
      let outside = ap (parent_inside (span g seat node)) (sym (game_parents_at g seat J low)) ∙ sym (parent_span (span g seat node) I l) ∙ none in
      let range = (node_set_law g seat node J low).0 (at_node s (set_cases g seat s (in_get_or (sets g seat) J [] low)) inside outside) in
      let many = length-map (node_sets g seat node) (set_number g seat) in
      omega (arith, range.1, many)

-- ---- the gadget

-- the law of gadgets of a game as forms
pub game_gadget_law : GameGadgetLaw
game_gadget_law g rule keeper node table bounds ok recalls is some = by is
  where
    Good : ℕ → Type 0
    Good k = IsForm (gadget_form g rule k node table bounds) 1 × IsForm (gadget_form g rule k node table bounds) 2

    root : (o : ℕ) → 1 ≤ length (root_sets g o node)
    root o = let e = length-map (node_sets g o node) (set_number g o) in let l = decides_law g keeper o node some in omega (arith, e, l)

    by : IsSeat keeper → Good keeper
    by (inl e) =
        let f = subgame_form_law g 1 node table ok recalls in
        let h = gadget_form_law rule 1 (length (root_sets g 2 node)) (most_decisions g 2) (node_limit g rule 1 node table bounds) (subgame_form g 1 node table) in
        subst Good (sym e) (h.0 f.0, h.1 f.1 (root 2) (follows_first g 2 node))
    by (inr e) =
        let f = subgame_form_law g 2 node table ok recalls in
        let h = gadget_form_law rule 2 (length (root_sets g 1 node)) (most_decisions g 1) (node_limit g rule 2 node table bounds) (subgame_form g 2 node table) in
        subst Good (sym e) (h.1 f.0 (root 1) (follows_first g 1 node), h.0 f.1)
