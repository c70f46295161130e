-- In an accepted game the opponent comes into a subgame at the sets of its node, which follow none inside.
use Rattle.std.proofs.Common.{◌≡◌, ℕ, ◌+◌, ◌-◌, ◌<◌, ◌≤◌, List, [], ◌∷◌, ◌++◌, true, false, cond, ◌&&◌, Option, Some, None, length, map, get_or, refl, sym, ap, ◌∙◌, subst, arith, inl, inr, ◌⊎◌}
use Rattle.std.proofs.lemmas.Bool.{cases_lt}
use Rattle.std.proofs.lemmas.List.{length-map, get_or_past}
use Rattle.lab_math.proofs.BelowLemmas.{eqb_self}
use Rattle.lab_math.proofs.Members.{in_get_or}
use Rattle.lab_defs_text.specs.Games.{GameModel}
use Rattle.lab_defs_text.specs.Texts.{game_ok}
use Rattle.lab_defs_game.specs.Seats.{IsSeat, grid_of, other}
use Rattle.lab_defs_game.specs.Histories.{reached}
use Rattle.lab_defs_game.specs.Sets.{Item, item_of, seen, sets, set_number, public_list, publics, most_decisions}
use Rattle.lab_defs_game.specs.Forms.{parent_at}
use Rattle.lab_defs_game.specs.Paths.{SetAction, parent}
use Rattle.lab_defs_game.specs.Nodes.{begins, span_from, node_sets, root_sets}
use Rattle.lab_defs_game.specs.Recall.{recall_fault}
use Rattle.lab_defs_game.proofs.Orders.{publics-push}
use Rattle.lab_defs_game.proofs.GameLemmas.{Follows, set_cases, publics_seen}
use Rattle.lab_defs_game.proofs.TreeLaws.{node_set_law}
use Rattle.lab_defs_game.proofs.FormLemmas.{game_actions_length, game_parents_at}
use Rattle.lab_defs_value.specs.Subgames.{weights_inside, parent_inside, span_sets, span_actions, subgame_form}
use Rattle.lab_defs_value.specs.Gadgets.{node_limit}
use Rattle.lab_defs_value.proofs.SubgameForms.{span, place_within, parent_span, parent_follows, subgame_form_law}
use Rattle.lab_defs_value.proofs.GameGadgets.{decides_law, follows_first}
use Rattle.lab_defs_value.proofs.GameStrategies.{other_seat}
use Rattle.lab_rule_laws.specs.Rules.{IsEntered, GameGadgetValueLaw}
use Rattle.lab_rule_laws.proofs.RuleGadgets.{gadget_value_law}

-- a longer list does not begin a shorter one
pub not_begun : (q : List ℕ) (x : ℕ) → begins (q ++ x ∷ []) q ≡ false
not_begun [] x = refl
not_begun (y ∷ q) x = ap (λ b. b && begins (q ++ x ∷ []) q) (eqb_self y) ∙ not_begun q x

module _ (g : GameModel) (seat : ℕ) (node : List ℕ) where
  -- what follows a set and is at the node follows none inside
  at_node_alone : (s : List Item) → (s ≡ []) ⊎ Follows g seat s → publics s ≡ node → parent_inside (span g seat node) (parent g seat s) ≡ None
  at_node_alone s (inl e) here = ap (λ u. parent_inside (span g seat node) (parent g seat u)) e
  at_node_alone s (inr f) here =
      let x = item_of g seat (reached g g.root f.history) f.step in
      let longer : node ≡ public_list g f.history ++ x.public ∷ [] =
      sym here ∙ ap publics f.made ∙ publics-push (seen g seat f.history) x ∙ ap (λ ns. ns ++ x.public ∷ []) (publics_seen g seat g.root f.history) in
      let outside : begins node (public_list g f.history) ≡ false = ap (λ n. begins n (public_list g f.history)) longer ∙ not_begun (public_list g f.history) x.public in
      parent_follows g seat node s f
      ∙ ap (λ b. cond {A = Option SetAction} b (Some (record { set = set_number g seat (seen g seat f.history) - span_from g seat node; action = x.action })) None) outside

  -- so a root set follows none inside
  root_alone : (i : ℕ) → i < length (root_sets g seat node) → i < length (span_actions (span g seat node)) → parent_at (span_sets (span g seat node)) i ≡ None
  root_alone i l there =
      let s = span g seat node in
      let J : ℕ = span_from g seat node + i in
      let within = place_within s i there in
      let low : J < length (sets g seat) = subst (λ n. J < n) (game_actions_length g seat) within.1 in
      let set = get_or (sets g seat) J [] in
      let many = length-map (node_sets g seat node) (set_number g seat) in
      let here = (node_set_law g seat node J low).1 (omega arith, omega (arith, l, many)) in
      parent_span s i there ∙ ap (parent_inside s) (game_parents_at g seat J low) ∙ at_node_alone set (set_cases g seat set (in_get_or (sets g seat) J [] low)) here

  -- wherever it is
  pub root_first : (i : ℕ) → i < length (root_sets g seat node) → parent_at (span_sets (span g seat node)) i ≡ None
  root_first i l = elim (cases_lt i (length (span_actions (span g seat node)))) [
    | inl there ↦ root_alone i l there
    | inr ge ↦ get_or_past (map (λ x. x.parent) (span_sets (span g seat node))) i None (omega (arith, ge, length-map (span_sets (span g seat node)) (λ x. x.parent), length-map (span_sets (span g seat node)) (λ x. x.actions)))
  ]

-- the opponent comes into a subgame at the sets of its node
pub game_entered : (g : GameModel) (keeper seat : ℕ) (node table : List ℕ) → game_ok g ≡ true → recall_fault g ≡ None → IsSeat seat → 1 ≤ length (root_sets g seat node)
    → IsEntered (subgame_form g keeper node table) seat (length (root_sets g seat node))
game_entered g keeper seat node table ok recalls is some = by is some
  where
    Entered : ℕ → Type 0
    Entered k = 1 ≤ length (root_sets g k node) → IsEntered (subgame_form g keeper node table) k (length (root_sets g k node))

    by : IsSeat seat → Entered seat
    by (inl e) = subst Entered (sym e) (λ some. record {
      form = (subgame_form_law g keeper node table ok recalls).0;
      some = some;
      alone = follows_first g 1 node;
      first = λ i l. root_first g 1 node i l;
    })
    by (inr e) = subst Entered (sym e) (λ some. record {
      form = (subgame_form_law g keeper node table ok recalls).1;
      some = some;
      alone = follows_first g 2 node;
      first = λ i l. root_first g 2 node i l;
    })

-- where a seat decides inside the other has a root set
pub some_root : (g : GameModel) (keeper seat : ℕ) (node : List ℕ) → 0 < weights_inside g keeper node → 1 ≤ length (root_sets g seat node)
some_root g keeper seat node some = let l = decides_law g keeper seat node some in let many = length-map (node_sets g seat node) (set_number g seat) in omega (arith, l, many)

-- the law of the gadgets of a game
pub game_gadget_value_law : GameGadgetValueLaw
game_gadget_value_law g rule keeper node table bounds weights ok recalls is some =
    let o = other keeper in
    gadget_value_law rule keeper (length (root_sets g o node)) (most_decisions g o) (grid_of g keeper) (node_limit g rule keeper node table bounds) (subgame_form g keeper node table) weights
    (game_entered g keeper o node table ok recalls (other_seat keeper is) (some_root g keeper o node some))
