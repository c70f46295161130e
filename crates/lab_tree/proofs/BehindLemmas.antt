-- The history before the last step of another, and what is seen of that step.
use Rattle.std.proofs.Common.{◌≡◌, ℕ, List, [], ◌∷◌, ◌++◌, reverse, Option, Some, None, sym, ap, ◌∙◌}
use Rattle.std.specs.List.{slice_get}
use Rattle.std.specs.Option.{option_map}
use Rattle.lab_defs_text.specs.Games.{GameModel}
use Rattle.lab_defs_game.specs.Histories as model
use Rattle.lab_defs_game.specs.Sets.{Item, seen, item_of, publics, public_list}
use Rattle.lab_defs_game.proofs.GameLemmas.{seen_push, steps_inner, publics_seen}
use Rattle.lab_defs_game.proofs.Orders.{publics-push}
use Rattle.std.proofs.lemmas.List.{reverse-append, append_assoc}
use Rattle.lab_unfold.specs.declared.history.HistoryId.{HistoryId}
use Rattle.lab_unfold.specs.declared.history.History.{History}
use Rattle.lab_unfold.specs.Values.{Unfolded, unfolded}
use Rattle.lab_unfold.proofs.CallerLemmas.{last_behind, read_parent}
use Rattle.lab_unfold.specs.Parents.{history_at}
use Rattle.lab_tree.specs.Behind.{IsBehind}
use Rattle.lab_unfold.specs.declared.item.Item as program
use Rattle.lab_unfold.specs.Items.{item_model, last_item}

module _ (g : GameModel) (seat i : ℕ) (u : Unfolded) (h : History) (e : u ≡ unfolded g) (found : slice_get u.items i ≡ Some h) where
  -- the history before, with what is seen of the last step
  pub behind_is : (p : HistoryId) (x : program.Item) → h.parent ≡ Some p → option_map item_model (Some x) ≡ last_item (seen g seat (history_at g i)) → IsBehind g seat i p.0 (item_model x)
  behind_is p x named last =
      let b = read_parent g u i h p e found named in
      let y = item_of g seat (model.reached g g.root (history_at g p.0)) b.step in
      record {
        before = b.below;
        inner = steps_inner (model.place_of g (history_at g p.0)) b.step b.legal;
        made = ap (seen g seat) b.made ∙ seen_push g seat g.root (history_at g p.0) b.step ∙ ap (λ z. seen g seat (history_at g p.0) ++ z ∷ []) (sym (one (item_model x) y (last ∙ last_behind g seat i p.0 b)));
      }
    where
      one : (a b : Item) → ◌≡◌ {A = Option Item} (Some a) (Some b) → a ≡ b
      one a b e = cc

  -- where there is a history before, something is seen of the last step
  pub behind_sees : (p : HistoryId) → h.parent ≡ Some p → option_map item_model None ≡ last_item (seen g seat (history_at g i)) → ⊥
  behind_sees p named last =
      let b = read_parent g u i h p e found named in
      never (item_of g seat (model.reached g g.root (history_at g p.0)) b.step) (last ∙ last_behind g seat i p.0 b)
    where
      never : (y : Item) → ◌≡◌ {A = Option Item} None (Some y) → ⊥
      never y e = cc

-- the public list of a history is that of the one before with the last token
pub public_behind : (g : GameModel) (seat n p : ℕ) (x : Item) → IsBehind g seat n p x → public_list g (history_at g n) ≡ public_list g (history_at g p) ++ x.public ∷ []
public_behind g seat n p x b =
    sym (publics_seen g seat g.root (history_at g n)) ∙ ap publics b.made ∙ publics-push (seen g seat (history_at g p)) x
    ∙ ap (λ ts. ts ++ x.public ∷ []) (publics_seen g seat g.root (history_at g p))

-- one token more on the way back
pub token_back : (front before tokens whole : List ℕ) (t : ℕ) → front ≡ before ++ t ∷ [] → front ++ reverse tokens ≡ whole → before ++ reverse (tokens ++ t ∷ []) ≡ whole
token_back front before tokens whole t e w =
    ap (λ r. before ++ r) (reverse-append tokens (t ∷ [])) ∙ sym (append_assoc before (t ∷ []) (reverse tokens)) ∙ ap (λ f. f ++ reverse tokens) (sym e) ∙ w
