-- The sets inside the subgame of a node and above it belong together, so bounds can be settled for it.
use Rattle.std.proofs.Common.{◌≡◌, ℕ, ◌<◌, pos, List, [], ◌∷◌, ◌++◌, length, get_or, Bool, true, false, ◌&&◌, ◌||◌, Option, Some, None, refl, sym, ap, ◌∙◌, subst, inl, inr, ◌⊎◌, zero-add}
use Rattle.std.specs.Prelude.{not, slice_index, ◌≤ℤ◌}
use Rattle.std.proofs.lemmas.Bool.{or_cases, or_parts, or_from, or_left, or_right, and_left, not_from_true}
use Rattle.std.proofs.lemmas.List.FromFn.{length-map-range_with_len, get_or-map-range_with_len}
use Rattle.lab_math.proofs.Members.{in_get_or}
use Rattle.lab_defs_text.specs.Games.{GameModel}
use Rattle.lab_defs_text.specs.Texts.{one_of}
use Rattle.lab_defs_game.specs.Seats.{IsSeat, other}
use Rattle.lab_defs_game.specs.Histories.{reached}
use Rattle.lab_defs_game.specs.Sets.{Item, item_of, seen, publics, sets, set_cmp, set_number}
use Rattle.lab_defs_game.specs.Forms.{form_of, game_sets, game_actions, actions_in, actions_of, sets_of, parent_at, parent_of}
use Rattle.lab_defs_game.specs.Paths.{SetAction, parent}
use Rattle.lab_defs_game.specs.Nodes.{begins, public_of, path_sets, subgame_sets}
use Rattle.lab_defs_game.proofs.NumberLemmas.{at_number}
use Rattle.lab_defs_game.proofs.Orders.{set_total}
use Rattle.lab_defs_game.proofs.GameLemmas.{Follows, set_cases, set_has, sets_ascending, parent_is}
use Rattle.lab_defs_game.proofs.SetNumbers.{begins_itself, path_sets_are, subgame_sets_are}
use Rattle.lab_defs_game.proofs.Ways.{begins_shorter, begins_longer, begins_cases, publics_of}
use Rattle.lab_defs_game.proofs.FormLemmas.{game_actions_length, game_parents_at, set_below}
use Rattle.lab_defs_value.specs.Replies.{strategy_of, reply_sets}
use Rattle.lab_defs_value.specs.BestValues.{IsBest}
use Rattle.lab_defs_value.specs.Bounds.{at, through}
use Rattle.lab_defs_value.specs.Allowances.{Ascends}
use Rattle.lab_defs_value.specs.Settling.{settled, sets_above, settled_bounds}
use Rattle.lab_defs_value.specs.Laws.{IsNear}
use Rattle.lab_defs_value.specs.GameLaws.{GameSettledLaw}
use Rattle.lab_defs_value.proofs.Lying.{lies_filter, lies_below}
use Rattle.lab_defs_value.proofs.Pools.{ascends_filter, path_law}
use Rattle.lab_defs_value.proofs.SettledBounds.{through_followers, settled_law}
use Rattle.lab_defs_value.proofs.GameValues.{form_sets, form_for}

-- what passes one of two tests passes the first, or the second without it
either_apart : (a b : Bool) → (a || (not a && b)) ≡ (a || b)
either_apart true b = refl
either_apart false b = refl

-- ---- the sets near a node

module _ (g : GameModel) (seat : ℕ) (node : List ℕ) where
  -- how many sets the seat has
  abbrev many : ℕ
  many = length (sets g seat)

  -- whether a set is inside the subgame, or above it
  abbrev inside : ℕ → Bool
  inside J = one_of (subgame_sets g seat node) J

  abbrev above : ℕ → Bool
  above J = one_of (sets_above g seat node) J

  -- those above are on the path and not inside
  above_is : (J : ℕ) → above J ≡ (not (inside J) && one_of (path_sets g seat node) J)
  above_is J = lies_filter (λ I. not (inside I)) (path_sets g seat node) J

  -- a set is inside where the node begins its public list, and on the path where this begins the node
  inside_is : (J : ℕ) → J < many → inside J ≡ begins node (public_of g seat J)
  inside_is J l = ap (λ xs. one_of xs J) (subgame_sets_are g seat node) ∙ lies_below (λ I. begins node (public_of g seat I)) many J l

  on_path_is : (J : ℕ) → J < many → one_of (path_sets g seat node) J ≡ begins (public_of g seat J) node
  on_path_is J l = ap (λ xs. one_of xs J) (path_sets_are g seat node) ∙ lies_below (λ I. begins (public_of g seat I) node) many J l

  -- so it is near where either begins the other
  near_is : (J : ℕ) → J < many → (inside J || above J) ≡ (begins node (public_of g seat J) || begins (public_of g seat J) node)
  near_is J l =
      ap (λ b. inside J || b) (above_is J) ∙ either_apart (inside J) (one_of (path_sets g seat node) J)
      ∙ ap (λ b. inside J || b) (on_path_is J l) ∙ ap (λ b. b || begins (public_of g seat J) node) (inside_is J l)

  -- the public list of a set has one token more than that of its parent
  record Longer (I J : ℕ) : Type 0 where
    there : J < many
    last : ℕ
    made : public_of g seat I ≡ public_of g seat J ++ last ∷ []

  longer : (I : ℕ) (t : SetAction) → I < many → parent_at (game_sets g seat) I ≡ Some t → Longer I t.set
  longer I t l e = by (set_cases g seat s (in_get_or (sets g seat) I [] l))
    where
      s : List Item
      s = get_or (sets g seat) I []

      set_of : Option SetAction → ℕ
      set_of None = 0
      set_of (Some u) = u.set

      none : ◌≡◌ {A = Option SetAction} None (Some t) → ⊥
      none e = cc

      by : (s ≡ []) ⊎ Follows g seat s → Longer I t.set
      by (inl q) = absurd (none (sym (ap (parent g seat) q) ∙ sym (game_parents_at g seat I l) ∙ e))
      by (inr f) =
          let number = set_number g seat (seen g seat f.history) in
          let x = item_of g seat (reached g g.root f.history) f.step in
          let same : number ≡ t.set = ap set_of (sym (parent_is g seat s f) ∙ sym (game_parents_at g seat I l) ∙ e) in
          subst (Longer I) same (record {
            there = set_below g seat f.history f.there;
            last = x.public;
            made = publics_of g seat s f
                ∙ ap (λ v. publics v ++ x.public ∷ []) (sym (at_number set_cmp set_total (sets g seat) (seen g seat f.history) [] (sets_ascending g seat) (set_has g seat f.history f.there)));
          })

  -- what follows a set inside is inside
  children_inside : (I : ℕ) (t : SetAction) → I < many → parent_at (game_sets g seat) I ≡ Some t → inside t.set ≡ true → inside I ≡ true
  children_inside I t l e i =
      let r = longer I t l e in
      inside_is I l ∙ ap (begins node) r.made ∙ begins_longer node (public_of g seat t.set) r.last (sym (inside_is t.set r.there) ∙ i)

  -- what a set near follows is near
  parents_near : (I : ℕ) (t : SetAction) → I < many → parent_at (game_sets g seat) I ≡ Some t → (inside I || above I) ≡ true → (inside t.set || above t.set) ≡ true
  parents_near I t l e near =
      let r = longer I t l e in
      near_is t.set r.there ∙ by r (or_cases (begins node (public_of g seat I)) (begins (public_of g seat I) node) (sym (near_is I l) ∙ near))
    where
      P : List ℕ
      P = public_of g seat t.set

      by : Longer I t.set → (begins node (public_of g seat I) ≡ true) ⊎ (begins (public_of g seat I) node ≡ true) → (begins node P || begins P node) ≡ true
      by r (inl b) = cases (begins_cases node P r.last (sym (ap (begins node) r.made) ∙ b))
        where
          cases : (begins node P ≡ true) ⊎ (node ≡ P ++ r.last ∷ []) → (begins node P || begins P node) ≡ true
          cases (inl c) = or_left (begins node P) (begins P node) c
          cases (inr q) = or_right (begins node P) (begins P node) (ap (begins P) q ∙ begins_longer P P r.last (begins_itself P))
      by r (inr b) = or_right (begins node P) (begins P node) (begins_shorter P r.last node (sym (ap (λ q. begins q node) r.made) ∙ b))

-- so the sets inside and above belong together
near_node : (g : GameModel) (keeper : ℕ) → IsSeat (other keeper) → (node table : List ℕ) → IsNear (strategy_of g keeper table) (sets_above g (other keeper) node) (subgame_sets g (other keeper) node)
near_node g keeper is node table =
    let o = other keeper in
    let e : sets_of (form_of g) o ≡ game_sets g o = form_sets g o is in
    let n : length (actions_of (form_of g) o) ≡ length (sets g o) = ap (λ ss. length (actions_in ss)) e ∙ game_actions_length g o in
    let low = λ (I : ℕ) (l : I < length (actions_of (form_of g) o)). subst (λ k. I < k) n l in
    let known = λ (I : ℕ) (t : SetAction) (q : parent_of (form_of g) o I ≡ Some t). sym (ap (λ ss. parent_at ss I) e) ∙ q in
    record {
      in_order = subst (λ k. Ascends 0 k (sets_above g o node)) (sym n) (ascends_filter (λ I. not (one_of (subgame_sets g o node) I)) 0 (length (sets g o)) (path_sets g o node) (path_law g o node));
      apart = λ I i. above_is g o node I ∙ and_left (not (one_of (subgame_sets g o node) I)) (one_of (path_sets g o node) I) (not_from_true (one_of (subgame_sets g o node) I) i);
      children = λ I t l q i. children_inside g o node I t (low I l) (known I t q) i;
      parents = λ I t l q i. parents_near g o node I t (low I l) (known I t q) i;
    }

-- the law of bounds that are settled for the subgame of a node
pub game_settled_law : GameSettledLaw
game_settled_law g ok keeper is node table bounds =
    let o = other keeper in
    let s = strategy_of g keeper table in
    let B = at bounds in
    let C = settled s (sets_above g o node) (subgame_sets g o node) B in
    let there : IsSeat o = other_is is in
    let n : length (reply_sets s) ≡ length (sets g o) = ap (λ ss. length (actions_in ss)) (form_sets g o there) ∙ game_actions_length g o in
    let acts : reply_sets s ≡ game_actions g o = ap actions_in (form_sets g o there) in
    let all = settled_law s (form_for g ok o there) (sets_above g o node) (subgame_sets g o node) (near_node g keeper there node table) B in
    let after = at (settled_bounds g keeper node table bounds) in
    let same : (J : ℕ) → J < length (reply_sets s) → after J ≡ C J = λ J l. get_or-map-range_with_len C 0 (length (sets g o)) J J (pos 0) (subst (λ k. J < k) n l) (zero-add J) in
    let up = λ (J : ℕ) (l : J < length (sets g o)). subst (λ k. J < k) (sym n) l in
    let IsOff = λ (J : ℕ). (J < length (reply_sets s)) × ((one_of (subgame_sets g o node) J || one_of (sets_above g o node) J) ≡ false) in
    let off : (J : ℕ) → IsOff J → (J < length (sets g o)) × (one_of (subgame_sets g o node) J ≡ false) × (one_of (sets_above g o node) J ≡ false) = λ J p.
    let b = or_parts (one_of (subgame_sets g o node) J) (one_of (sets_above g o node) J) p.1 in (subst (λ k. J < k) n p.0, b.0, b.1) in (
      length-map-range_with_len C 0 (length (sets g o)),
      λ J l i. same J (up J l) ∙ all.0 J (up J l) i,
      λ J p. same J (up J p.0) ∙ all.2 J (up J p.0, or_from (one_of (subgame_sets g o node) J) (one_of (sets_above g o node) J) p.1 p.2),
      λ h.
          let holds = all.3 (λ J a p l. h J a (off J p) (subst (λ ns. a < slice_index ns J) acts l)) in
          λ J a l k. subst (λ x. through s after J a ≤ℤ x) (sym (same J l)) (subst (λ x. x ≤ℤ C J) (sym (through_followers s after C J a (λ K m e. same K m))) (holds J a l k)),
      λ h J l. subst (IsBest s J) (sym (same J l)) (all.4 (λ J p. h J (off J p)) J l),
    )
  where
    other_is : IsSeat keeper → IsSeat (other keeper)
    other_is (inl e) = inr (ap other e)
    other_is (inr e) = inl (ap other e)
