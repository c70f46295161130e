-- Strategies of an accepted game: they are sound, have best-response values, and tight bounds that hold.
use Rattle.std.proofs.Common.{◌≡◌, ℕ, ◌<◌, ℤ, pos, ◌+ℤ◌, ◌≤ℤ◌, List, [], cond, ◌&&◌, length, get_or, None, sym, ap, ◌∙◌, subst, arith, inl, inr}
use Rattle.std.specs.List.{range_with_len}
use Rattle.std.proofs.lemmas.List.FromFn.{get_or-map-range_with_len}
use Rattle.lab_math.proofs.BelowLemmas.{total_below_cong}
use Rattle.lab_math.proofs.Members.{In, in_get_or, in_from_filter, in_from_range, contains_from_in}
use Rattle.lab_defs_text.specs.Games.{GameModel}
use Rattle.lab_defs_game.specs.Seats.{IsSeat, other}
use Rattle.lab_defs_game.specs.Accepted.{IsAccepted}
use Rattle.lab_defs_game.specs.Sets.{sets, set_cmp}
use Rattle.lab_defs_game.specs.Forms.{form_of, game_actions, actions_of, actions_in, parent_at, parent_of}
use Rattle.lab_defs_game.specs.Paths.{is_taken, parent}
use Rattle.lab_defs_game.specs.Nodes.{begins, public_of, root_sets}
use Rattle.lab_defs_game.proofs.FormLemmas.{game_actions_length, game_parents_at}
use Rattle.lab_defs_game.proofs.GameLemmas.{sets_ascending}
use Rattle.lab_defs_game.proofs.NumberLemmas.{number_at}
use Rattle.lab_defs_game.proofs.Orders.{set_total}
use Rattle.lab_defs_game.proofs.SetNumbers.{root_sets_are}
use Rattle.lab_defs_game.proofs.TreeLaws.{first_set_law}
use Rattle.lab_defs_value.specs.Replies.{strategy_of, opponent, reply_sets}
use Rattle.lab_defs_value.specs.BestValues.{IsBest, best_response_value}
use Rattle.lab_defs_value.specs.Bounds.{at, through, through_rows, Holds, Tight, tight_bounds}
use Rattle.lab_defs_value.specs.Laws.{Sound}
use Rattle.lab_defs_value.proofs.PureReplies.{best_value_law}
use Rattle.lab_defs_value.proofs.GameValues.{form_sets, form_for, some_set}

-- the other seat is one
pub other_seat : (seat : ℕ) → IsSeat seat → IsSeat (other seat)
other_seat seat (inl e) = inr (ap other e)
other_seat seat (inr e) = inl (ap other e)

-- the numbers of actions in the form of a game
pub actions_there : (g : GameModel) (seat : ℕ) → IsSeat seat → actions_of (form_of g) seat ≡ game_actions g seat
actions_there g seat is = ap actions_in (form_sets g seat is)

module _ (g : GameModel) (ok : IsAccepted g) (seat : ℕ) (is : IsSeat seat) where
  -- the opponent's sets
  pub reply_count : length (actions_of (form_of g) (other seat)) ≡ length (sets g (other seat))
  reply_count = ap length (actions_there g (other seat) (other_seat seat is)) ∙ game_actions_length g (other seat)

  -- a strategy is sound
  pub sound : (table : List ℕ) → Sound (strategy_of g seat table)
  sound table = form_for g ok (other seat) (other_seat seat is)

  -- it has a best-response value at each set
  pub best_is : (table : List ℕ) (I : ℕ) → I < length (sets g (other seat)) → IsBest (strategy_of g seat table) I (best_response_value (strategy_of g seat table) I)
  best_is table I l = (best_value_law (strategy_of g seat table) (sound table)).0 I (subst (λ n. I < n) (sym reply_count) l)

  -- which is the tight bound there
  pub at_tight : (table : List ℕ) (I : ℕ) → I < length (sets g (other seat)) → at (tight_bounds g seat table) I ≡ best_response_value (strategy_of g seat table) I
  at_tight table I l = get_or-map-range_with_len (best_response_value (strategy_of g seat table)) 0 (length (sets g (other seat))) I I (pos 0) l (omega arith)

  -- tight bounds hold
  pub tight_holds : (table : List ℕ) → Holds (strategy_of g seat table) (at (tight_bounds g seat table))
  tight_holds table J a l la =
      let s = strategy_of g seat table in
      let B : ℕ → ℤ = at (tight_bounds g seat table) in
      let n = length (reply_sets s) in
      let is_at : (I : ℕ) → I < n → B I ≡ best_response_value s I = λ I k. at_tight table I (subst (λ n. I < n) reply_count k) in
      let same : through s B J a ≡ through s (best_response_value s) J a =
      ap (λ x. x +ℤ through_rows s J a) (total_below_cong n _ (λ I. cond (is_taken (record { set = J; action = a }) (parent_of s.form (opponent s) I)) (best_response_value s I) (pos 0))
      (λ I k. ap (λ x. cond (is_taken (record { set = J; action = a }) (parent_of s.form (opponent s) I)) x (pos 0)) (is_at I k))) in
      subst (λ x. x ≤ℤ B J) (sym same) (subst (λ x. through s (best_response_value s) J a ≤ℤ x) (sym (is_at J l)) ((best_value_law s (sound table)).1.bounds J a l la))

  -- and are tight
  pub tight_tight : (table : List ℕ) → Tight (strategy_of g seat table) (at (tight_bounds g seat table))
  tight_tight table J l =
      let there : J < length (sets g (other seat)) = subst (λ n. J < n) reply_count l in
      subst (IsBest (strategy_of g seat table) J) (sym (at_tight table J there)) (best_is table J there)

  -- the bound of the first set is the best there
  pub tight_best : (table : List ℕ) → IsBest (strategy_of g seat table) 0 (at (tight_bounds g seat table) 0)
  tight_best table = tight_tight table 0 (subst (λ n. 0 < n) (sym reply_count) (some_set g (other seat) ok.good))

-- ---- sets without a parent

-- a set of a game without a parent is set 0
pub no_parent_first : (g : GameModel) (seat : ℕ) → IsSeat seat → (I : ℕ) → I < length (sets g seat) → parent_of (form_of g) seat I ≡ None → I ≡ 0
no_parent_first g seat is I l e =
    let s = get_or (sets g seat) I [] in
    let there = contains_from_in (sets g seat) s (in_get_or (sets g seat) I [] l) in
    let none : parent g seat s ≡ None = sym (game_parents_at g seat I l) ∙ ap (λ ss. parent_at ss I) (sym (form_sets g seat is)) ∙ e in
    let first = first_set_law g seat s there in
    sym (number_at set_cmp set_total (sets g seat) I [] (sets_ascending g seat) l) ∙ first.0.0 (first.1.1 none)

-- the sets at a node are there
pub roots_below : (g : GameModel) (seat : ℕ) (node : List ℕ) (I : ℕ) → In I (root_sets g seat node) → I < length (sets g seat)
roots_below g seat node I i =
    let test = λ (I : ℕ). begins (public_of g seat I) node && begins node (public_of g seat I) in
    let from = in_from_filter test (range_with_len 0 (length (sets g seat))) I (subst (λ xs. In I xs) (root_sets_are g seat node) i) in
    omega (arith, (in_from_range I 0 (length (sets g seat)) from.0).1)
