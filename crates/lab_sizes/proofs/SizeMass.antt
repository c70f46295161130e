-- Masses: the chance of each row by a seat's table, and what replies earn of them.
use Rattle.std.proofs.Common.{◌≡◌, ℕ, ◌+◌, ◌*◌, ◌-◌, ◌^◌, ◌<◌, ◌≤◌, ℤ, pos, neg_ℤ, ◌*ℤ◌, ◌≤ℤ◌, List, [], ◌∷◌, Bool, true, false, cond, eqb, length, map, max, refl, sym, ap, ◌∙◌, subst, arith, mul-le-mul, le_of_eq}
use Rattle.std.specs.Prelude.{unsigned_abs}
use Rattle.std.specs.List.{All, AllByRecursion}
use Rattle.std.proofs.lemmas.Int.{ints, unsigned_abs-mul}
use Rattle.std.proofs.lemmas.List.Elements.{recursion_from_All, All-from_recursion}
use Rattle.lab_math.specs.Sums.{total, sum_over, greatest_over}
use Rattle.lab_math.proofs.SumLemmas.{total-map}
use Rattle.lab_math.proofs.NaturalSums.{greatest_over-least}
use Rattle.lab_math.proofs.Members.{In, all_from_in}
use Rattle.lab_math.proofs.Totals.{total_filter, total_size, sum_over-mul}
use Rattle.lab_math.proofs.Integers.{pos-mul, one_mul_z}
use Rattle.lab_defs_text.specs.Games.{GameModel}
use Rattle.lab_defs_game.specs.Histories.{History, terminal_histories, payoff}
use Rattle.lab_defs_game.specs.Sets.{most_decisions}
use Rattle.lab_defs_game.specs.Chance.{chance}
use Rattle.lab_defs_game.specs.Forms.{Row, Form, form_of, row_along, game_sets, game_actions, sets_of, actions_of, path_of, pad_of, deciding}
use Rattle.lab_defs_game.specs.Nodes.{ends_by_nodes}
use Rattle.lab_defs_game.proofs.Groups.{ends_from}
use Rattle.lab_defs_game.specs.Paths.{SetAction, path_along}
use Rattle.lab_defs_game.specs.Unfolding.{top_payoff}
use Rattle.lab_defs_value.specs.Tables.{own_weight}
use Rattle.lab_defs_game.specs.Seats.{grid_of, other}
use Rattle.lab_defs_value.specs.Parents.{passes_through, IsChain, IsForm}
use Rattle.lab_defs_value.specs.Replies.{Strategy, Reply, strategy_of, worth_to, worth_against, reply_sets, reply_factors, tail, earned}
use Rattle.lab_defs_value.specs.BestValues.{IsBest, best_response_value}
use Rattle.lab_defs_value.proofs.Bests.{one_pow}
use Rattle.lab_defs_value.proofs.PureReplies.{best_value_law}

-- ---- the form of masses

-- the row of a history that is worth its chance to a seat
abbrev pub mass_row : GameModel → ℕ → History → Row
mass_row g seat h = record {
  worth = worth_to seat (pos (chance g h));
  path1 = path_along g 1 h;
  path2 = path_along g 2 h;
  pad1 = most_decisions g 1 - deciding (game_actions g 1) (path_along g 1 h);
  pad2 = most_decisions g 2 - deciding (game_actions g 2) (path_along g 2 h);
}

-- a game's form where each row is worth its chance to a seat
abbrev pub mass_form : GameModel → ℕ → Form
mass_form g seat = record { sets1 = game_sets g 1; sets2 = game_sets g 2; rows = map (mass_row g seat) (ends_by_nodes g) }

-- a table of a keeper there, where the other seat earns the chances
abbrev pub mass_of : GameModel → ℕ → List ℕ → Strategy
mass_of g keeper table = record { form = mass_form g (other keeper); keeper = keeper; grid = grid_of g keeper; table = table }

-- what holds of the rows of the game's form holds of its rows, where it speaks of paths and pads
pub rows_same : (g : GameModel) (o : ℕ) (P : Row → Type 0) → ((h : History) → P (row_along g h) → P (mass_row g o h)) → All P (form_of g).rows → All P (mass_form g o).rows
rows_same g o P same all =
    let hs = ends_by_nodes g in
    All-from_recursion P (map (mass_row g o) hs) (over hs (recursion_from_All P (map (row_along g) hs) all))
  where
    over : (hs : List History) → AllByRecursion P (map (row_along g) hs) → AllByRecursion P (map (mass_row g o) hs)
    over [] a = tt
    over (h ∷ hs) a = (same h a.0, over hs a.1)

-- it is a form where the game is one
pub mass_is_form : (g : GameModel) (o seat : ℕ) → IsForm (form_of g) seat → IsForm (mass_form g o) seat
mass_is_form g o seat ok = record {
  some_action = ok.some_action;
  parents = ok.parents;
  paths = rows_same g o (λ (z : Row). IsChain (sets_of (form_of g) seat) (path_of z seat)) (λ h c. c) ok.paths;
}

-- a reply brings as many factors
pub factors_over : (g : GameModel) (o seat : ℕ) (ns : List ℕ) (hs : List History)
    → greatest_over (λ z. deciding ns (path_of z seat) + pad_of z seat) (map (mass_row g o) hs) ≡ greatest_over (λ z. deciding ns (path_of z seat) + pad_of z seat) (map (row_along g) hs)
factors_over g o seat ns [] = refl
factors_over g o seat ns (h ∷ hs) = ap (λ t. max (deciding ns (path_of (row_along g h) seat) + pad_of (row_along g h) seat) t) (factors_over g o seat ns hs)

-- ---- numbers

-- a worth twice turned is itself
twice : (b : Bool) (w : ℤ) → cond b (cond b w (neg_ℤ w)) (neg_ℤ (cond b w (neg_ℤ w))) ≡ w
twice true w = refl
twice false w = omega (arith, ints)

-- a worth is as large to either seat
pub turned_size : (b : Bool) (w : ℤ) → unsigned_abs (cond b w (neg_ℤ w)) ≡ unsigned_abs w
turned_size true w = refl
turned_size false w = omega (arith, ints)

-- a sum of natural numbers as one of integers
pub total_pos : {X : Type 0} (f : X → ℤ) (h : X → ℕ) (xs : List X) → ((x : X) → f x ≡ pos (h x)) → total f xs ≡ pos (sum_over h xs)
total_pos f h [] e = refl
total_pos f h (x ∷ xs) e = omega (arith, ints, e x, total_pos f h xs e)

-- no payoff of a terminal history is above the top payoff
pub payoff_top : (g : GameModel) (h : History) → In h (ends_by_nodes g) → unsigned_abs (payoff g h) ≤ top_payoff g
payoff_top g h i = greatest_over-least (λ h. unsigned_abs (payoff g h)) (terminal_histories g) h (ends_from g h i)

-- ---- what replies earn

module _ (g : GameModel) (keeper : ℕ) (table : List ℕ) where
  abbrev played : Strategy
  played = strategy_of g keeper table

  abbrev masses : Strategy
  masses = mass_of g keeper table

  -- the opponent's path
  abbrev theirs : History → List SetAction
  theirs h = path_of (row_along g h) (other keeper)

  -- the chance of a history by the keeper's table
  abbrev pub mass : History → ℕ
  mass h = chance g h * own_weight (grid_of g keeper) (actions_of (form_of g) keeper) table (path_of (row_along g h) keeper) (pad_of (row_along g h) keeper)

  -- what a reply brings of it at a set
  abbrev pub gain : Reply → ℕ → History → ℕ
  gain r I h = cond (passes_through I (theirs h)) (mass h * tail (reply_sets masses) (reply_factors masses) r I (theirs h)) 0

  -- what a row of masses is worth
  pub worth_mass : (h : History) → worth_against masses (mass_row g (other keeper) h) ≡ pos (mass h)
  worth_mass h =
      let own = own_weight (grid_of g keeper) (actions_of (form_of g) keeper) table (path_of (row_along g h) keeper) (pad_of (row_along g h) keeper) in
      ap (λ w. w *ℤ pos own) (twice (eqb (other keeper) 1) (pos (chance g h))) ∙ sym (pos-mul (chance g h) own)

  -- what a reply earns of the masses
  pub mass_earned : (r : Reply) (I : ℕ) → earned masses r I ≡ pos (sum_over (gain r I) (ends_by_nodes g))
  mass_earned r I =
      let hs = ends_by_nodes g in
      let R = mass_row g (other keeper) in
      let t = λ (z : Row). tail (reply_sets masses) (reply_factors masses) r I (path_of z (other keeper)) in
      let P = λ (z : Row). passes_through I (path_of z (other keeper)) in
      let F = λ (z : Row). worth_against masses z *ℤ pos (t z) in
      total_filter P F (map R hs)
      ∙ total-map (λ z. cond (P z) (F z) (pos 0)) R hs
      ∙ total_pos (λ h. cond (P (R h)) (F (R h)) (pos 0)) (gain r I) hs (λ h. each (passes_through I (theirs h)) (worth_against masses (R h)) (mass h) (t (R h)) (worth_mass h))
    where
      each : (b : Bool) (w : ℤ) (m t : ℕ) → w ≡ pos m → cond b (w *ℤ pos t) (pos 0) ≡ pos (cond b (m * t) 0)
      each true w m t e = ap (λ x. x *ℤ pos t) e ∙ sym (pos-mul m t)
      each false w m t e = refl

  -- a row is worth at most the top payoff times its mass
  pub worth_size : (h : History) → unsigned_abs (payoff g h) ≤ top_payoff g → unsigned_abs (worth_against played (row_along g h)) ≤ top_payoff g * mass h
  worth_size h le =
      let own = own_weight (grid_of g keeper) (actions_of (form_of g) keeper) table (path_of (row_along g h) keeper) (pad_of (row_along g h) keeper) in
      let w = worth_to (other keeper) (pos (chance g h) *ℤ payoff g h) in
      let size : unsigned_abs (w *ℤ pos own) ≡ unsigned_abs w * own = unsigned_abs-mul w (pos own) in
      let same : unsigned_abs w ≡ chance g h * unsigned_abs (payoff g h) = turned_size (eqb (other keeper) 1) (pos (chance g h) *ℤ payoff g h) ∙ unsigned_abs-mul (pos (chance g h)) (payoff g h) in
      subst (λ x. x ≤ top_payoff g * mass h) (sym (size ∙ ap (λ x. x * own) same)) (bound (chance g h) (unsigned_abs (payoff g h)) (top_payoff g) own le)
    where
      bound : (c p u o : ℕ) → p ≤ u → (c * p) * o ≤ u * (c * o)
      bound c p u o le =
          let l : p * (c * o) ≤ u * (c * o) = mul-le-mul le (le_of_eq refl) in
          let e : (c * p) * o ≡ p * (c * o) = omega arith in
          omega (arith, l, e)

  -- the factors are those of the game's form
  factors_same : reply_factors masses ≡ reply_factors played
  factors_same = factors_over g (other keeper) (other keeper) (actions_of (form_of g) (other keeper)) (ends_by_nodes g)

  -- what a reply earns is at most the top payoff times what it earns of the masses
  pub earned_size : (r : Reply) (I : ℕ) → unsigned_abs (earned played r I) ≤ top_payoff g * sum_over (gain r I) (ends_by_nodes g)
  earned_size r I =
      let hs = ends_by_nodes g in
      let R = row_along g in
      let m = reply_factors played in
      let t = λ (z : Row). tail (reply_sets played) m r I (path_of z (other keeper)) in
      let P = λ (z : Row). passes_through I (path_of z (other keeper)) in
      let F = λ (z : Row). worth_against played z *ℤ pos (t z) in
      let all : earned played r I ≡ total (λ h. cond (P (R h)) (F (R h)) (pos 0)) hs = total_filter P F (map R hs) ∙ total-map (λ z. cond (P z) (F z) (pos 0)) R hs in
      let sizes = total_size (λ h. unsigned_abs (payoff g h) ≤ top_payoff g) (λ h. cond (P (R h)) (F (R h)) (pos 0)) (λ h. top_payoff g * gain r I h) hs
      (All-from_recursion (λ h. unsigned_abs (payoff g h) ≤ top_payoff g) hs (all_from_in (λ h. unsigned_abs (payoff g h) ≤ top_payoff g) hs (payoff_top g)))
      (λ h le. subst (λ k. unsigned_abs (cond (P (R h)) (worth_against played (R h) *ℤ pos (t (R h))) (pos 0)) ≤ top_payoff g * cond (P (R h)) (mass h * tail (reply_sets played) k r I (theirs h)) 0) (sym factors_same)
      (each (P (R h)) (worth_against played (R h)) (t (R h)) (mass h) (top_payoff g) (worth_size h le))) in
      omega (arith, ap unsigned_abs all, sizes, sum_over-mul (top_payoff g) (gain r I) hs)
    where
      each : (b : Bool) (w : ℤ) (t m u : ℕ) → unsigned_abs w ≤ u * m → unsigned_abs (cond b (w *ℤ pos t) (pos 0)) ≤ u * cond b (m * t) 0
      each true w t m u le =
          let size : unsigned_abs (w *ℤ pos t) ≡ unsigned_abs w * t = unsigned_abs-mul w (pos t) in
          let l : unsigned_abs w * t ≤ (u * m) * t = mul-le-mul le (le_of_eq refl) in
          let e : (u * m) * t ≡ u * (m * t) = omega arith in
          omega (arith, size, l, e)
      each false w t m u le = omega arith

  -- so best values are at most the top payoff times the best of the masses
  pub best_size : IsForm (form_of g) (other keeper) → (I : ℕ) → I < length (reply_sets played)
      → (n : ℕ) × (unsigned_abs (best_response_value played I) ≤ top_payoff g * n) × (pos n ≤ℤ best_response_value masses I)
  best_size ok I l =
      let b : IsBest played I (best_response_value played I) = (best_value_law played ok).0 I l in
      let c : IsBest masses I (best_response_value masses I) = (best_value_law masses (mass_is_form g (other keeper) (other keeper) ok)).0 I l in
      let r = b.earns.0 in
      let n = sum_over (gain r I) (ends_by_nodes g) in
      let one : pos (r.all ^ reply_factors masses) *ℤ best_response_value masses I ≡ best_response_value masses I =
      ap (λ k. pos (k ^ reply_factors masses) *ℤ best_response_value masses I) b.earns.2 ∙ ap (λ k. pos k *ℤ best_response_value masses I) (one_pow (reply_factors masses)) ∙ one_mul_z (best_response_value masses I) in (
        n,
        subst (λ t. unsigned_abs t ≤ top_payoff g * n) b.earns.3 (earned_size r I),
        subst (λ t. t ≤ℤ best_response_value masses I) (mass_earned r I) (subst (λ t. earned masses r I ≤ℤ t) one (c.bounds r b.earns.1)),
      )
