-- Values in an accepted game: its rows are padded, so what a seat expects is what its table earns.
use Rattle.std.proofs.Common.{◌≡◌, ℕ, ◌+◌, ◌-◌, ◌^◌, ◌<◌, pos, ◌*ℤ◌, List, [], ◌∷◌, length, map, Bool, true, false, eqb, refl, sym, ap, ◌∙◌, subst, arith, inl, inr}
use Rattle.std.specs.Prelude.{not, neg_ℤ, ◌≤ℤ◌}
use Rattle.std.specs.List.{AllByRecursion}
use Rattle.std.proofs.lemmas.List.{length-map}
use Rattle.std.proofs.lemmas.List.Elements.{All-from_recursion}
use Rattle.lab_math.specs.Sums.{greatest_over}
use Rattle.lab_math.proofs.Elements.{all_map}
use Rattle.lab_math.proofs.Members.{In, all_from_in, in_from_filter}
use Rattle.lab_defs_text.specs.Games.{GameModel}
use Rattle.lab_defs_text.specs.Texts.{game_ok, is_world}
use Rattle.lab_defs_text.proofs.GameLemmas.{game_fine}
use Rattle.lab_defs_game.specs.Seats.{IsSeat, other, grid_of}
use Rattle.lab_defs_game.specs.Accepted.{IsAccepted}
use Rattle.lab_defs_game.specs.Histories.{History, place_of, histories, inner_histories, is_terminal}
use Rattle.lab_defs_game.specs.Sets.{sets, most_decisions}
use Rattle.lab_defs_game.specs.Forms.{Row, form_of, game_sets, game_actions, sets_of, path_of, pad_of, deciding, row_along}
use Rattle.lab_defs_game.specs.Paths.{path_along}
use Rattle.lab_defs_game.specs.Nodes.{ends_by_nodes}
use Rattle.lab_defs_game.specs.Laws.{AlikeNames}
use Rattle.lab_defs_game.proofs.Groups.{ends_has, ends_from}
use Rattle.lab_defs_game.proofs.GameLemmas.{inner_has}
use Rattle.lab_defs_game.proofs.Legal.{legal_history}
use Rattle.lab_defs_game.proofs.RecallLemmas.{recall_law}
use Rattle.lab_defs_game.proofs.RootSets.{some_length}
use Rattle.lab_defs_game.proofs.RowsThrough.{row_through}
use Rattle.lab_defs_game.proofs.Ways.{root_number}
use Rattle.lab_defs_game.proofs.FormLemmas.{game_actions_length, set_below, deciding_most}
use Rattle.lab_defs_value.specs.Parents.{IsForm, begins_at}
use Rattle.lab_defs_value.specs.Smallness.{factors_at}
use Rattle.lab_defs_value.specs.Expectation.{expectation}
use Rattle.lab_defs_value.specs.Replies.{factors_in, earned, reply_by, strategy_of}
use Rattle.lab_defs_value.specs.BestValues.{best_response_value}
use Rattle.lab_defs_value.specs.Matching.{Pair, set_value, pair_table}
use Rattle.lab_defs_value.specs.GameLaws.{GamePaddedLaw, GameExpectationLaw, GameGuaranteeLaw, GameBestTableLaw, GameEarningLaw}
use Rattle.lab_defs_value.proofs.GameForms.{ends_there, game_form_law}
use Rattle.lab_defs_value.proofs.Expecting.{expectation_law, guarantee_law}
use Rattle.lab_defs_value.proofs.WholeTables.{best_table_law}
use Rattle.lab_defs_value.proofs.Earnings.{earning_law}

-- ---- what the form of a game has

-- the sets of a seat
pub form_sets : (g : GameModel) (seat : ℕ) → IsSeat seat → sets_of (form_of g) seat ≡ game_sets g seat
form_sets g seat (inl e) = subst (λ k. sets_of (form_of g) k ≡ game_sets g k) (sym e) refl
form_sets g seat (inr e) = subst (λ k. sets_of (form_of g) k ≡ game_sets g k) (sym e) refl

-- its path on a row
pub row_path : (g : GameModel) (seat : ℕ) → IsSeat seat → (h : History) → path_of (row_along g h) seat ≡ path_along g seat h
row_path g seat (inl e) h = subst (λ k. path_of (row_along g h) k ≡ path_along g k h) (sym e) refl
row_path g seat (inr e) h = subst (λ k. path_of (row_along g h) k ≡ path_along g k h) (sym e) refl

-- and the decisions that the row lacks
row_pad : (g : GameModel) (seat : ℕ) → IsSeat seat → (h : History) → pad_of (row_along g h) seat ≡ most_decisions g seat - deciding (game_actions g seat) (path_along g seat h)
row_pad g seat (inl e) h = subst (λ k. pad_of (row_along g h) k ≡ most_decisions g k - deciding (game_actions g k) (path_along g k h)) (sym e) refl
row_pad g seat (inr e) h = subst (λ k. pad_of (row_along g h) k ≡ most_decisions g k - deciding (game_actions g k) (path_along g k h)) (sym e) refl

-- an accepted game is a form for each seat
pub form_for : (g : GameModel) → IsAccepted g → (seat : ℕ) → IsSeat seat → IsForm (form_of g) seat
form_for g ok seat (inl e) = subst (IsForm (form_of g)) (sym e) (game_form_law g ok.good ok.recalls).0
form_for g ok seat (inr e) = subst (IsForm (form_of g)) (sym e) (game_form_law g ok.good ok.recalls).1

-- what holds of the row of each terminal history holds of all rows
pub all_rows : (g : GameModel) (P : Row → Type 0) → ((h : History) → In h (ends_by_nodes g) → P (row_along g h)) → AllByRecursion P (form_of g).rows
all_rows g P each = all_map (λ h. P (row_along g h)) P (row_along g) (ends_by_nodes g) (λ h k. k) (all_from_in (λ h. P (row_along g h)) (ends_by_nodes g) each)

-- ---- the root

-- nothing has happened yet at the root, a world
pub root_inner : (g : GameModel) → game_ok g ≡ true → In [] (inner_histories g)
root_inner g ok = inner_has g [] (legal_history g [] tt (omega arith)) (game_fine g ok).root

-- so each seat has a set, the one with number 0
pub some_set : (g : GameModel) (seat : ℕ) → game_ok g ≡ true → 0 < length (sets g seat)
some_set g seat ok = subst (λ n. n < length (sets g seat)) (root_number g seat) (set_below g seat [] (root_inner g ok))

-- and an accepted game has a row
pub some_row : (g : GameModel) → IsAccepted g → 0 < length (form_of g).rows
some_row g ok =
    let r = row_through g ok [] (root_inner g ok.good) in
    subst (λ n. 0 < n) (sym (length-map (ends_by_nodes g) (row_along g))) (some_length (ends_by_nodes g) r.row (ends_has g r.row r.there))

-- ---- padded rows

-- the path of a terminal history begins at set 0
begins_first : (g : GameModel) (seat : ℕ) → game_ok g ≡ true → (h : History) → In h (ends_by_nodes g) → begins_at (path_along g seat h) 0 ≡ true
begins_first g seat ok [] i = absurd (never (is_world (place_of g [])) (game_fine g ok).root (in_from_filter (is_terminal g) (histories g) [] (ends_from g [] i)).1)
  where
    never : (b : Bool) → b ≡ true → not b ≡ true → ⊥
    never true e f = cc
    never false e f = cc
begins_first g seat ok (s ∷ h) i = ap (λ n. eqb n 0) (root_number g seat)

-- each row has as many factors of a seat as its most decisions
row_factors : (g : GameModel) (seat : ℕ) → IsSeat seat → AlikeNames g seat → (h : History) → In h (histories g) → factors_at (form_of g) seat (row_along g h) ≡ most_decisions g seat
row_factors g seat is alike h i =
    let z = row_along g h in
    let ns = game_actions g seat in
    let most = deciding_most g seat alike h i in
    ap (λ ss. deciding (map (λ s. s.actions) ss) (path_of z seat) + pad_of z seat) (form_sets g seat is)
    ∙ ap (λ p. deciding ns p + pad_of z seat) (row_path g seat is h)
    ∙ ap (λ n. deciding ns (path_along g seat h) + n) (row_pad g seat is h)
    ∙ omega (arith, most)

-- the greatest of values that are all one number
greatest_all : {X : Type 0} (f : X → ℕ) (c : ℕ) (xs : List X) → 0 < length xs → AllByRecursion (λ x. f x ≡ c) xs → greatest_over f xs ≡ c
greatest_all f c [] some h = absurd (omega (arith, some))
greatest_all f c (x ∷ []) some h = let e = h.0 in omega (arith, e)
greatest_all f c (x ∷ y ∷ xs) some h = let rest = greatest_all f c (y ∷ xs) (omega arith) h.1 in let e = h.0 in omega (arith, rest, e)

-- the names of a seat's actions agree
pub alike_for : (g : GameModel) → IsAccepted g → (seat : ℕ) → IsSeat seat → AlikeNames g seat
alike_for g ok seat (inl e) = subst (AlikeNames g) (sym e) ((recall_law g).0 ok.recalls).0
alike_for g ok seat (inr e) = subst (AlikeNames g) (sym e) ((recall_law g).0 ok.recalls).1

-- the law of the rows of a game
pub game_padded_law : GamePaddedLaw
game_padded_law g ok seat is =
    let factors = all_rows g (λ z. factors_at (form_of g) seat z ≡ most_decisions g seat) (λ h i. row_factors g seat is (alike_for g ok seat is) h (ends_there g h i)) in
    let most : factors_in (form_of g) seat ≡ most_decisions g seat = greatest_all (factors_at (form_of g) seat) (most_decisions g seat) (form_of g).rows (some_row g ok) factors in (
      record {
        first = All-from_recursion (λ (z : Row). begins_at (path_of z seat) 0 ≡ true) (form_of g).rows
            (all_rows g (λ z. begins_at (path_of z seat) 0 ≡ true) (λ h i. ap (λ p. begins_at p 0) (row_path g seat is h) ∙ begins_first g seat ok.good h i));
        factors = All-from_recursion (λ (z : Row). factors_at (form_of g) seat z ≡ factors_in (form_of g) seat) (form_of g).rows
            (subst (λ n. AllByRecursion (λ (z : Row). factors_at (form_of g) seat z ≡ n) (form_of g).rows) (sym most) factors);
      },
      most,
    )

-- ---- values

-- the law of expectations in a game
pub game_expectation_law : GameExpectationLaw
game_expectation_law g ok table1 table2 =
    let law = expectation_law (form_of g) (grid_of g 1) (grid_of g 2) table1 table2 in
    (law.0 (game_padded_law g ok 2 (inr refl)).0, law.1 (game_padded_law g ok 1 (inl refl)).0)

-- each seat has a set, so numbers of actions
some_actions : (g : GameModel) (seat : ℕ) → game_ok g ≡ true → 0 < length (game_actions g seat)
some_actions g seat ok = subst (λ n. 0 < n) (sym (game_actions_length g seat)) (some_set g seat ok)

-- the law of what bounds guarantee in a game
pub game_guarantee_law : GameGuaranteeLaw
game_guarantee_law g ok table1 table2 B =
    let expected = expectation (grid_of g 1) (grid_of g 2) (form_of g) table1 table2 in
    let law = guarantee_law (form_of g) (grid_of g 1) (grid_of g 2) table1 table2 B in
    let forms = game_form_law g ok.good ok.recalls in
    let one = game_padded_law g ok 1 (inl refl) in
    let two = game_padded_law g ok 2 (inr refl) in (
      λ holds tab. subst (λ n. neg_ℤ expected ≤ℤ (pos (grid_of g 2 ^ n) *ℤ B 0)) two.1 (law.0 forms.1 two.0 (some_actions g 2 ok.good) holds tab),
      λ holds tab. subst (λ n. expected ≤ℤ (pos (grid_of g 1 ^ n) *ℤ B 0)) one.1 (law.1 forms.0 one.0 (some_actions g 1 ok.good) holds tab),
    )

-- the law of tables that earn best-response values in a game
pub game_best_table_law : GameBestTableLaw
game_best_table_law g ok table1 table2 =
    let law = best_table_law (form_of g) (grid_of g 1) (grid_of g 2) table1 table2 in
    let forms = game_form_law g ok.good ok.recalls in
    let one = game_padded_law g ok 1 (inl refl) in
    let two = game_padded_law g ok 2 (inr refl) in
    let best2 = law.0 forms.1 two.0 (some_actions g 2 ok.good) in
    let best1 = law.1 forms.0 one.0 (some_actions g 1 ok.good) in (
      (best2.0, best2.1, best2.2 ∙ ap (λ n. best_response_value (strategy_of g 1 table1) 0 *ℤ pos (grid_of g 2 ^ n)) two.1),
      (best1.0, best1.1, best1.2 ∙ ap (λ n. best_response_value (strategy_of g 2 table2) 0 *ℤ pos (grid_of g 1 ^ n)) one.1),
    )

-- the law of counterfactual values in a game
pub game_earning_law : GameEarningLaw
game_earning_law g ok table1 table2 seat I is = at is
  where
    p : Pair
    p = record { form = form_of g; grid1 = grid_of g 1; grid2 = grid_of g 2; table1 = table1; table2 = table2 }

    Earns : ℕ → Type 0
    Earns k = set_value p k I ≡ earned (strategy_of g (other k) (pair_table p (other k))) (reply_by (grid_of g k) (game_actions g k) (pair_table p k)) I

    at : IsSeat seat → Earns seat
    at (inl e) = subst Earns (sym e) (earning_law p 1 I (inl refl) (game_padded_law g ok 1 (inl refl)).0.factors)
    at (inr e) = subst Earns (sym e) (earning_law p 2 I (inr refl) (game_padded_law g ok 2 (inr refl)).0.factors)
