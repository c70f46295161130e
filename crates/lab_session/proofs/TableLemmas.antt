-- The tables and the form of a game, as the program has them.
use Rattle.std.proofs.Common.{◌≡◌, ℕ, ◌≤◌, pos, List, length, map, Bool, true, refl, sym, ap, ◌∙◌, subst, arith, inl, inr, take_all, Result, Ok, Err}
use Rattle.std.specs.Prelude.{IfOk, nat_le, ◌&&◌, if◌then◌else◌}
use Rattle.std.specs.List.{range_with_len}
use Rattle.std.proofs.lemmas.Bool.{le-leb}
use Rattle.std.proofs.lemmas.List.{length-replicate}
use Rattle.lab_math.specs.Sums.{sum_over}
use Rattle.lab_defs_text.specs.Games.{GameModel}
use Rattle.lab_defs_text.specs.Steps.{◌>>=◌}
use Rattle.lab_defs_game.specs.Accepted.{IsAccepted}
use Rattle.lab_defs_game.specs.Forms.{Form, form_of, actions_of, game_actions}
use Rattle.lab_defs_game.specs.Seats.{IsSeat, grid_of}
use Rattle.lab_defs_game.proofs.GridSizes.{some_grid}
use Rattle.lab_defs_value.specs.Tables.{weights_of, weight_count as weights_in, uniform_table}
use Rattle.lab_defs_value.specs.Replies.{IsTable, strategy_of}
use Rattle.lab_defs_value.specs.BestValues.{best_response_value}
use Rattle.lab_defs_value.specs.Bounds.{tight_bounds}
use Rattle.lab_defs_value.specs.Candidates.{solved_tables}
use Rattle.lab_defs_value.specs.Expectation.{uniform_of}
use Rattle.lab_defs_value.specs.Matching.{zeros}
use Rattle.lab_defs_value.specs.MatchingLaws.{IsWhole}
use Rattle.lab_defs_value.proofs.GameStrategies.{actions_there, reply_count}
use Rattle.lab_defs_value.proofs.RoundedTables.{rounded_whole, zero_shares_law}
use Rattle.lab_defs_value.proofs.Rounds.{solved_law}
use Rattle.lab_defs_value.specs.Smallness.{IsSmall}
use Rattle.lab_sizes.proofs.SizeCounts.{small_law}
use Rattle.lab_sizes.proofs.SizeWeights.{few_weights}
use Rattle.lab_form.specs.Forms.{FormValue, sets_of, weight_count, form_model}
use Rattle.lab_form.proofs.CallerLemmas.{model_actions}
use Rattle.lab_table.specs.Tables.{TableValue, seat_actions, table_of, AreWeights}
use Rattle.lab_table.proofs.CallerLemmas.{weights_sum, sums_weigh}
use Rattle.lab_best.specs.Values.{strategy_in, best_values, IsSmallFor}
use Rattle.lab_best.proofs.CallerLemmas.{small_for}
use Rattle.lab_defs_report.specs.States.{profile_of, bad_rounds}
use Rattle.lab_session.specs.Boards.{IsTableFor, even_table}
use Rattle.lab_session.specs.Kept.{AreTablesBy}
use Rattle.lab_session.specs.Solved.{solved_table}
use Rattle.lab_session.specs.declared.how.How.TheVariants.{Solve}

-- ---- the form

-- the sets of a seat of the form have as many actions as those of the game
pub form_actions : (g : GameModel) (f : FormValue) → form_model f ≡ form_of g → (seat : ℕ) → IsSeat seat → seat_actions f seat ≡ game_actions g seat
form_actions g f e seat is = sym (own is) ∙ ap (λ (m : Form). actions_of m seat) e ∙ actions_there g seat is
  where
    own : IsSeat seat → actions_of (form_model f) seat ≡ seat_actions f seat
    own (inl s) = subst (λ k. actions_of (form_model f) k ≡ seat_actions f k) (sym s) (model_actions f.sets1)
    own (inr s) = subst (λ k. actions_of (form_model f) k ≡ seat_actions f k) (sym s) (model_actions f.sets2)

-- and as many weights as a table of the game
pub form_weights : (g : GameModel) (f : FormValue) → form_model f ≡ form_of g → (seat : ℕ) → IsSeat seat → weight_count (sets_of f seat) ≡ weights_in g seat
form_weights g f e seat is =
    let ns = game_actions g seat in ap (sum_over weights_of) (form_actions g f e seat is ∙ sym (take_all (length ns) ns (omega arith)))

-- which are few
pub form_few : (g : GameModel) → IsAccepted g → (f : FormValue) → form_model f ≡ form_of g → (seat : ℕ) → IsSeat seat → weight_count (sets_of f seat) ≤ 65536
form_few g ok f e seat is = omega (arith, form_weights g f e seat is, few_weights g ok seat)

-- the best-response values that are found in the form are the tight bounds
pub values_tight : (g : GameModel) → IsAccepted g → (f : FormValue) → form_model f ≡ form_of g → (seat : ℕ) → IsSeat seat → (weights : List ℕ)
    → best_values (strategy_in f seat (grid_of g seat) weights) ≡ tight_bounds g seat weights
values_tight g ok f e seat is weights =
    ap (λ (m : Form). best_values (record { form = m; keeper = seat; grid = grid_of g seat; table = weights })) e
    ∙ ap (λ n. map (best_response_value (strategy_of g seat weights)) (range_with_len 0 n)) (reply_count g ok seat is)

-- the form is small for the grid of either seat
pub form_small : (g : GameModel) → IsAccepted g → (f : FormValue) → form_model f ≡ form_of g → (seat : ℕ) → IsSeat seat → IsSmallFor seat (grid_of g seat) f
form_small g ok f e seat is = by is
  where
    both : IsSmallFor 1 (grid_of g 1) f × IsSmallFor 2 (grid_of g 2) f
    both = small_for f (grid_of g 1) (grid_of g 2) (subst (IsSmall (grid_of g 1) (grid_of g 2)) (sym e) (small_law g ok).0)

    by : IsSeat seat → IsSmallFor seat (grid_of g seat) f
    by (inl s) = subst (λ k. IsSmallFor k (grid_of g k) f) (sym s) both.0
    by (inr s) = subst (λ k. IsSmallFor k (grid_of g k) f) (sym s) both.1

-- ---- tables

-- the table that splits evenly is one of its seat
pub even_is : (g : GameModel) (seat : ℕ) → IsTableFor g seat (even_table g seat)
even_is g seat = record { actions = refl; weights = sums_weigh grid ns (uniform_of g seat) whole.0 whole.2 }
  where
    grid : ℕ
    grid = grid_of g seat

    ns : List ℕ
    ns = game_actions g seat

    whole : IsWhole grid ns (uniform_of g seat)
    whole = subst (IsWhole grid ns) (zero_shares_law grid ns) (rounded_whole grid ns (zeros ns) (length-replicate (weights_in g seat) (pos 0)))

-- a table of a seat is one of the definitions
pub table_is : (g : GameModel) → IsAccepted g → (seat : ℕ) (t : TableValue) → IsTableFor g seat t → IsTable (game_actions g seat) (grid_of g seat) t.weights
table_is g ok seat t is = (some_grid g ok.good, weights_sum (grid_of g seat) (game_actions g seat) t.weights is.weights)

-- its weights are such in the form
pub form_table : (g : GameModel) (f : FormValue) → form_model f ≡ form_of g → (seat : ℕ) → IsSeat seat → (t : TableValue) → IsTableFor g seat t → AreWeights (grid_of g seat) (seat_actions f seat) t.weights
form_table g f e seat is t for = subst (λ ns. AreWeights (grid_of g seat) ns t.weights) (sym (form_actions g f e seat is)) for.weights

-- and back
pub table_for : (g : GameModel) (f : FormValue) → form_model f ≡ form_of g → (seat : ℕ) → IsSeat seat → (t : TableValue) (weights : List ℕ)
    → t ≡ table_of f seat weights → AreWeights (grid_of g seat) (seat_actions f seat) weights → IsTableFor g seat t
table_for g f e seat is t weights same are =
    subst (IsTableFor g seat) (sym same) (record { actions = form_actions g f e seat is; weights = subst (λ ns. AreWeights (grid_of g seat) ns weights) (form_actions g f e seat is) are })

-- the table that splits the grid evenly in the form
pub even_found : (g : GameModel) (f : FormValue) → form_model f ≡ form_of g → (seat : ℕ) → IsSeat seat → {E : Type 0} (r : Result TableValue E)
    → IfOk r (λ t. t ≡ table_of f seat (uniform_table (grid_of g seat) (seat_actions f seat))) → IfOk r (λ t. t ≡ even_table g seat)
even_found g f e seat is (Ok t) h = h ∙ ap (λ ns. record { actions = ns; weights = uniform_table (grid_of g seat) ns }) (form_actions g f e seat is)
even_found g f e seat is (Err x) h = tt

-- is one of its seat
pub even_for : (g : GameModel) (seat : ℕ) → {E : Type 0} (r : Result TableValue E) → IfOk r (λ t. t ≡ even_table g seat) → IfOk r (IsTableFor g seat)
even_for g seat (Ok t) h = subst (IsTableFor g seat) (sym h) (even_is g seat)
even_for g seat (Err x) h = tt

-- the averages of regret matching are tables of both seats, by their way
pub solved_by : (g : GameModel) (rounds : ℕ) (one two : TableValue) → 1 ≤ rounds → rounds ≤ 4096 → one ≡ solved_table g 1 rounds → two ≡ solved_table g 2 rounds
    → AreTablesBy g (Solve rounds) one two
solved_by g rounds one two least most e1 e2 =
    subst (λ (t : TableValue). AreTablesBy g (Solve rounds) t two) (sym e1)
    (subst (λ (t : TableValue). AreTablesBy g (Solve rounds) (solved_table g 1 rounds) t) (sym e2)
    (record {
      one = whole 1 (solved_tables g rounds).0 law.0;
      two = whole 2 (solved_tables g rounds).1 law.1;
      found = ap (λ (b : Bool). (if b then Ok true else Err bad_rounds) >>= λ x. let ts = solved_tables g rounds in Ok (profile_of g ts.0 ts.1)) good;
    }))
  where
    law : IsWhole (grid_of g 1) (game_actions g 1) (solved_tables g rounds).0 × IsWhole (grid_of g 2) (game_actions g 2) (solved_tables g rounds).1
    law = solved_law g rounds

    whole : (seat : ℕ) (weights : List ℕ) → IsWhole (grid_of g seat) (game_actions g seat) weights → IsTableFor g seat (record { actions = game_actions g seat; weights = weights })
    whole seat weights w = record { actions = refl; weights = sums_weigh (grid_of g seat) (game_actions g seat) weights w.0 w.2 }

    good : (nat_le 1 rounds && nat_le rounds 4096) ≡ true
    good = λ i. le-leb 1 rounds least i && le-leb rounds 4096 most i
