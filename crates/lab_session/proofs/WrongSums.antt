-- The first set whose weights are wrong, as a table finds it and as the definitions do.
use Rattle.std.proofs.Common.{◌≡◌, ℕ, zero, suc, ◌+◌, ◌-◌, ◌<◌, List, [], ◌∷◌, Bool, true, false, cond, length, take, drop, Some, None, refl, sym, ap, ◌∙◌, subst, arith, zero-add}
use Rattle.std.specs.Prelude.{not, ◌&&◌, ◌||◌, ◌==◌, nat_le, sum, slice_range}
use Rattle.std.proofs.lemmas.List.{drop-drop}
use Rattle.lab_defs_text.specs.Games.{GameModel}
use Rattle.lab_defs_game.specs.Forms.{decides, form_of, game_actions}
use Rattle.lab_defs_game.specs.Seats.{IsSeat, grid_of}
use Rattle.lab_defs_value.specs.Tables.{weights_of, first_weight}
use Rattle.lab_defs_report.specs.States.{first_wrong_sum}
use Rattle.lab_form.specs.Forms.{FormValue, form_model}
use Rattle.lab_table.specs.Tables.{sums_to, weights_at, seat_actions, AreWeights, IsFirstWrong}
use Rattle.lab_session.proofs.TableLemmas.{form_actions}

-- the weights of a set after another are those among the sets without the first
later_weights : (n : ℕ) (ns ws : List ℕ) (set : ℕ) → weights_at (n ∷ ns) ws (suc set) ≡ weights_at ns (drop (weights_of n) ws) set
later_weights n ns ws set =
    let w = weights_of n in
    let a = first_weight ns set in
    let b = first_weight ns (set + 1) in
    let next : suc set + 1 ≡ suc (set + 1) = omega arith in
    let gap : (w + b) - (w + a) ≡ b - a = omega arith in
    ap (λ k. slice_range ws (w + a) (first_weight (n ∷ ns) k)) next
    ∙ ap (λ k. take k (drop (w + a) ws)) gap
    ∙ ap (take (b - a)) (sym (drop-drop a w ws))

-- so is whether they sum to the grid
later_sums : (grid n : ℕ) (ns ws : List ℕ) (set : ℕ) → sums_to grid (n ∷ ns) ws (suc set) ≡ sums_to grid ns (drop (weights_of n) ws) set
later_sums grid n ns ws set = ap (λ v. not (decides ns set) || sum v == grid) (later_weights n ns ws set)

-- whether the weights of the first set are wrong
first_sum : (grid n : ℕ) (ns ws : List ℕ) → (nat_le 2 n && not (sum (take n ws) == grid)) ≡ not (sums_to grid (n ∷ ns) ws 0)
first_sum grid n ns ws = at (nat_le 2 n) refl
  where
    first : nat_le 2 n ≡ true → weights_at (n ∷ ns) ws 0 ≡ take n ws
    first e =
        let own : weights_of n ≡ n = ap (λ b. cond b n 0) e in
        let end : first_weight (n ∷ ns) 1 - 0 ≡ n = omega (arith, own) in
        ap (λ k. take k ws) end

    at : (b : Bool) → nat_le 2 n ≡ b → (b && not (sum (take n ws) == grid)) ≡ not (not b || sum (weights_at (n ∷ ns) ws 0) == grid)
    at true e = ap (λ v. not (sum v == grid)) (sym (first e))
    at false e = refl

-- where all sum to the grid none is found
none_found : (grid first : ℕ) (ns ws : List ℕ) → ((set : ℕ) → set < length ns → sums_to grid ns ws set ≡ true) → first_wrong_sum grid first ns ws ≡ None
none_found grid first [] ws all = refl
none_found grid first (n ∷ ns) ws all =
    ap (λ b. cond b (Some first) (first_wrong_sum grid (first + 1) ns (drop (weights_of n) ws))) (first_sum grid n ns ws ∙ ap not (all 0 (omega arith)))
    ∙ none_found grid (first + 1) ns (drop (weights_of n) ws) (λ set l. sym (later_sums grid n ns ws set) ∙ all (suc set) (omega (arith, l)))

-- where those of a set do not and those of all before it do, it is found
some_found : (grid first set : ℕ) (ns ws : List ℕ) → set < length ns → sums_to grid ns ws set ≡ false → ((earlier : ℕ) → earlier < set → sums_to grid ns ws earlier ≡ true)
    → first_wrong_sum grid first ns ws ≡ Some (first + set)
some_found grid first set [] ws l wrong before = absurd (omega (arith, l))
some_found grid first zero (n ∷ ns) ws l wrong before =
    let same : first ≡ first + 0 = omega arith in
    ap (λ b. cond b (Some first) (first_wrong_sum grid (first + 1) ns (drop (weights_of n) ws))) (first_sum grid n ns ws ∙ ap not wrong) ∙ ap (λ k. Some k) same
some_found grid first (suc set) (n ∷ ns) ws l wrong before =
    let same : (first + 1) + set ≡ first + suc set = omega arith in
    ap (λ b. cond b (Some first) (first_wrong_sum grid (first + 1) ns (drop (weights_of n) ws))) (first_sum grid n ns ws ∙ ap not (before 0 (omega arith)))
    ∙ some_found grid (first + 1) set ns (drop (weights_of n) ws) (omega (arith, l)) (sym (later_sums grid n ns ws set) ∙ wrong) (λ earlier k. sym (later_sums grid n ns ws earlier) ∙ before (suc earlier) (omega (arith, k)))
    ∙ ap (λ k. Some k) same

module _ (g : GameModel) (f : FormValue) (e : form_model f ≡ form_of g) (seat : ℕ) (is : IsSeat seat) (weights : List ℕ) where
  -- so it is for a table of a seat
  pub none_wrong : AreWeights (grid_of g seat) (seat_actions f seat) weights → first_wrong_sum (grid_of g seat) 0 (game_actions g seat) weights ≡ None
  none_wrong are =
      subst (λ ns. first_wrong_sum (grid_of g seat) 0 ns weights ≡ None) (form_actions g f e seat is) (none_found (grid_of g seat) 0 (seat_actions f seat) weights are.sums)

  pub some_wrong : (set : ℕ) → IsFirstWrong (grid_of g seat) (seat_actions f seat) weights set → first_wrong_sum (grid_of g seat) 0 (game_actions g seat) weights ≡ Some set
  some_wrong set first =
      subst (λ ns. first_wrong_sum (grid_of g seat) 0 ns weights ≡ Some set) (form_actions g f e seat is)
      (some_found (grid_of g seat) 0 set (seat_actions f seat) weights first.there first.wrong first.before ∙ ap (λ k. Some k) (zero-add set))
