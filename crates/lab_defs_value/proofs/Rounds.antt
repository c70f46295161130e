-- The rounds of regret matching: their tallies and tables, and what candidates are.
use Rattle.std.proofs.Common.{◌≡◌, zero, suc, pos, List, [], ◌∷◌, length, refl, sym, ap, ◌∙◌, subst, inl, inr}
use Rattle.std.specs.Prelude.{ℤ}
use Rattle.std.proofs.lemmas.List.{length-replicate}
use Rattle.lab_defs_game.specs.Forms.{Form, form_of, actions_of}
use Rattle.lab_defs_game.specs.Seats.{grid_of}
use Rattle.lab_defs_value.specs.Subgames.{span_at, span_actions}
use Rattle.lab_defs_value.specs.Gadgets.{gadget_form}
use Rattle.lab_defs_value.specs.Matching.{Pair, added, at_deciding, regrets_at, reached_at, Regrets, regrets_start, with_pair, pair_of, regrets_after}
use Rattle.lab_defs_value.specs.Candidates.{candidate}
use Rattle.lab_defs_value.specs.MatchingLaws.{IsWhole, IsRegrets, RegretListsLaw, RoundLaw, AveragesLaw, CandidateLaw, SolvedLaw}
use Rattle.lab_defs_value.proofs.RegretSums.{regret_law}
use Rattle.lab_defs_value.proofs.RoundedTables.{all_weights, rounded_whole}

-- what is added changes no length
added_long : (xs ys : List ℤ) → length (added xs ys) ≡ length xs
added_long [] ys = refl
added_long (x ∷ xs) [] = refl
added_long (x ∷ xs) (y ∷ ys) = ap suc (added_long xs ys)

-- before the first round
start_long : (f : Form) → IsRegrets f (regrets_start f)
start_long f = record {
  regrets1 = length-replicate (all_weights (actions_of f 1)) (pos 0);
  regrets2 = length-replicate (all_weights (actions_of f 2)) (pos 0);
  sums1 = length-replicate (all_weights (actions_of f 1)) (pos 0);
  sums2 = length-replicate (all_weights (actions_of f 2)) (pos 0);
}

-- one more round
pair_long : (f : Form) (p : Pair) (t : Regrets) → IsRegrets f t → IsRegrets f (with_pair p t)
pair_long f p t ok = record {
  regrets1 = added_long t.regrets1 (at_deciding p 1 (regrets_at p 1)) ∙ ok.regrets1;
  regrets2 = added_long t.regrets2 (at_deciding p 2 (regrets_at p 2)) ∙ ok.regrets2;
  sums1 = added_long t.sums1 (at_deciding p 1 (reached_at p 1)) ∙ ok.sums1;
  sums2 = added_long t.sums2 (at_deciding p 2 (reached_at p 2)) ∙ ok.sums2;
}

-- after any number of rounds
pub regret_lists_law : RegretListsLaw
regret_lists_law grid1 grid2 f zero = start_long f
regret_lists_law grid1 grid2 f (suc n) = pair_long f (pair_of grid1 grid2 f (regrets_after grid1 grid2 f n)) (regrets_after grid1 grid2 f n) (regret_lists_law grid1 grid2 f n)

-- the law of rounds
pub round_law : RoundLaw
round_law grid1 grid2 f t ok =
    let p = pair_of grid1 grid2 f t in
    let one = rounded_whole grid1 (actions_of f 1) t.regrets1 ok.regrets1 in
    let two = rounded_whole grid2 (actions_of f 2) t.regrets2 ok.regrets2 in (
      one,
      two,
      λ I there l d. regret_law p 1 I there d (one.2 I l d),
      λ I there l d. regret_law p 2 I there d (two.2 I l d),
    )

-- the law of averages
pub averages_law : AveragesLaw
averages_law grid1 grid2 f n =
    let ok = regret_lists_law grid1 grid2 f n in
    (rounded_whole grid1 (actions_of f 1) (regrets_after grid1 grid2 f n).sums1 ok.sums1, rounded_whole grid2 (actions_of f 2) (regrets_after grid1 grid2 f n).sums2 ok.sums2)

-- the law of candidates
pub candidate_law : CandidateLaw
candidate_law g rule keeper node table bounds rounds (inl e) =
    subst (λ k. IsWhole (grid_of g k) (span_actions (span_at g k node)) (candidate g rule k node table bounds rounds)) (sym e)
    (averages_law (grid_of g 1) (grid_of g 2) (gadget_form g rule 1 node table bounds) rounds).0
candidate_law g rule keeper node table bounds rounds (inr e) =
    subst (λ k. IsWhole (grid_of g k) (span_actions (span_at g k node)) (candidate g rule k node table bounds rounds)) (sym e)
    (averages_law (grid_of g 1) (grid_of g 2) (gadget_form g rule 2 node table bounds) rounds).1

-- the law of what is solved
pub solved_law : SolvedLaw
solved_law g rounds = averages_law (grid_of g 1) (grid_of g 2) (form_of g) rounds
