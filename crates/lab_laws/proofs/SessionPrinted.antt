-- What a session prints: bounds and expectations in their units, in lowest terms.
use Rattle.std.proofs.Common.{◌≡◌, ℕ, ◌^◌, ◌≤◌, ℤ, List, [], Option, Some, None, Result, Ok, refl, ap, ◌∙◌, subst, inl, inr}
use Rattle.std.proofs.Math.Nat.{one-le-pow, mul-pos}
use Rattle.lab_defs_text.specs.Words.{Bytes}
use Rattle.lab_defs_text.specs.Fractions.{lowest_num, lowest_den, fraction_text}
use Rattle.lab_defs_text.specs.Games.{GameModel}
use Rattle.lab_defs_text.specs.Steps.{◌>>=◌}
use Rattle.lab_defs_text.proofs.FractionLemmas.{lowest_law}
use Rattle.lab_defs_text.proofs.StepLemmas.{bind_ok, ok_is, some_is}
use Rattle.lab_defs_game.specs.Accepted.{IsAccepted}
use Rattle.lab_defs_game.specs.Seats.{grid_of}
use Rattle.lab_defs_game.specs.Sets.{most_decisions}
use Rattle.lab_defs_game.proofs.ChanceSizes.{some_scale}
use Rattle.lab_defs_value.specs.Expectation.{expectation_units, expectation_of_uniform, uniform_of}
use Rattle.lab_defs_value.specs.Bounds.{at, bound_units}
use Rattle.lab_defs_value.specs.Candidates.{solved_tables}
use Rattle.lab_defs_report.specs.Commands.{Command, expect_uniform, expect, blueprint_uniform, blueprint_given, blueprint_solve, bound, show, propose, resolve, cert, deal, play}
use Rattle.lab_defs_report.specs.States.{State, Profile, Proposal, SessionFault, step_of, bounds_of, profile_of, given_tables, good_seat, good_node, decides_there, good_weights, good_rounds, propose_to, verdict, candidate_of, with_weights, kept, playing, seat_bound, uniform_reply, expect_reply, bound_reply, blueprint_reply}
use Rattle.lab_defs_report.specs.Headline.{start}
use Rattle.lab_laws.specs.Printed.{IsPrinted, IsBoundWord, IsExpectedWord, reply_word, last_word, Prints, PrintedLaw}
use Rattle.lab_defs_game.proofs.GridSizes.{some_grid}
use Rattle.lab_laws.proofs.SessionSteps.{IsReached, playing_at, leads_reached}

-- ---- words

-- the text of a fraction is its number over its units, in lowest terms
printed : (value : ℤ) (units : ℕ) → 1 ≤ units → IsPrinted (fraction_text value units) value units
printed value units some =
    let law = lowest_law value units some in
    record { num = lowest_num value units; den = lowest_den value units; text = refl; same = law.0; lowest = law.1; some = law.2 }

module _ (g : GameModel) (ok : IsAccepted g) where
  -- a seat's grid for each of its most decisions is above 0
  some_factors : (seat : ℕ) → 1 ≤ grid_of g seat ^ most_decisions g seat
  some_factors seat = one-le-pow (most_decisions g seat) (grid_of g seat) (some_grid g ok.good)

  -- the bound of a seat is printed
  bound_word : (p : Profile) (seat : ℕ) → IsBoundWord g p seat (seat_bound g p seat)
  bound_word p seat = printed (at (bounds_of p seat) 0) (bound_units g seat) (mul-pos (some_scale g ok.good) (some_factors seat))

  -- an expectation is printed
  expected_word : (value : ℤ) → IsExpectedWord g value (fraction_text value (expectation_units g))
  expected_word value =
      printed value (expectation_units g)
      (mul-pos (some_scale g ok.good)
      (mul-pos (some_factors 1) (some_factors 2)))

  -- the last word of a verdict is the bound of its seat after it
  verdict_word : (p : Profile) (q : Proposal) (first : Option ℕ) → IsBoundWord g (verdict g p q first).0 q.seat (last_word (verdict g p q first).1)
  verdict_word p q (Some set) = bound_word p q.seat
  verdict_word p q None = bound_word (verdict g p q None).0 q.seat

  -- ---- replies

  module _ (c : Command) (t : State) (reply : List Bytes) (p : Profile) (e : t.profile ≡ Some p) where
    -- what a command prints of the profile after it, it prints in its reply
    told : (after : Profile) (said : List Bytes) → ◌≡◌ {A = Result (State × List Bytes) SessionFault} (Ok (playing_at g after, said)) (Ok (t, reply)) → Prints g after c said → Prints g p c reply
    told after said h prints =
        let pair = ok_is {E = SessionFault} (playing_at g after, said) (t, reply) h in
        let same : after ≡ p = some_is after p (ap (λ (x : State × List Bytes). x.0.profile) pair ∙ e) in
        subst (Prints g p c) (ap (λ (x : State × List Bytes). x.1) pair) (subst (λ x. Prints g x c said) same prints)

  -- before the blueprint
  first_prints : (c : Command) (t : State) (reply : List Bytes) → step_of (start g) c ≡ Ok (t, reply) → (p : Profile) → t.profile ≡ Some p → Prints g p c reply
  first_prints expect_uniform t reply h p e = tt
  first_prints expect t reply h p e = absurd cc
  first_prints blueprint_uniform t reply h p e =
      let after = profile_of g (uniform_of g 1) (uniform_of g 2) in
      told blueprint_uniform t reply p e after (blueprint_reply g after) h (bound_word after 1, bound_word after 2)
  first_prints (blueprint_given ws) t reply h p e =
      let a = bind_ok (given_tables g ws) (λ p. playing (start g) p (blueprint_reply g p)) (t, reply) h in
      told (blueprint_given ws) t reply p e a.0 (blueprint_reply g a.0) a.2 (bound_word a.0 1, bound_word a.0 2)
  first_prints (blueprint_solve rounds) t reply h p e =
      let after = profile_of g (solved_tables g rounds).0 (solved_tables g rounds).1 in
      let a = bind_ok (good_rounds rounds) (λ y. playing (start g) after (blueprint_reply g after)) (t, reply) h in
      told (blueprint_solve rounds) t reply p e after (blueprint_reply g after) a.2 (bound_word after 1, bound_word after 2)
  first_prints (bound seat) t reply h p e = absurd cc
  first_prints (show seat) t reply h p e = tt
  first_prints (propose seat node rule ws) t reply h p e = absurd cc
  first_prints (resolve seat node rule rounds) t reply h p e = absurd cc
  first_prints (cert seat) t reply h p e = tt
  first_prints (deal draws) t reply h p e = tt
  first_prints (play rounds seed) t reply h p e = tt

  -- and after it
  later_prints : (now : Profile) (c : Command) (t : State) (reply : List Bytes) → step_of (playing_at g now) c ≡ Ok (t, reply) → (p : Profile) → t.profile ≡ Some p → Prints g p c reply
  later_prints now expect_uniform t reply h p e = tt
  later_prints now expect t reply h p e = told expect t reply p e now (expect_reply g now) h (expected_word _)
  later_prints now blueprint_uniform t reply h p e = absurd cc
  later_prints now (blueprint_given ws) t reply h p e = absurd cc
  later_prints now (blueprint_solve rounds) t reply h p e = absurd cc
  later_prints now (bound seat) t reply h p e =
      let a = bind_ok (good_seat seat) (λ x. kept (playing_at g now) (bound_reply g now seat)) (t, reply) h in
      told (bound seat) t reply p e now (bound_reply g now seat) a.2 (bound_word now seat)
  later_prints now (show seat) t reply h p e = tt
  later_prints now (propose seat node rule ws) t reply h p e =
      let q : Proposal = record { seat = seat; node = node; rule = rule; weights = ws } in
      let r = propose_to g now q in
      let a = bind_ok (good_seat seat) (λ x. good_node g node >>= λ y. decides_there g q >>= λ z. good_weights g q >>= λ w. playing (playing_at g now) r.0 r.1) (t, reply) h in
      let b = bind_ok (good_node g node) (λ y. decides_there g q >>= λ z. good_weights g q >>= λ w. playing (playing_at g now) r.0 r.1) (t, reply) a.2 in
      let c = bind_ok (decides_there g q) (λ z. good_weights g q >>= λ w. playing (playing_at g now) r.0 r.1) (t, reply) b.2 in
      let d = bind_ok (good_weights g q) (λ w. playing (playing_at g now) r.0 r.1) (t, reply) c.2 in
      told (propose seat node rule ws) t reply p e r.0 r.1 d.2 (verdict_word now q _)
  later_prints now (resolve seat node rule rounds) t reply h p e =
      let q : Proposal = record { seat = seat; node = node; rule = rule; weights = [] } in
      let found : Proposal = with_weights q (candidate_of g now q rounds) in
      let r = propose_to g now found in
      let a = bind_ok (good_seat seat) (λ x. good_node g node >>= λ y. decides_there g q >>= λ z. good_rounds rounds >>= λ w. playing (playing_at g now) r.0 r.1) (t, reply) h in
      let b = bind_ok (good_node g node) (λ y. decides_there g q >>= λ z. good_rounds rounds >>= λ w. playing (playing_at g now) r.0 r.1) (t, reply) a.2 in
      let c = bind_ok (decides_there g q) (λ z. good_rounds rounds >>= λ w. playing (playing_at g now) r.0 r.1) (t, reply) b.2 in
      let d = bind_ok (good_rounds rounds) (λ w. playing (playing_at g now) r.0 r.1) (t, reply) c.2 in
      told (resolve seat node rule rounds) t reply p e r.0 r.1 d.2 (verdict_word now found _)
  later_prints now (cert seat) t reply h p e = tt
  later_prints now (deal draws) t reply h p e = tt
  later_prints now (play rounds seed) t reply h p e = tt

  -- what is expected by the uniform tables, in any state of the game
  uniform_prints : (profile : Option Profile) (t : State) (reply : List Bytes) → step_of (record { game = g; profile = profile }) expect_uniform ≡ Ok (t, reply)
      → IsExpectedWord g (expectation_of_uniform g) (reply_word reply 1)
  uniform_prints profile t reply h =
      let pair = ok_is {E = SessionFault} (record { game = g; profile = profile }, uniform_reply g) (t, reply) h in
      subst (λ r. IsExpectedWord g (expectation_of_uniform g) (reply_word r 1)) (ap (λ (x : State × List Bytes). x.1) pair) (expected_word (expectation_of_uniform g))

-- the law of what is printed
pub printed_law : PrintedLaw
printed_law g ok cs s t c reply l h = by (leads_reached g ok cs (start g) s (inl refl) l)
  where
    Told : Type 0
    Told = ((p : Profile) → t.profile ≡ Some p → Prints g p c reply) × (c ≡ expect_uniform → IsExpectedWord g (expectation_of_uniform g) (reply_word reply 1))

    by : IsReached g s → Told
    by (inl q) =
        let now : step_of (start g) c ≡ Ok (t, reply) = subst (λ s. step_of s c ≡ Ok (t, reply)) q h in
        (λ p e. first_prints g ok c t reply now p e, λ u. uniform_prints g ok None t reply (subst (λ c. step_of (start g) c ≡ Ok (t, reply)) u now))
    by (inr r) =
        let now : step_of (playing_at g r.0) c ≡ Ok (t, reply) = subst (λ s. step_of s c ≡ Ok (t, reply)) r.1 h in
        (λ p e. later_prints g ok r.0 c t reply now p e, λ u. uniform_prints g ok (Some r.0) t reply (subst (λ c. step_of (playing_at g r.0) c ≡ Ok (t, reply)) u now))
