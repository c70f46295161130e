-- Commands lead from kept profiles to kept profiles.
use Rattle.std.proofs.Common.{◌≡◌, ℕ, ◌+◌, List, [], ◌∷◌, Bool, true, eqb, ◌||◌, length, take, drop, refl, sym, ap, ◌∙◌, subst, arith, inl, inr, ◌⊎◌, Option, Some, None, Result, Ok, eqb-true, length-take-le}
use Rattle.std.specs.Prelude.{pos}
use Rattle.std.proofs.lemmas.Bool.{or_cases}
use Rattle.std.proofs.lemmas.List.{length-drop, length-replicate}
use Rattle.lab_math.proofs.Integers.{le_of_eq_z}
use Rattle.lab_defs_text.specs.Words.{Bytes}
use Rattle.lab_defs_text.specs.Games.{GameModel}
use Rattle.lab_defs_text.specs.Steps.{◌>>=◌}
use Rattle.lab_defs_text.proofs.StepLemmas.{bind_ok, passed, ok_is, some_is}
use Rattle.lab_defs_game.specs.Accepted.{IsAccepted}
use Rattle.lab_defs_game.specs.Seats.{grid_of, IsSeat}
use Rattle.lab_defs_game.specs.Forms.{game_actions}
use Rattle.lab_defs_game.specs.Nodes.{span_from}
use Rattle.lab_defs_value.specs.Tables.{weight_count}
use Rattle.lab_defs_value.specs.Expectation.{uniform_of}
use Rattle.lab_defs_value.specs.Replies.{SumsToGrid}
use Rattle.lab_defs_value.specs.Candidates.{solved_tables}
use Rattle.lab_defs_value.specs.Matching.{zeros}
use Rattle.lab_defs_value.specs.MatchingLaws.{IsWhole}
use Rattle.lab_defs_value.specs.Subgames.{span_at, span_actions}
use Rattle.lab_defs_value.proofs.RoundedTables.{rounded_whole, zero_shares_law}
use Rattle.lab_defs_value.proofs.Rounds.{candidate_law, solved_law}
use Rattle.lab_defs_report.specs.Walks.{walk}
use Rattle.lab_defs_report.specs.Commands.{Command, expect_uniform, expect, blueprint_uniform, blueprint_given, blueprint_solve, bound, show, propose, resolve, cert, deal, play}
use Rattle.lab_defs_report.specs.States.{State, Profile, Proposal, SessionFault, bad_seat, wrong_count, step_of, profile_of, table_of, bounds_of, first_wrong_sum, unless_wrong, counted, given_tables, node_list, inside_count, good_seat, good_node, decides_there, good_weights, good_rounds, propose_to, candidate_of, with_weights, kept, playing, bound_reply, show_reply, cert_reply, dealt, blueprint_reply}
use Rattle.lab_defs_report.specs.Headline.{start, Leads, Does, NeverRises, Headline}
use Rattle.lab_laws.specs.Sessions.{SessionCertificateLaw}
use Rattle.lab_laws.proofs.SessionTables.{sums_from, none_wrong}
use Rattle.lab_laws.proofs.SessionJudging.{IsFull, AreKept, each_seat, fresh_kept, kept_holds, guarded, IsJudged, judged}

-- ---- what a command tells that is not refused

-- the seat is one
seat_from : (seat : ℕ) (x : Bool) → good_seat seat ≡ Ok x → IsSeat seat
seat_from seat x e = at (or_cases (eqb seat 1) (eqb seat 2) (passed ((eqb seat 1) || (eqb seat 2)) (Ok true) bad_seat x e).0)
  where
    at : (eqb seat 1 ≡ true) ⊎ (eqb seat 2 ≡ true) → IsSeat seat
    at (inl k) = inl (eqb-true seat 1 k)
    at (inr k) = inr (eqb-true seat 2 k)

-- as many are given as are needed
count_from : {A : Type 0} (needed given : ℕ) (x y : A) → counted needed given x ≡ Ok y → needed ≡ given
count_from needed given x y e = eqb-true needed given (passed (eqb needed given) (Ok x) (wrong_count needed given) y e).0

-- so they are in a proposal, and sum to the grid
weights_from : (g : GameModel) (q : Proposal) (x : Bool) → good_weights g q ≡ Ok x
    → (length q.weights ≡ inside_count g q) × SumsToGrid (grid_of g q.seat) (span_actions (span_at g q.seat (node_list g q))) q.weights
weights_from g q x e =
    let first = span_from g q.seat (node_list g q) in
    let actions = span_actions (span_at g q.seat (node_list g q)) in
    let wrong : Option ℕ = first_wrong_sum (grid_of g q.seat) first actions q.weights in
    let a = bind_ok (counted (inside_count g q) (length q.weights) true) (λ y. unless_wrong q.seat (first_wrong_sum (grid_of g q.seat) first actions q.weights) true) x e in
    (sym (count_from (inside_count g q) (length q.weights) true a.0 a.1), sums_from (grid_of g q.seat) first actions q.weights (none_wrong q.seat wrong true x a.2))

-- and in what a re-solve finds
candidate_from : (g : GameModel) (p : Profile) (q : Proposal) (rounds : ℕ) → IsSeat q.seat
    → (length (candidate_of g p q rounds) ≡ inside_count g q) × SumsToGrid (grid_of g q.seat) (span_actions (span_at g q.seat (node_list g q))) (candidate_of g p q rounds)
candidate_from g p q rounds is =
    let law = candidate_law g q.rule q.seat (node_list g q) (table_of p q.seat) (bounds_of p q.seat) rounds is in
    (law.0, law.2)

-- ---- blueprints

-- a whole table is full
full_from : (g : GameModel) (seat : ℕ) (table : List ℕ) → IsWhole (grid_of g seat) (game_actions g seat) table → IsFull g seat table
full_from g seat table w = record { long = w.0; sums = w.2 }

-- the even splits
uniform_kept : (g : GameModel) → IsAccepted g → AreKept g (profile_of g (uniform_of g 1) (uniform_of g 2))
uniform_kept g ok = fresh_kept g ok (uniform_of g 1) (uniform_of g 2) (full 1) (full 2)
  where
    full : (seat : ℕ) → IsFull g seat (uniform_of g seat)
    full seat = full_from g seat (uniform_of g seat)
        (subst (IsWhole (grid_of g seat) (game_actions g seat)) (zero_shares_law (grid_of g seat) (game_actions g seat))
        (rounded_whole (grid_of g seat) (game_actions g seat) (zeros (game_actions g seat)) (length-replicate (weight_count g seat) (pos 0))))

-- given tables
given_kept : (g : GameModel) → IsAccepted g → (ws : List ℕ) (p : Profile) → given_tables g ws ≡ Ok p → AreKept g p
given_kept g ok ws p e =
    let one = weight_count g 1 in
    let two = weight_count g 2 in
    let first = take one ws in
    let second = drop one ws in
    let wrong1 : Option ℕ = first_wrong_sum (grid_of g 1) 0 (game_actions g 1) first in
    let wrong2 : Option ℕ = first_wrong_sum (grid_of g 2) 0 (game_actions g 2) second in
    let a = bind_ok (counted (one + two) (length ws) true)
    (λ x. unless_wrong 1 (first_wrong_sum (grid_of g 1) 0 (game_actions g 1) first) true >>= λ y. unless_wrong 2 (first_wrong_sum (grid_of g 2) 0 (game_actions g 2) second) true >>= λ z. Ok (profile_of g first second)) p e in
    let b = bind_ok (unless_wrong 1 (first_wrong_sum (grid_of g 1) 0 (game_actions g 1) first) true)
    (λ y. unless_wrong 2 (first_wrong_sum (grid_of g 2) 0 (game_actions g 2) second) true >>= λ z. Ok (profile_of g first second)) p a.2 in
    let c = bind_ok (unless_wrong 2 (first_wrong_sum (grid_of g 2) 0 (game_actions g 2) second) true) (λ z. Ok (profile_of g first second)) p b.2 in
    let many : one + two ≡ length ws = count_from (one + two) (length ws) true a.0 a.1 in
    subst (AreKept g) (ok_is (profile_of g first second) p c.2)
    (fresh_kept g ok first second
    (record { long = length-take-le one ws (omega (arith, many)); sums = sums_from (grid_of g 1) 0 (game_actions g 1) first (none_wrong 1 wrong1 true b.0 b.1) })
    (record { long = length-drop one ws ∙ omega (arith, many); sums = sums_from (grid_of g 2) 0 (game_actions g 2) second (none_wrong 2 wrong2 true c.0 c.1) }))

-- what is solved
solved_kept : (g : GameModel) → IsAccepted g → (rounds : ℕ) → AreKept g (profile_of g (solved_tables g rounds).0 (solved_tables g rounds).1)
solved_kept g ok rounds =
    let law = solved_law g rounds in
    fresh_kept g ok (solved_tables g rounds).0 (solved_tables g rounds).1 (full_from g 1 (solved_tables g rounds).0 law.0) (full_from g 2 (solved_tables g rounds).1 law.1)

-- ---- from the blueprint on

-- a state with a profile
abbrev pub playing_at : GameModel → Profile → State
playing_at g p = record { game = g; profile = Some p }

-- what a command does that is not refused
pub record Goes (g : GameModel) (p : Profile) (c : Command) (t : State) (reply : List Bytes) : Type 0 where
  pub profile : Profile
  pub now : t ≡ playing_at g profile
  pub rises : NeverRises p profile
  pub does : Does g p profile c reply
  pub keeps : AreKept g profile

module _ (g : GameModel) (ok : IsAccepted g) (p : Profile) (k : AreKept g p) where
  -- the reply to a command, with the profile after it
  goes_to : (c : Command) (after : Profile) (said : List Bytes) (t : State) (reply : List Bytes) → ◌≡◌ {A = Result (State × List Bytes) SessionFault} (Ok (playing_at g after, said)) (Ok (t, reply))
      → NeverRises p after → Does g p after c said → AreKept g after → Goes g p c t reply
  goes_to c after said t reply e rises does keeps =
      let pair = ok_is {E = SessionFault} (playing_at g after, said) (t, reply) e in
      record {
        profile = after;
        now = sym (ap (λ (x : State × List Bytes). x.0) pair);
        rises = rises;
        does = subst (λ w. Does g p after c w) (ap (λ (x : State × List Bytes). x.1) pair) does;
        keeps = keeps;
      }

  -- where the profile stays
  stays_at : (c : Command) (said : List Bytes) (t : State) (reply : List Bytes) → ◌≡◌ {A = Result (State × List Bytes) SessionFault} (Ok (playing_at g p, said)) (Ok (t, reply))
      → Does g p p c said → Goes g p c t reply
  stays_at c said t reply e does = goes_to c p said t reply e (λ seat is. le_of_eq_z _ _ refl) does k

  -- where a proposal is judged
  judged_at : (c : Command) (q : Proposal) → IsSeat q.seat → length q.weights ≡ inside_count g q → SumsToGrid (grid_of g q.seat) (span_actions (span_at g q.seat (node_list g q))) q.weights
      → ((r : Profile × List Bytes) → IsJudged g p q r → Does g p r.0 c r.1)
      → (t : State) (reply : List Bytes) → ◌≡◌ {A = Result (State × List Bytes) SessionFault} (Ok (playing_at g (propose_to g p q).0, (propose_to g p q).1)) (Ok (t, reply)) → Goes g p c t reply
  judged_at c q is long sums does t reply e =
      let j = judged g ok p k q is long sums in
      goes_to c (propose_to g p q).0 (propose_to g p q).1 t reply e j.rises (does (propose_to g p q) j) j.keeps

  -- each command
  pub goes : (c : Command) (t : State) (reply : List Bytes) → step_of (playing_at g p) c ≡ Ok (t, reply) → Goes g p c t reply
  goes expect_uniform t reply e = stays_at expect_uniform _ t reply e refl
  goes expect t reply e = stays_at expect _ t reply e refl
  goes blueprint_uniform t reply e = absurd cc
  goes (blueprint_given ws) t reply e = absurd cc
  goes (blueprint_solve rounds) t reply e = absurd cc
  goes (bound seat) t reply e = let a = bind_ok (good_seat seat) (λ x. kept (playing_at g p) (bound_reply g p seat)) (t, reply) e in stays_at (bound seat) _ t reply a.2 refl
  goes (show seat) t reply e = let a = bind_ok (good_seat seat) (λ x. kept (playing_at g p) (show_reply p seat)) (t, reply) e in stays_at (show seat) _ t reply a.2 refl
  goes (propose seat node rule ws) t reply e =
      let q : Proposal = record { seat = seat; node = node; rule = rule; weights = ws } in
      let a = bind_ok (good_seat seat) (λ x. good_node g node >>= λ y. decides_there g q >>= λ z. good_weights g q >>= λ w. playing (playing_at g p) (propose_to g p q).0 (propose_to g p q).1) (t, reply) e in
      let b = bind_ok (good_node g node) (λ y. decides_there g q >>= λ z. good_weights g q >>= λ w. playing (playing_at g p) (propose_to g p q).0 (propose_to g p q).1) (t, reply) a.2 in
      let c = bind_ok (decides_there g q) (λ z. good_weights g q >>= λ w. playing (playing_at g p) (propose_to g p q).0 (propose_to g p q).1) (t, reply) b.2 in
      let d = bind_ok (good_weights g q) (λ w. playing (playing_at g p) (propose_to g p q).0 (propose_to g p q).1) (t, reply) c.2 in
      let w = weights_from g q d.0 d.1 in
      judged_at (propose seat node rule ws) q (seat_from seat a.0 a.1) w.0 w.1 (λ r j. j.judges) t reply d.2
  goes (resolve seat node rule rounds) t reply e =
      let q : Proposal = record { seat = seat; node = node; rule = rule; weights = [] } in
      let r : Proposal = with_weights q (candidate_of g p q rounds) in
      let a = bind_ok (good_seat seat) (λ x. good_node g node >>= λ y. decides_there g q >>= λ z. good_rounds rounds >>= λ w. playing (playing_at g p) (propose_to g p r).0 (propose_to g p r).1) (t, reply) e in
      let b = bind_ok (good_node g node) (λ y. decides_there g q >>= λ z. good_rounds rounds >>= λ w. playing (playing_at g p) (propose_to g p r).0 (propose_to g p r).1) (t, reply) a.2 in
      let c = bind_ok (decides_there g q) (λ z. good_rounds rounds >>= λ w. playing (playing_at g p) (propose_to g p r).0 (propose_to g p r).1) (t, reply) b.2 in
      let d = bind_ok (good_rounds rounds) (λ w. playing (playing_at g p) (propose_to g p r).0 (propose_to g p r).1) (t, reply) c.2 in
      let is = seat_from seat a.0 a.1 in
      let w = candidate_from g p q rounds is in
      judged_at (resolve seat node rule rounds) r is w.0 w.1 (λ s j. j.judges) t reply d.2
  goes (cert seat) t reply e = let a = bind_ok (good_seat seat) (λ x. kept (playing_at g p) (cert_reply p seat)) (t, reply) e in stays_at (cert seat) _ t reply a.2 refl
  goes (deal draws) t reply e = let a = bind_ok (dealt g (walk g p.table1 p.table2 draws)) (λ said. kept (playing_at g p) said) (t, reply) e in stays_at (deal draws) _ t reply a.2 refl
  goes (play rounds seed) t reply e = stays_at (play rounds seed) _ t reply e refl

-- ---- from the start on

-- a state that has no profile, or one that is kept
abbrev pub IsReached : GameModel → State → Type 0
IsReached g s = (s ≡ start g) ⊎ ((p : Profile) × (s ≡ playing_at g p) × AreKept g p)

-- a command before the blueprint
first_step : (g : GameModel) → IsAccepted g → (c : Command) (t : State) (reply : List Bytes) → step_of (start g) c ≡ Ok (t, reply) → IsReached g t
first_step g ok c t reply e = at c e
  where
    begun : (p : Profile) (said : List Bytes) → ◌≡◌ {A = Result (State × List Bytes) SessionFault} (Ok (playing_at g p, said)) (Ok (t, reply)) → AreKept g p → IsReached g t
    begun p said e k = inr (p, sym (ap (λ (x : State × List Bytes). x.0) (ok_is {E = SessionFault} (playing_at g p, said) (t, reply) e)), k)

    still : (said : List Bytes) → ◌≡◌ {A = Result (State × List Bytes) SessionFault} (Ok (start g, said)) (Ok (t, reply)) → IsReached g t
    still said e = inl (sym (ap (λ (x : State × List Bytes). x.0) (ok_is {E = SessionFault} (start g, said) (t, reply) e)))

    at : (c : Command) → step_of (start g) c ≡ Ok (t, reply) → IsReached g t
    at expect_uniform e = still _ e
    at expect e = absurd cc
    at blueprint_uniform e = begun (profile_of g (uniform_of g 1) (uniform_of g 2)) _ e (uniform_kept g ok)
    at (blueprint_given ws) e = let a = bind_ok (given_tables g ws) (λ p. playing (start g) p (blueprint_reply g p)) (t, reply) e in begun a.0 _ a.2 (given_kept g ok ws a.0 a.1)
    at (blueprint_solve rounds) e =
        let p : Profile = profile_of g (solved_tables g rounds).0 (solved_tables g rounds).1 in
        let a = bind_ok (good_rounds rounds) (λ y. playing (start g) p (blueprint_reply g p)) (t, reply) e in
        begun p _ a.2 (solved_kept g ok rounds)
    at (bound seat) e = absurd cc
    at (show seat) e = absurd cc
    at (propose seat node rule ws) e = absurd cc
    at (resolve seat node rule rounds) e = absurd cc
    at (cert seat) e = absurd cc
    at (deal draws) e = absurd cc
    at (play rounds seed) e = absurd cc

-- a command from any state that is reached
step_reached : (g : GameModel) → IsAccepted g → (s : State) → IsReached g s → (c : Command) (t : State) (reply : List Bytes) → step_of s c ≡ Ok (t, reply) → IsReached g t
step_reached g ok s (inl e) c t reply h = first_step g ok c t reply (subst (λ s. step_of s c ≡ Ok (t, reply)) e h)
step_reached g ok s (inr r) c t reply h = let n = goes g ok r.0 r.2 c t reply (subst (λ s. step_of s c ≡ Ok (t, reply)) r.1 h) in inr (n.profile, n.now, n.keeps)

-- so commands lead from reached states to reached ones
pub leads_reached : (g : GameModel) → IsAccepted g → (cs : List Command) (s t : State) → IsReached g s → Leads s cs t → IsReached g t
leads_reached g ok [] s t r e = subst (IsReached g) e r
leads_reached g ok (c ∷ cs) s t r l = leads_reached g ok cs l.0 t (step_reached g ok s r c l.0 l.1 l.2) l.3

-- the profile of a reached state is kept
pub reached_profile : (g : GameModel) (s : State) (p : Profile) → IsReached g s → s.profile ≡ Some p → (s ≡ playing_at g p) × AreKept g p
reached_profile g s p (inl q) e = absurd (none (sym (ap (λ (s : State). s.profile) q) ∙ e))
  where
    none : ◌≡◌ {A = Option Profile} None (Some p) → ⊥
    none e = cc
reached_profile g s p (inr r) e =
    let same : r.0 ≡ p = some_is r.0 p (sym (ap (λ (s : State). s.profile) r.1) ∙ e) in
    (r.1 ∙ ap (playing_at g) same, subst (AreKept g) same r.2)

-- from the blueprint on a session is in a state with a profile that is kept
pub session_kept : (g : GameModel) → IsAccepted g → (cs : List Command) (s : State) (p : Profile) → Leads (start g) cs s → s.profile ≡ Some p → (s ≡ playing_at g p) × AreKept g p
session_kept g ok cs s p l e = reached_profile g s p (leads_reached g ok cs (start g) s (inl refl) l) e

-- the promise of a session
pub headline_law : Headline
headline_law g ok cs s p l e =
    let r = session_kept g ok cs s p l e in (
      guarded g ok p r.1 1 (inl refl),
      guarded g ok p r.1 2 (inr refl),
      λ c t reply h. let n = goes g ok p r.1 c t reply (subst (λ s. step_of s c ≡ Ok (t, reply)) r.0 h) in (n.profile, ap (λ (s : State). s.profile) n.now, n.rises, n.does),
    )

-- the law of a session's certificates
pub session_certificate_law : SessionCertificateLaw
session_certificate_law g ok cs s p l e seat is =
    let r = session_kept g ok cs s p l e in
    let k = r.1 seat is in (
      record { weights = k.weights; table = k.sums; bounds = k.count; holds = kept_holds g ok p seat is k },
      subst (λ x. step_of x (cert seat) ≡ Ok (x, cert_reply p seat)) (sym r.0) (each_seat (λ n. step_of (playing_at g p) (cert n) ≡ Ok (playing_at g p, cert_reply p n)) refl refl seat is),
    )
