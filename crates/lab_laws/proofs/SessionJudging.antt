-- What a session keeps, and how it judges a proposal.
use Rattle.std.proofs.Common.{◌≡◌, ℕ, ◌<◌, ℤ, ◌≤ℤ◌, List, length, refl, sym, ap, ◌∙◌, subst, inl, inr, ◌⊎◌, Option, Some, None}
use Rattle.std.specs.Prelude.{slice_range, ◌↔◌}
use Rattle.std.proofs.lemmas.List.FromFn.{length-map-range_with_len}
use Rattle.lab_math.proofs.Integers.{le_of_eq_z}
use Rattle.lab_defs_text.specs.Words.{Bytes}
use Rattle.lab_defs_text.specs.Games.{GameModel}
use Rattle.lab_defs_game.specs.Accepted.{IsAccepted}
use Rattle.lab_defs_game.specs.Sets.{sets}
use Rattle.lab_defs_game.specs.Seats.{grid_of, other, IsSeat}
use Rattle.lab_defs_game.specs.Forms.{game_actions}
use Rattle.lab_defs_game.specs.Nodes.{span_from, span_to}
use Rattle.lab_defs_game.proofs.GridSizes.{some_grid}
use Rattle.lab_defs_value.specs.Tables.{weight_count}
use Rattle.lab_defs_value.specs.Replies.{strategy_of, SumsToGrid, IsTable}
use Rattle.lab_defs_value.specs.BestValues.{best_response_value}
use Rattle.lab_defs_value.specs.Bounds.{at, Holds, Tight, tight_bounds}
use Rattle.lab_defs_value.specs.Passes.{Passes, first_above}
use Rattle.lab_defs_value.specs.Subgames.{span_at, span_actions}
use Rattle.lab_defs_value.proofs.BestLaws.{backed_up_law}
use Rattle.lab_defs_value.proofs.Passing.{pass_law}
use Rattle.lab_defs_value.proofs.SubgameRows.{span_actions_are}
use Rattle.lab_defs_value.proofs.GameValues.{some_set}
use Rattle.lab_defs_value.proofs.GameSplices.{fits_span, game_splice_law}
use Rattle.lab_defs_report.specs.States.{Profile, Proposal, table_of, bounds_of, profile_of, with_seat_table, played_by, proposed_table, allowances, roots_of, node_list, inside_count, verdict, propose_to}
use Rattle.lab_defs_report.specs.Headline.{IsKept, IsGuarded, PassesAt, SameOutside, Judges, NeverRises}
use Rattle.lab_defs_value.proofs.GameStrategies.{other_seat, reply_count, sound, at_tight, tight_tight}
use Rattle.lab_laws.proofs.SessionTables.{spliced_sums}
use Rattle.lab_laws.proofs.SessionParts.{nodes_there, passes_tight, never_rises}

-- ---- seats

-- what holds of both seats
pub each_seat : (P : ℕ → Type 0) → P 1 → P 2 → (seat : ℕ) → IsSeat seat → P seat
each_seat P one two seat (inl e) = subst P (sym e) one
each_seat P one two seat (inr e) = subst P (sym e) two

-- a seat is another one or itself
same_or_other : (seat s : ℕ) → IsSeat seat → IsSeat s → (s ≡ seat) ⊎ (s ≡ other seat)
same_or_other seat s (inl e) (inl f) = inl (f ∙ sym e)
same_or_other seat s (inl e) (inr f) = inr (f ∙ sym (ap other e))
same_or_other seat s (inr e) (inl f) = inr (f ∙ sym (ap other e))
same_or_other seat s (inr e) (inr f) = inl (f ∙ sym e)

-- what holds of a seat and of the other one
both_seats : (P : ℕ → Type 0) (seat : ℕ) → IsSeat seat → P seat → P (other seat) → (s : ℕ) → IsSeat s → P s
both_seats P seat is mine theirs s at = by (same_or_other seat s is at)
  where
    by : (s ≡ seat) ⊎ (s ≡ other seat) → P s
    by (inl e) = subst P (sym e) mine
    by (inr e) = subst P (sym e) theirs

-- ---- what is kept

-- a table of a seat has all its weights, and they sum to the grid
pub record IsFull (g : GameModel) (seat : ℕ) (table : List ℕ) : Type 0 where
  pub long : length table ≡ weight_count g seat
  pub sums : SumsToGrid (grid_of g seat) (game_actions g seat) table

-- of each seat a table and tight bounds are kept
abbrev pub AreKept : GameModel → Profile → Type 0
AreKept g p = (seat : ℕ) → IsSeat seat → IsKept g p seat

-- a full table with its tight bounds is kept
with_tight : (g : GameModel) → IsAccepted g → (p : Profile) (seat : ℕ) → IsSeat seat → IsFull g seat (table_of p seat) → bounds_of p seat ≡ tight_bounds g seat (table_of p seat) → IsKept g p seat
with_tight g ok p seat is f e = record {
  weights = f.long;
  sums = (some_grid g ok.good, f.sums);
  count = ap length e ∙ length-map-range_with_len (best_response_value (played_by g p seat)) 0 (length (sets g (other seat)));
  tight = subst (λ b. Tight (played_by g p seat) (at b)) (sym e) (tight_tight g ok seat is (table_of p seat));
}

-- what is kept stays so where table and bounds stay
kept_as : (g : GameModel) (p after : Profile) (seat : ℕ) → table_of after seat ≡ table_of p seat → bounds_of after seat ≡ bounds_of p seat → IsKept g p seat → IsKept g after seat
kept_as g p after seat e b k = record {
  weights = ap length e ∙ k.weights;
  sums = subst (IsTable (game_actions g seat) (grid_of g seat)) (sym e) k.sums;
  count = ap length b ∙ k.count;
  tight = subst (λ t. Tight (strategy_of g seat t) (at (bounds_of after seat))) (sym e) (subst (λ bs. Tight (played_by g p seat) (at bs)) (sym b) k.tight);
}

-- both tables are kept with their tight bounds
pub fresh_kept : (g : GameModel) → IsAccepted g → (table1 table2 : List ℕ) → IsFull g 1 table1 → IsFull g 2 table2 → AreKept g (profile_of g table1 table2)
fresh_kept g ok table1 table2 one two =
    let p = profile_of g table1 table2 in
    each_seat (IsKept g p) (with_tight g ok p 1 (inl refl) one refl) (with_tight g ok p 2 (inr refl) two refl)

-- ---- another table of a seat

module _ (g : GameModel) (p : Profile) (table : List ℕ) where
  played : (seat : ℕ) → IsSeat seat → table_of (with_seat_table g p seat table) seat ≡ table
  played = each_seat (λ s. table_of (with_seat_table g p s table) s ≡ table) refl refl

  bounded : (seat : ℕ) → IsSeat seat → bounds_of (with_seat_table g p seat table) seat ≡ tight_bounds g seat table
  bounded = each_seat (λ s. bounds_of (with_seat_table g p s table) s ≡ tight_bounds g s table) refl refl

  -- the other seat's stays
  other_table : (seat : ℕ) → IsSeat seat → table_of (with_seat_table g p seat table) (other seat) ≡ table_of p (other seat)
  other_table = each_seat (λ s. table_of (with_seat_table g p s table) (other s) ≡ table_of p (other s)) refl refl

  other_bounds : (seat : ℕ) → IsSeat seat → bounds_of (with_seat_table g p seat table) (other seat) ≡ bounds_of p (other seat)
  other_bounds = each_seat (λ s. bounds_of (with_seat_table g p s table) (other s) ≡ bounds_of p (other s)) refl refl

-- ---- guards

-- bounds that are kept hold
pub kept_holds : (g : GameModel) → IsAccepted g → (p : Profile) (seat : ℕ) → IsSeat seat → IsKept g p seat → Holds (played_by g p seat) (at (bounds_of p seat))
kept_holds g ok p seat is k = ((backed_up_law (played_by g p seat) (sound g ok seat is (table_of p seat)) (at (bounds_of p seat))).1 k.tight).bounds

-- where they are kept, each seat is guarded
pub guarded : (g : GameModel) → IsAccepted g → (p : Profile) → AreKept g p → (seat : ℕ) → IsSeat seat → IsGuarded g p seat
guarded g ok p k seat is = record {
  kept = k seat is;
  bounded = (k seat is).tight 0 (subst (λ n. 0 < n) (sym (reply_count g ok seat is)) (some_set g (other seat) ok.good));
  passes = λ q e there some.
      let is' : IsSeat q.seat = subst IsSeat (sym e) is in
      subst (λ s. PassesAt g p q (table_of p s)) e
      (passes_tight g ok q.seat is' (table_of p q.seat) (node_list g q) (at (bounds_of p q.seat)) (k q.seat is').tight (allowances g p q));
}

-- ---- a proposal is judged

-- a profile and a reply after a proposal
pub record IsJudged (g : GameModel) (p : Profile) (q : Proposal) (r : Profile × List Bytes) : Type 0 where
  pub judges : Judges g p r.0 q r.1
  pub rises : NeverRises p r.0
  pub keeps : AreKept g r.0

-- one that has as many weights as are needed, and they sum to the grid
pub judged : (g : GameModel) → IsAccepted g → (p : Profile) → AreKept g p → (q : Proposal) → IsSeat q.seat → length q.weights ≡ inside_count g q
    → SumsToGrid (grid_of g q.seat) (span_actions (span_at g q.seat (node_list g q))) q.weights → IsJudged g p q (propose_to g p q)
judged g ok p k q is long sums = by (first_above (strategy_of g q.seat after) B (allowances g p q) (roots_of g q)) refl
  where
    node : List ℕ
    node = node_list g q

    table : List ℕ
    table = table_of p q.seat

    after : List ℕ
    after = proposed_table g p q

    B : ℕ → ℤ
    B = at (bounds_of p q.seat)

    whole : length table ≡ weight_count g q.seat
    whole = (k q.seat is).weights

    law : Passes (strategy_of g q.seat after) B (allowances g p q) (roots_of g q) ↔ (first_above (strategy_of g q.seat after) B (allowances g p q) (roots_of g q) ≡ None)
    law = (pass_law (strategy_of g q.seat after) (sound g ok q.seat is after) B (allowances g p q) (roots_of g q) (nodes_there g ok q.seat is node after)).0

    splice : length after ≡ length table
    splice = (game_splice_law g q.seat node table q.weights whole long).0

    ok_none : {A : Type 0} (x : A) → ◌≡◌ {A = Option A} (Some x) None → ⊥
    ok_none x e = cc

    -- the bound does not rise
    low : PassesAt g p q after → at (tight_bounds g q.seat after) 0 ≤ℤ B 0
    low pass =
        subst (λ x. x ≤ℤ B 0) (sym (at_tight g ok q.seat is after 0 (some_set g (other q.seat) ok.good)))
        (never_rises g ok q.seat is node table q.weights whole long B (kept_holds g ok p q.seat is (k q.seat is)) q.rule pass)

    accepted : Profile
    accepted = with_seat_table g p q.seat after

    outside : SameOutside g q table (table_of accepted q.seat)
    outside =
        subst (λ t. SameOutside g q table t) (sym (played g p after q.seat is))
        (λ set action l la off. (game_splice_law g q.seat node table q.weights whole long).2 (record { set = set; action = action }) l la off)

    part : SumsToGrid (grid_of g q.seat) (slice_range (game_actions g q.seat) (span_from g q.seat node) (span_to g q.seat node)) q.weights
    part = subst (λ ns. SumsToGrid (grid_of g q.seat) ns q.weights) (span_actions_are (span_at g q.seat node)) sums

    full : IsFull g q.seat after
    full = record {
      long = splice ∙ whole;
      sums = spliced_sums (grid_of g q.seat) (game_actions g q.seat) (span_from g q.seat node) (span_to g q.seat node) table q.weights (fits_span g q.seat node table q.weights whole long) (k q.seat is).sums.1 part;
    }

    kept : AreKept g accepted
    kept =
        both_seats (IsKept g accepted) q.seat is
        (with_tight g ok accepted q.seat is (subst (IsFull g q.seat) (sym (played g p after q.seat is)) full) (bounded g p after q.seat is ∙ sym (ap (tight_bounds g q.seat) (played g p after q.seat is))))
        (kept_as g p accepted (other q.seat) (other_table g p after q.seat is) (other_bounds g p after q.seat is) (k (other q.seat) (other_seat q.seat is)))

    by : (o : Option ℕ) → first_above (strategy_of g q.seat after) B (allowances g p q) (roots_of g q) ≡ o → IsJudged g p q (verdict g p q o)
    by (Some set) e = record {
      judges = record {
        exactly = (λ t. absurd cc, λ pass. absurd (ok_none set (sym e ∙ law.0 pass)));
        inside = λ t. absurd cc;
        outside = λ set action l la off. refl;
        others = (refl, refl);
        kept = λ t. refl;
      };
      rises = λ seat is. le_of_eq_z _ _ refl;
      keeps = k;
    }
    by None e = record {
      judges = record {
        exactly = (λ t. law.1 e, λ pass. refl);
        inside = λ t. played g p after q.seat is;
        outside = outside;
        others = (other_table g p after q.seat is, other_bounds g p after q.seat is);
        kept = λ t. absurd cc;
      };
      rises = both_seats (λ s. at (bounds_of accepted s) 0 ≤ℤ at (bounds_of p s) 0) q.seat is
          (subst (λ b. at b 0 ≤ℤ at (bounds_of p q.seat) 0) (sym (bounded g p after q.seat is)) (low (law.1 e)))
          (le_of_eq_z _ _ (ap (λ b. at b 0) (other_bounds g p after q.seat is)));
      keeps = kept;
    }
