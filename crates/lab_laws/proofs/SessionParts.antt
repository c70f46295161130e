-- The part of a seat's table inside a subgame may be replaced: what is known of it in an accepted game.
use Rattle.std.proofs.Common.{◌≡◌, ℕ, ◌<◌, ℤ, pos, ◌*ℤ◌, ◌+ℤ◌, ◌≤ℤ◌, ◌^◌, List, [], ◌∷◌, Bool, true, false, ◌&&◌, ◌||◌, length, get_or, refl, sym, ap, ◌∙◌, subst, arith, inl, inr, ◌⊎◌}
use Rattle.std.specs.List.{All, list_all, range_with_len}
use Rattle.std.proofs.lemmas.Bool.{and_parts, and_from}
use Rattle.std.proofs.lemmas.Int.{ints}
use Rattle.std.proofs.lemmas.List.Elements.{All-from_recursion}
use Rattle.lab_math.proofs.Integers.{le_trans_z, mul_le_z, one_mul_z}
use Rattle.lab_math.proofs.Members.{In, all_from_in, in_from_filter, in_from_map}
use Rattle.lab_defs_text.specs.Games.{GameModel}
use Rattle.lab_defs_text.specs.Texts.{game_ok, one_of}
use Rattle.lab_defs_game.specs.Accepted.{IsAccepted}
use Rattle.lab_defs_game.specs.Histories.{History, histories}
use Rattle.lab_defs_game.specs.Sets.{sets, public_list}
use Rattle.lab_defs_game.specs.Seats.{other, IsSeat}
use Rattle.lab_defs_game.specs.Nodes.{begins, span_from, span_to, path_sets, root_sets, public_of, ends_by_nodes}
use Rattle.lab_defs_game.specs.Forms.{Row, form_of, actions_of, path_of, row_along}
use Rattle.lab_defs_game.specs.Paths.{path_along}
use Rattle.lab_defs_game.proofs.GameLemmas.{Longer, history_cases}
use Rattle.lab_defs_game.proofs.SetNumbers.{path_sets_are, root_sets_are}
use Rattle.lab_defs_game.proofs.Ways.{root_number}
use Rattle.lab_defs_value.specs.Tables.{weight_count}
use Rattle.lab_defs_value.specs.Replies.{strategy_of, reply_sets, reply_factors, earned}
use Rattle.lab_defs_value.specs.BestValues.{best_response_value}
use Rattle.lab_defs_value.specs.Bounds.{Holds, Tight}
use Rattle.lab_defs_value.specs.Allowances.{Rule, allowance, Ascends}
use Rattle.lab_defs_value.specs.Passes.{limit, Passes}
use Rattle.lab_defs_value.specs.Splices.{spliced, replaced, with_table, stays_outside, runs_to, encloses, FitsSpan}
use Rattle.lab_defs_value.specs.Subgames.{weights_inside}
use Rattle.lab_defs_value.specs.Laws.{IsPart}
use Rattle.lab_defs_value.proofs.Bests.{one_pow}
use Rattle.lab_defs_value.proofs.BestLaws.{best_unique, backed_up_law}
use Rattle.lab_defs_value.proofs.Pools.{path_law}
use Rattle.lab_defs_value.proofs.Lying.{lies_below}
use Rattle.lab_defs_value.proofs.Entries.{or_true}
use Rattle.lab_defs_value.proofs.Safety.{safe_law}
use Rattle.lab_defs_value.proofs.GameForms.{ends_there}
use Rattle.lab_defs_value.proofs.GameValues.{row_path, form_for, root_inner, some_set}
use Rattle.lab_defs_value.proofs.GameSplices.{fits_span}
use Rattle.lab_defs_value.proofs.GameStrategies.{other_seat, actions_there, reply_count, sound, best_is, roots_below}
use Rattle.lab_laws.proofs.SessionWays.{public_at, runs, stays}

-- a test that each of a list passes
all_tests : {X : Type 0} (p : X → Bool) (xs : List X) → ((x : X) → In x xs → p x ≡ true) → list_all p xs ≡ true
all_tests p [] h = refl
all_tests p (x ∷ xs) h = ap (λ b. b && list_all p xs) (h x (inl refl)) ∙ all_tests p xs (λ y i. h y (inr i))

-- ---- a node encloses its span

-- a set is on the path to a node where its public list begins the node's
on_path : (g : GameModel) (seat : ℕ) (node : List ℕ) (I : ℕ) → I < length (sets g seat) → begins (public_of g seat I) node ≡ true → one_of (path_sets g seat node) I ≡ true
on_path g seat node I l e = ap (λ xs. one_of xs I) (path_sets_are g seat node) ∙ lies_below (λ I. begins (public_of g seat I) node) (length (sets g seat)) I l ∙ e

-- the first set is on the path to each node
pub root_on : (g : GameModel) (seat : ℕ) (node : List ℕ) → game_ok g ≡ true → one_of (path_sets g seat node) 0 ≡ true
root_on g seat node ok =
    on_path g seat node 0 (some_set g seat ok) (ap (λ p. begins p node) (ap (public_of g seat) (sym (root_number g seat)) ∙ public_at g seat [] (root_inner g ok)))

-- so are the sets at the node
node_on : (g : GameModel) (seat : ℕ) (node : List ℕ) (I : ℕ) → In I (root_sets g seat node) → one_of (path_sets g seat node) I ≡ true
node_on g seat node I i =
    let test : ℕ → Bool = λ I. begins (public_of g seat I) node && begins node (public_of g seat I) in
    let from = in_from_filter test (range_with_len 0 (length (sets g seat))) I (subst (In I) (root_sets_are g seat node) i) in
    on_path g seat node I (roots_below g seat node I i) (and_parts (begins (public_of g seat I) node) (begins node (public_of g seat I)) from.1).0

module _ (g : GameModel) (seat : ℕ) (is : IsSeat seat) (node : List ℕ) where
  -- the opponent's sets on the way to the node, and at it
  abbrev path_there_to : List ℕ
  path_there_to = path_sets g (other seat) node

  abbrev sets_there : List ℕ
  sets_there = root_sets g (other seat) node

  -- along a history the keeper stays outside, or the opponent comes to the node
  along : (h : History) → In h (histories g) → (stays_outside (span_from g seat node) (span_to g seat node) (path_along g seat h) || runs_to path_there_to sets_there (path_along g (other seat) h)) ≡ true
  along h i = at (history_cases g h i)
    where
      test : History → Bool
      test x = stays_outside (span_from g seat node) (span_to g seat node) (path_along g seat x) || runs_to path_there_to sets_there (path_along g (other seat) x)

      at : (h ≡ []) ⊎ Longer g (histories g) h → test h ≡ true
      at (inl q) = ap test q
      at (inr r) = by (begins node (public_list g r.before)) refl
        where
          by : (b : Bool) → begins node (public_list g r.before) ≡ b → test h ≡ true
          by true e =
              or_true (stays_outside (span_from g seat node) (span_to g seat node) (path_along g seat h)) (runs_to path_there_to sets_there (path_along g (other seat) h)) (runs g (other seat) node (length h) h (omega arith) r e)
          by false e = ap (λ b. b || runs_to path_there_to sets_there (path_along g (other seat) h)) (stays g seat node h r e)

  -- so it does on each row
  pub enclosed : (table : List ℕ) → encloses (strategy_of g seat table) path_there_to sets_there (span_from g seat node) (span_to g seat node) ≡ true
  enclosed table =
      and_from (list_all (one_of path_there_to) sets_there) (list_all test (form_of g).rows) (all_tests (one_of path_there_to) sets_there (node_on g (other seat) node))
      (all_tests test (form_of g).rows (λ z i.
      let r = in_from_map (row_along g) (ends_by_nodes g) z i in
      subst (λ z. test z ≡ true) r.2 (row_is r.0 (ends_there g r.0 r.1))))
    where
      test : Row → Bool
      test z = stays_outside (span_from g seat node) (span_to g seat node) (path_of z seat) || runs_to path_there_to sets_there (path_of z (other seat))

      row_is : (h : History) → In h (histories g) → test (row_along g h) ≡ true
      row_is h i =
          ap (λ p. stays_outside (span_from g seat node) (span_to g seat node) p || runs_to path_there_to sets_there (path_of (row_along g h) (other seat))) (row_path g seat is h)
          ∙ ap (λ p. stays_outside (span_from g seat node) (span_to g seat node) (path_along g seat h) || runs_to path_there_to sets_there p) (row_path g (other seat) (other_seat seat is) h)
          ∙ along h i

-- ---- a table that passes

module _ (g : GameModel) (ok : IsAccepted g) (seat : ℕ) (is : IsSeat seat) where
  -- the sets of a node are there
  pub nodes_there : (node : List ℕ) (table : List ℕ) → All (λ I. I < length (reply_sets (strategy_of g seat table))) (root_sets g (other seat) node)
  nodes_there node table =
      All-from_recursion (λ I. I < length (reply_sets (strategy_of g seat table))) (root_sets g (other seat) node)
      (all_from_in (λ I. I < length (reply_sets (strategy_of g seat table))) (root_sets g (other seat) node) (λ I i. subst (λ n. I < n) (sym (reply_count g ok seat is)) (roots_below g (other seat) node I i)))

  -- a table passes everywhere by bounds that are tight for it, whatever the allowances
  pub passes_tight : (table node : List ℕ) (B : ℕ → ℤ) → Tight (strategy_of g seat table) B → (allow : ℕ → ℕ) → Passes (strategy_of g seat table) B allow (root_sets g (other seat) node)
  passes_tight table node B tight allow k d l r isr =
      let s = strategy_of g seat table in
      let I = get_or (root_sets g (other seat) node) k d in
      le_trans_z _ _ _ ((tight I (nodes_there node table k d l)).bounds r isr) (mul_le_z (r.all ^ reply_factors s) (B I) (limit B allow I) (no_less (B I) (allow I)))
    where
      no_less : (a : ℤ) (n : ℕ) → a ≤ℤ (a +ℤ pos n)
      no_less a n = omega (arith, ints)

-- ---- a proposal

module _ (g : GameModel) (ok : IsAccepted g) (seat : ℕ) (is : IsSeat seat) (node table weights : List ℕ) (whole : length table ≡ weight_count g seat) (long : length weights ≡ weights_inside g seat node) where
  -- where the bounds hold and it has as many weights as the sets inside, it is for a part of the table
  pub part_of : (B : ℕ → ℤ) → Holds (strategy_of g seat table) B
      → IsPart (strategy_of g seat table) B (path_sets g (other seat) node) (root_sets g (other seat) node) (span_from g seat node) (span_to g seat node) weights
  part_of B hold = record {
    sound = sound g ok seat is table;
    keeps = form_for g ok seat is;
    table_holds = hold;
    in_order = subst (λ n. Ascends 0 n (path_sets g (other seat) node)) (sym (reply_count g ok seat is)) (path_law g (other seat) node);
    enclosed = enclosed g seat is node table;
    fits = subst (λ a. FitsSpan a (span_from g seat node) (span_to g seat node) table weights) (sym (actions_there g seat is)) (fits_span g seat node table weights whole long);
  }

  -- where it passes, by any rule, the most that replies earn is at most the bound at the first set
  pub never_rises : (B : ℕ → ℤ) → Holds (strategy_of g seat table) B → (rule : Rule)
      → Passes (strategy_of g seat (replaced g seat node table weights)) B (allowance rule (strategy_of g seat table) B (path_sets g (other seat) node)) (root_sets g (other seat) node)
      → best_response_value (strategy_of g seat (replaced g seat node table weights)) 0 ≤ℤ B 0
  never_rises B hold rule pass =
      let s = strategy_of g seat table in
      let start = span_from g seat node in
      let end = span_to g seat node in
      let after = replaced g seat node table weights in
      let path = path_sets g (other seat) node in
      let b = best_is g ok seat is after 0 (some_set g (other seat) ok.good) in
      let r = b.earns.0 in
      let acts = actions_there g seat is in
      let pass' : Passes (with_table s (spliced (actions_of (form_of g) seat) start end table weights)) B (allowance rule s B path) (root_sets g (other seat) node) =
      subst (λ a. Passes (with_table s (spliced a start end table weights)) B (allowance rule s B path) (root_sets g (other seat) node)) (sym acts) pass in
      let le = (safe_law s B path (root_sets g (other seat) node) start end weights (part_of B hold) rule pass' r b.earns.1).1 (root_on g (other seat) node ok.good) in
      let le' : earned (strategy_of g seat after) r 0 ≤ℤ (pos (r.all ^ reply_factors s) *ℤ B 0) =
      subst (λ a. earned (with_table s (spliced a start end table weights)) r 0 ≤ℤ (pos (r.all ^ reply_factors s) *ℤ B 0)) acts le in
      let one : pos (r.all ^ reply_factors s) *ℤ B 0 ≡ B 0 = ap (λ n. pos (n ^ reply_factors s) *ℤ B 0) b.earns.2 ∙ ap (λ n. pos n *ℤ B 0) (one_pow (reply_factors s)) ∙ one_mul_z (B 0) in
      subst (λ x. x ≤ℤ B 0) b.earns.3 (subst (λ x. earned (strategy_of g seat after) r 0 ≤ℤ x) one le')

  -- the law of local to global
  pub local_is_global : (B : ℕ → ℤ) → Tight (strategy_of g seat table) B → (rule : Rule)
      → Passes (strategy_of g seat (replaced g seat node table weights)) B (allowance rule (strategy_of g seat table) B (path_sets g (other seat) node)) (root_sets g (other seat) node)
      → best_response_value (strategy_of g seat (replaced g seat node table weights)) 0 ≤ℤ best_response_value (strategy_of g seat table) 0
  local_is_global B tight rule pass =
      let s = strategy_of g seat table in
      let hold : Holds s B = ((backed_up_law s (sound g ok seat is table) B).1 tight).bounds in
      let l = some_set g (other seat) ok.good in
      let first : B 0 ≡ best_response_value s 0 = best_unique s 0 (B 0) (best_response_value s 0) (tight 0 (subst (λ n. 0 < n) (sym (reply_count g ok seat is)) l)) (best_is g ok seat is table 0 l) in
      subst (λ x. best_response_value (strategy_of g seat (replaced g seat node table weights)) 0 ≤ℤ x) first (never_rises B hold rule pass)
