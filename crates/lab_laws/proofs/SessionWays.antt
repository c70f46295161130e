-- The keeper comes into a span only where the opponent comes along the path to its node.
use Rattle.std.proofs.Common.{◌≡◌, ℕ, zero, suc, ◌+◌, ◌≤◌, List, [], ◌∷◌, ◌++◌, Bool, true, false, cond, not, ◌&&◌, ◌||◌, length, map, refl, sym, ap, ◌∙◌, subst, arith, inl, inr, ◌⊎◌, length-append}
use Rattle.std.specs.Prelude.{nat_le, nat_lt}
use Rattle.std.specs.List.{list_all}
use Rattle.std.proofs.lemmas.Bool.{and_parts, both_ways, false_from_ne_true, not-true}
use Rattle.std.proofs.lemmas.List.{length_push}
use Rattle.lab_defs_text.specs.Texts.{one_of}
use Rattle.lab_math.proofs.ListTests.{all_push}
use Rattle.lab_math.proofs.Members.{In}
use Rattle.lab_defs_text.specs.Games.{GameModel}
use Rattle.lab_defs_game.specs.Histories.{History, outcome_of, reached, histories, inner_histories}
use Rattle.lab_defs_game.specs.Sets.{seen, sets, set_cmp, set_number, public_list, publics}
use Rattle.lab_defs_game.specs.Nodes.{begins, span_from, span_to, path_sets, root_sets, public_of}
use Rattle.lab_defs_game.specs.Paths.{SetAction, path_along}
use Rattle.lab_defs_game.proofs.Orders.{set_total}
use Rattle.lab_defs_game.proofs.NumberLemmas.{at_number}
use Rattle.lab_defs_game.proofs.GameLemmas.{Longer, history_cases, before_inner, set_has, sets_ascending, publics_seen, public_push}
use Rattle.lab_defs_game.proofs.SetNumbers.{begins_itself, path_sets_are, root_sets_are}
use Rattle.lab_defs_game.proofs.Ways.{begins_shorter, begins_cases}
use Rattle.lab_defs_game.proofs.TreeLaws.{begins_law}
use Rattle.lab_defs_game.proofs.FormLemmas.{set_below}
use Rattle.lab_defs_value.specs.Splices.{stays_outside, leaves, runs_to}
use Rattle.lab_defs_value.specs.Subgames.{Span, span_at, is_inside, inside, renumbered_step}
use Rattle.lab_defs_value.proofs.GameForms.{longer_path, shorter, taken_at}
use Rattle.lab_defs_value.proofs.Lying.{lies_below}
use Rattle.lab_defs_value.proofs.SubgameRows.{not_inside}
use Rattle.lab_defs_value.proofs.SubgameForms.{inner, inside_is, none_inside}

-- ---- one more step of a path

-- a step on the way to a node: at a set of the path, and none of the node's
abbrev pub on_way : List ℕ → List ℕ → SetAction → Bool
on_way path node t = one_of path t.set && not (one_of node t.set)

-- steps on the way, and then one at the node, run to it
runs_first : (path node : List ℕ) (q : List SetAction) (t : SetAction) → list_all (on_way path node) q ≡ true → one_of node t.set ≡ true → runs_to path node (q ++ t ∷ []) ≡ true
runs_first path node [] t all on = ap (λ b. cond b true (one_of path t.set && false)) on
runs_first path node (u ∷ q) t all on =
    let a = and_parts (on_way path node u) (list_all (on_way path node) q) all in
    let b = and_parts (one_of path u.set) (not (one_of node u.set)) a.0 in
    ap (λ c. cond c (leaves path (q ++ t ∷ [])) (one_of path u.set && runs_to path node (q ++ t ∷ []))) (not-true (one_of node u.set) b.1)
    ∙ ap (λ c. c && runs_to path node (q ++ t ∷ [])) b.0 ∙ runs_first path node q t a.1 on

-- a path that runs to the node does so with one more step off the path
runs_on : (path node : List ℕ) (q : List SetAction) (t : SetAction) → runs_to path node q ≡ true → one_of path t.set ≡ false → runs_to path node (q ++ t ∷ []) ≡ true
runs_on path node [] t e off = absurd (both_ways false refl e)
runs_on path node (u ∷ q) t e off = at (one_of node u.set) e (λ k. runs_on path node q t k off)
  where
    at : (b : Bool) → cond b (leaves path q) (one_of path u.set && runs_to path node q) ≡ true → (runs_to path node q ≡ true → runs_to path node (q ++ t ∷ []) ≡ true)
        → cond b (leaves path (q ++ t ∷ [])) (one_of path u.set && runs_to path node (q ++ t ∷ [])) ≡ true
    at true e rest = all_push (λ (v : SetAction). not (one_of path v.set)) q t e (ap not off)
    at false e rest =
        let p = and_parts (one_of path u.set) (runs_to path node q) e in
        ap (λ c. c && runs_to path node (q ++ t ∷ [])) p.0 ∙ rest p.1

-- a path of which nothing is inside stays outside
pub none_out : (s : Span) (path : List SetAction) → inner s path ≡ [] → stays_outside s.start s.end path ≡ true
none_out s [] e = refl
none_out s (t ∷ ts) e = at (is_inside s t) refl e (λ k. none_out s ts k)
  where
    at : (b : Bool) → is_inside s t ≡ b → map (renumbered_step s) (cond b (t ∷ inside s ts) (inside s ts)) ≡ [] → (inner s ts ≡ [] → stays_outside s.start s.end ts ≡ true)
        → (nat_lt t.set s.start || nat_le s.end t.set) && stays_outside s.start s.end ts ≡ true
    at true q e rest = absurd cc
    at false q e rest = ap (λ b. b && stays_outside s.start s.end ts) (not_inside s.start s.end t.set q) ∙ rest e

-- ---- public lists

-- what begins a list is no longer
begins_short : (P Q : List ℕ) → begins P Q ≡ true → length P ≤ length Q
begins_short P Q e = let r = (begins_law P Q).0 e in let long : length Q ≡ length P + length r.0 = ap length r.1 ∙ length-append P r.0 in omega (arith, long)

-- nothing but nothing begins nothing
begins_none : (P : List ℕ) → begins P [] ≡ true → P ≡ []
begins_none [] e = refl
begins_none (x ∷ xs) e = absurd (both_ways false refl e)

-- the public list of a history's set is the history's
pub public_at : (g : GameModel) (seat : ℕ) (k : History) → In k (inner_histories g) → public_of g seat (set_number g seat (seen g seat k)) ≡ public_list g k
public_at g seat k j = ap publics (at_number set_cmp set_total (sets g seat) (seen g seat k) [] (sets_ascending g seat) (set_has g seat k j)) ∙ publics_seen g seat g.root k

-- ---- along a history

module _ (g : GameModel) (seat : ℕ) (node : List ℕ) where
  -- the set of a history
  abbrev number : History → ℕ
  number k = set_number g seat (seen g seat k)

  -- it is on the path exactly where its public list begins the node's
  path_is : (k : History) → In k (inner_histories g) → one_of (path_sets g seat node) (number k) ≡ begins (public_list g k) node
  path_is k j =
      ap (λ xs. one_of xs (number k)) (path_sets_are g seat node) ∙ lies_below (λ I. begins (public_of g seat I) node) (length (sets g seat)) (number k) (set_below g seat k j)
      ∙ ap (λ p. begins p node) (public_at g seat k j)

  -- it is one of the node's exactly where its public list is the node's
  node_is : (k : History) → In k (inner_histories g) → one_of (root_sets g seat node) (number k) ≡ (begins (public_list g k) node && begins node (public_list g k))
  node_is k j =
      ap (λ xs. one_of xs (number k)) (root_sets_are g seat node)
      ∙ lies_below (λ I. begins (public_of g seat I) node && begins node (public_of g seat I)) (length (sets g seat)) (number k) (set_below g seat k j)
      ∙ ap (λ p. begins p node && begins node p) (public_at g seat k j)

  -- a step further
  pub longer_list : (h : History) (r : Longer g (histories g) h) → public_list g h ≡ public_list g r.before ++ (outcome_of g (reached g g.root r.before) r.step).public ∷ []
  longer_list h r = ap (public_list g) r.made ∙ public_push g g.root r.before r.step

  -- along a history whose public list begins the node's, all steps are on the way
  way : (n : ℕ) (h : History) → length h ≤ n → In h (histories g) → begins (public_list g h) node ≡ true → list_all (on_way (path_sets g seat node) (root_sets g seat node)) (path_along g seat h) ≡ true
  way zero [] le i e = refl
  way zero (s ∷ h) le i e = absurd (omega (arith, le))
  way (suc n) h le i e = at (history_cases g h i) (λ h l i e. way n h l i e)
    where
      test : SetAction → Bool
      test = on_way (path_sets g seat node) (root_sets g seat node)

      at : (h ≡ []) ⊎ Longer g (histories g) h → ((h : History) → length h ≤ n → In h (histories g) → begins (public_list g h) node ≡ true → list_all test (path_along g seat h) ≡ true)
          → list_all test (path_along g seat h) ≡ true
      at (inl q) rest = ap (λ x. list_all test (path_along g seat x)) q
      at (inr r) rest =
          let k = r.before in
          let x : ℕ = (outcome_of g (reached g g.root k) r.step).public in
          let be : begins (public_list g k ++ x ∷ []) node ≡ true = sym (ap (λ p. begins p node) (longer_list h r)) ∙ e in
          let before = begins_shorter (public_list g k) x node be in
          let after : begins node (public_list g k) ≡ false =
          false_from_ne_true (begins node (public_list g k)) (λ f. absurd (omega (arith, begins_short node (public_list g k) f, begins_short (public_list g k ++ x ∷ []) node be, length_push (public_list g k) x))) in
          let j = before_inner g h r in
          let on = path_is k j ∙ before in
          let off = node_is k j ∙ ap (λ b. b && begins node (public_list g k)) before ∙ after in
          ap (list_all test) (longer_path g seat h r)
          ∙ all_push test (path_along g seat k) (taken_at g seat k r.step) (rest k (shorter g seat n h r le) r.there before)
          (ap (λ b. b && not (one_of (root_sets g seat node) (number k))) on ∙ ap not off)

  -- a history that goes on from one whose public list the node's begins comes along the way to the node, and leaves the path there
  pub runs : (n : ℕ) (h : History) → length h ≤ n → (r : Longer g (histories g) h) → begins node (public_list g r.before) ≡ true
      → runs_to (path_sets g seat node) (root_sets g seat node) (path_along g seat h) ≡ true
  runs zero h le r e = absurd (omega (arith, le, ap length r.made ∙ length_push r.before r.step))
  runs (suc n) h le r e = at (history_cases g k r.there) (λ h l r e. runs n h l r e)
    where
      k : History
      k = r.before

      j : In k (inner_histories g)
      j = before_inner g h r

      path : List ℕ
      path = path_sets g seat node

      here : List ℕ
      here = root_sets g seat node

      t : SetAction
      t = taken_at g seat k r.step

      come : node ≡ public_list g k → runs_to path here (path_along g seat k ++ t ∷ []) ≡ true
      come q =
          let begun : begins (public_list g k) node ≡ true = subst (λ p. begins (public_list g k) p ≡ true) (sym q) (begins_itself (public_list g k)) in
          runs_first path here (path_along g seat k) t (way (length k) k (omega arith) r.there begun) (node_is k j ∙ ap (λ b. b && begins node (public_list g k)) begun ∙ e)

      by : (k ≡ []) ⊎ Longer g (histories g) k → ((h : History) → length h ≤ n → (r : Longer g (histories g) h) → begins node (public_list g r.before) ≡ true → runs_to path here (path_along g seat h) ≡ true)
          → runs_to path here (path_along g seat k ++ t ∷ []) ≡ true
      by (inl q) rest = let none : public_list g k ≡ [] = ap (public_list g) q in come (begins_none node (subst (λ p. begins node p ≡ true) none e) ∙ sym none)
      by (inr s) rest = go (begins_cases node (public_list g s.before) x (subst (λ p. begins node p ≡ true) (longer_list k s) e))
        where
          x : ℕ
          x = (outcome_of g (reached g g.root s.before) s.step).public

          go : (begins node (public_list g s.before) ≡ true) ⊎ (node ≡ public_list g s.before ++ x ∷ []) → runs_to path here (path_along g seat k ++ t ∷ []) ≡ true
          go (inr q) = come (q ∙ sym (longer_list k s))
          go (inl b) =
              let long : length (public_list g k) ≡ length (public_list g s.before) + 1 = ap length (longer_list k s) ∙ length_push (public_list g s.before) x in
              let off : begins (public_list g k) node ≡ false =
              false_from_ne_true (begins (public_list g k) node) (λ f. absurd (omega (arith, begins_short (public_list g k) node f, begins_short node (public_list g s.before) b, long))) in
              runs_on path here (path_along g seat k) t (rest k (shorter g seat n h r le) s b) (path_is k j ∙ off)

      at : (k ≡ []) ⊎ Longer g (histories g) k → ((h : History) → length h ≤ n → (r : Longer g (histories g) h) → begins node (public_list g r.before) ≡ true → runs_to path here (path_along g seat h) ≡ true)
          → runs_to path here (path_along g seat h) ≡ true
      at c rest = ap (runs_to path here) (longer_path g seat h r) ∙ by c rest

  -- one that goes on from another stays outside the span
  pub stays : (h : History) (r : Longer g (histories g) h) → begins node (public_list g r.before) ≡ false → stays_outside (span_from g seat node) (span_to g seat node) (path_along g seat h) ≡ true
  stays h r e =
      let k = r.before in
      let span = span_at g seat node in
      let t = taken_at g seat k r.step in
      ap (stays_outside span.start span.end) (longer_path g seat h r)
      ∙ all_push (λ (v : SetAction). nat_lt v.set span.start || nat_le span.end v.set) (path_along g seat k) t
      (none_out span (path_along g seat k) (none_inside g seat node (length k) k (omega arith) r.there e))
      (not_inside span.start span.end t.set (inside_is g seat node k r.step (before_inner g h r) ∙ e))
