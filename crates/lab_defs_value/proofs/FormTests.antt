-- The test whether a form is well made.
use Rattle.std.proofs.Common.{◌≡◌, ℕ, zero, suc, ◌<◌, ◌≤◌, List, [], ◌∷◌, true, ◌&&◌, eqb, Option, Some, None, length, get_or, refl, subst, ap, ◌∙◌, eqb-true, eq-eqb, arith}
use Rattle.std.specs.Prelude.{nat_lt, nat_le, slice_index}
use Rattle.std.specs.List.{list_all, range_with_len}
use Rattle.std.proofs.lemmas.Bool.{and_parts, and_from, leb-true, ltb-true, le-leb, lt-ltb}
use Rattle.std.proofs.lemmas.List.Sums.{list_all-from_AllPass}
use Rattle.lab_math.proofs.Ranges.{list_all_get, range_all_at, range_all_from}
use Rattle.lab_defs_game.specs.Forms.{FormSet, Row, sets_of, actions_in, actions_of, path_of, parent_of, chain}
use Rattle.lab_defs_game.specs.Paths.{SetAction, last_step}
use Rattle.lab_defs_value.specs.Parents.{IsStepBelow, IsChain, is_step_below, same_path, is_chain}
use Rattle.lab_defs_value.specs.Laws.{FormTestLaw}

-- a step is below a number where the test says so
below_is : (ns : List ℕ) (n : ℕ) (step : Option SetAction) → is_step_below ns n step ≡ true → IsStepBelow ns n step
below_is ns n None e = tt
below_is ns n (Some t) e =
    let h = and_parts (nat_lt t.set n) (nat_lt t.action (slice_index ns t.set)) e in
    (ltb-true t.set n h.0, ltb-true t.action (slice_index ns t.set) h.1)

-- and only there
below_test : (ns : List ℕ) (n : ℕ) (step : Option SetAction) → IsStepBelow ns n step → is_step_below ns n step ≡ true
below_test ns n None h = refl
below_test ns n (Some t) h = and_from (nat_lt t.set n) (nat_lt t.action (slice_index ns t.set)) (lt-ltb t.set n h.0) (lt-ltb t.action (slice_index ns t.set) h.1)

-- paths are equal where the test says so
path_same_is : (p q : List SetAction) → same_path p q ≡ true → p ≡ q
path_same_is [] [] e = refl
path_same_is [] (u ∷ us) e = cc
path_same_is (t ∷ ts) [] e = cc
path_same_is (t ∷ ts) (u ∷ us) e =
    let a = and_parts (eqb t.set u.set) (eqb t.action u.action && same_path ts us) e in
    let b = and_parts (eqb t.action u.action) (same_path ts us) a.1 in
    ap (λ k. record { set = k; action = t.action } ∷ ts) (eqb-true t.set u.set a.0)
    ∙ ap (λ k. record { set = u.set; action = k } ∷ ts) (eqb-true t.action u.action b.0)
    ∙ ap (λ vs. u ∷ vs) (path_same_is ts us b.1)

-- a path is one with itself
path_same_self : (p : List SetAction) → same_path p p ≡ true
path_same_self [] = refl
path_same_self (t ∷ ts) =
    and_from (eqb t.set t.set) (eqb t.action t.action && same_path ts ts) (eq-eqb t.set t.set refl)
    (and_from (eqb t.action t.action) (same_path ts ts) (eq-eqb t.action t.action refl) (path_same_self ts))

-- a path is a chain of parents where the test says so
chain_is : (sets : List FormSet) (path : List SetAction) → is_chain sets path ≡ true → IsChain sets path
chain_is sets path e =
    let h = and_parts (is_step_below (actions_in sets) (length sets) (last_step path)) (same_path path (chain sets (last_step path))) e in record {
      there = below_is (actions_in sets) (length sets) (last_step path) h.0;
      parents = path_same_is path (chain sets (last_step path)) h.1;
    }

-- and only there
chain_test : (sets : List FormSet) (path : List SetAction) → IsChain sets path → is_chain sets path ≡ true
chain_test sets path h =
    and_from (is_step_below (actions_in sets) (length sets) (last_step path)) (same_path path (chain sets (last_step path)))
    (below_test (actions_in sets) (length sets) (last_step path) h.there)
    (subst (λ p. same_path path p ≡ true) h.parents (path_same_self path))

-- at a place that is there it does not matter what is read elsewhere
there : (ns : List ℕ) (k d : ℕ) → k < length ns → 1 ≤ slice_index ns k → 1 ≤ get_or ns k d
there [] k d l h = absurd (omega (arith, l))
there (n ∷ ns) zero d l h = h
there (n ∷ ns) (suc k) d l h = there ns k d (omega (arith, l)) h

-- the law of the test
pub form_test_law : FormTestLaw
form_test_law f seat =
    let ns = actions_of f seat in
    let n = length ns in
    let some = λ (m : ℕ). nat_le 1 m in
    let earlier = λ (J : ℕ). is_step_below ns J (parent_of f seat J) in
    let fits = λ (z : Row). is_chain (sets_of f seat) (path_of z seat) in
    let parents = list_all earlier (range_with_len 0 n) in
    let paths = list_all fits f.rows in (
      λ e.
          let a = and_parts (list_all some ns) (parents && paths) e in
          let b = and_parts parents paths a.1 in
          record {
            some_action = λ J l. leb-true 1 (slice_index ns J) (list_all_get some ns J 0 l a.0);
            parents = λ J l. below_is ns J (parent_of f seat J) (range_all_at earlier 0 n J b.0 (omega arith) (omega (arith, l)));
            paths = λ k d l. chain_is (sets_of f seat) (path_of (get_or f.rows k d) seat) (list_all_get fits f.rows k d l b.1);
          },
      λ h. and_from (list_all some ns) (parents && paths) (list_all-from_AllPass some ns (λ k d l. le-leb 1 (get_or ns k d) (there ns k d l (h.some_action k l))))
          (and_from parents paths (range_all_from earlier 0 n (λ J x l. below_test ns J (parent_of f seat J) (h.parents J (omega (arith, l)))))
          (list_all-from_AllPass fits f.rows (λ k d l. chain_test (sets_of f seat) (path_of (get_or f.rows k d) seat) (h.paths k d l)))),
    )
