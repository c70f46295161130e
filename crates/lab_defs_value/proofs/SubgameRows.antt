-- A row of a subgame is worth by the keeper's weights inside what the whole row is worth by its table with them.
use Rattle.std.proofs.Common.{◌≡◌, ℕ, zero, suc, ◌+◌, ◌-◌, ◌*◌, ◌^◌, ◌<◌, ◌≤◌, pos, ◌*ℤ◌, List, [], ◌∷◌, take, drop, get_or, Bool, true, false, cond, eqb, ◌&&◌, ◌||◌, refl, sym, ap, ◌∙◌, subst, arith, inl, inr, ◌⊎◌, zero-add, suc-add}
use Rattle.std.specs.Prelude.{nat_lt, nat_le, not, slice_index, slice_range}
use Rattle.std.specs.List.{AllByRecursion}
use Rattle.std.proofs.lemmas.Bool.{and_parts, leb-true, le-leb, lt-ltb, ltb-true, cases_lt}
use Rattle.std.proofs.lemmas.List.{get_or-take, get_or-drop, take-take, take-map, drop-map}
use Rattle.std.proofs.lemmas.List.Elements.{recursion_from_All}
use Rattle.lab_math.specs.Sums.{sum_over, product_over}
use Rattle.lab_math.proofs.Integers.{mul_assoc_z, pos-mul}
use Rattle.lab_defs_game.specs.Forms.{FormSet, Row, actions_in, path_of, pad_of, decides, deciding}
use Rattle.lab_defs_game.specs.Paths.{SetAction}
use Rattle.lab_defs_value.specs.Tables.{weights_of, first_weight, factor, own_weight}
use Rattle.lab_defs_value.specs.Splices.{FitsSpan, spliced}
use Rattle.lab_defs_value.specs.Subgames.{Span, is_inside, inside, before, renumbered, inner_set, span_actions, Part, span_of, weight_before, subgame_row}
use Rattle.lab_defs_value.specs.MatchingLaws.{SubgameLaw}
use Rattle.lab_defs_value.proofs.GadgetSets.{map_both}
use Rattle.lab_defs_value.proofs.Splicing.{splice_law, factor_outside}

-- ---- the sets of a span

-- what a list has at a place, a part of it has at the place less its start
pub set_inside : (ns : List ℕ) (start end J : ℕ) → start ≤ J → J < end → slice_index (slice_range ns start end) (J - start) ≡ slice_index ns J
set_inside ns start end J ge l =
    let same : start + (J - start) ≡ J = omega (arith, ge) in
    get_or-take (end - start) (drop start ns) (J - start) 0 (omega (arith, ge, l)) ∙ get_or-drop start ns (J - start) 0 ∙ ap (λ k. get_or ns k 0) same

-- the numbers of actions inside a span are a part of all
pub span_actions_are : (s : Span) → span_actions s ≡ slice_range (actions_in s.sets) s.start s.end
span_actions_are s =
    map_both (λ (x : FormSet). x.actions) (inner_set s) (λ x. x.actions) (slice_range s.sets s.start s.end) (λ x. refl)
    ∙ sym (take-map (λ (x : FormSet). x.actions) (s.end - s.start) (drop s.start s.sets))
    ∙ sym (ap (take (s.end - s.start)) (drop-map (λ (x : FormSet). x.actions) s.start s.sets))

-- a set inside has the actions that it has
pub actions_inside : (s : Span) (J : ℕ) → s.start ≤ J → J < s.end → slice_index (span_actions s) (J - s.start) ≡ slice_index (actions_in s.sets) J
actions_inside s J ge l = ap (λ ns. slice_index ns (J - s.start)) (span_actions_are s) ∙ set_inside (actions_in s.sets) s.start s.end J ge l

-- no sets have no weights
no_weights : (k : ℕ) → first_weight [] k ≡ 0
no_weights zero = refl
no_weights (suc k) = refl

-- the weights of the first sets are those before a place and those after it
pub first_weight_from : (ns : List ℕ) (start k : ℕ) → first_weight ns (start + k) ≡ first_weight ns start + first_weight (drop start ns) k
first_weight_from ns zero k = ap (first_weight ns) (zero-add k) ∙ omega arith
first_weight_from [] (suc start) k = no_weights (suc start + k) ∙ sym (ap (λ x. 0 + x) (no_weights k))
first_weight_from (n ∷ ns) (suc start) k = ap (first_weight (n ∷ ns)) (suc-add start k) ∙ ap (λ x. weights_of n + x) (first_weight_from ns start k) ∙ omega arith

-- the first weight of a set inside, among those of the span
pub weight_inside : (ns : List ℕ) (start end J : ℕ) → start ≤ J → J < end → first_weight (slice_range ns start end) (J - start) ≡ first_weight ns J - first_weight ns start
weight_inside ns start end J ge l =
    let same : start + (J - start) ≡ J = omega (arith, ge) in
    let both : first_weight ns J ≡ first_weight ns start + first_weight (drop start ns) (J - start) = ap (first_weight ns) (sym same) ∙ first_weight_from ns start (J - start) in
    ap (sum_over weights_of) (take-take (J - start) (end - start) (drop start ns) (omega (arith, ge, l))) ∙ omega (arith, both)

-- so of a set inside a span
first_inside : (s : Span) (J : ℕ) → s.start ≤ J → J < s.end → first_weight (span_actions s) (J - s.start) ≡ first_weight (actions_in s.sets) J - first_weight (actions_in s.sets) s.start
first_inside s J ge l = ap (λ ns. first_weight ns (J - s.start)) (span_actions_are s) ∙ weight_inside (actions_in s.sets) s.start s.end J ge l

-- ---- the factors on a path

-- a step that is not inside is before the span or after it
pub not_inside : (start end J : ℕ) → (nat_le start J && nat_lt J end) ≡ false → (nat_lt J start || nat_le end J) ≡ true
not_inside start end J e = at (cases_lt J start) (cases_lt J end)
  where
    at : (J < start) ⊎ (start ≤ J) → (J < end) ⊎ (end ≤ J) → (nat_lt J start || nat_le end J) ≡ true
    at (inl l) h = ap (λ b. b || nat_le end J) (lt-ltb J start l)
    at (inr ge) (inl l) = absurd (clash (sym (ap (λ b. b && nat_lt J end) (le-leb start J ge) ∙ lt-ltb J end l) ∙ e))
      where
        clash : true ≡ false → ⊥
        clash e = cc
    at (inr ge) (inr le) = ap (λ b. nat_lt J start || b) (le-leb end J le) ∙ or_true (nat_lt J start)
      where
        or_true : (b : Bool) → (b || true) ≡ true
        or_true true = refl
        or_true false = refl

-- inside the span the factors of the spliced table are those of the weights put in
factor_inside : (s : Span) (table weights : List ℕ) → FitsSpan (actions_in s.sets) s.start s.end table weights → (t : SetAction) → t.action < slice_index (actions_in s.sets) t.set → is_inside s t ≡ true
    → factor (actions_in s.sets) (spliced (actions_in s.sets) s.start s.end table weights) t ≡ factor (span_actions s) weights (record { set = t.set - s.start; action = t.action })
factor_inside s table weights fits t l e =
    let parts = and_parts (nat_le s.start t.set) (nat_lt t.set s.end) e in
    let ge : s.start ≤ t.set = leb-true s.start t.set parts.0 in
    let lt : t.set < s.end = ltb-true t.set s.end parts.1 in
    by ge lt (decides (actions_in s.sets) t.set) refl
  where
    by : s.start ≤ t.set → t.set < s.end → (b : Bool) → decides (actions_in s.sets) t.set ≡ b
        → cond b (slice_index (spliced (actions_in s.sets) s.start s.end table weights) (first_weight (actions_in s.sets) t.set + t.action)) 1 ≡ factor (span_actions s) weights (record { set = t.set - s.start; action = t.action })
    by ge lt true d =
        let there : decides (span_actions s) (t.set - s.start) ≡ true = ap (nat_le 2) (actions_inside s t.set ge lt) ∙ d in
        (splice_law (actions_in s.sets) s.start s.end table weights fits).2 t.set t.action ge lt d l
        ∙ ap (λ k. slice_index weights (k + t.action)) (sym (first_inside s t.set ge lt))
        ∙ sym (ap (λ b. cond b (slice_index weights (first_weight (span_actions s) (t.set - s.start) + t.action)) 1) there)
    by ge lt false d =
        let there : decides (span_actions s) (t.set - s.start) ≡ false = ap (nat_le 2) (actions_inside s t.set ge lt) ∙ d in
        sym (ap (λ b. cond b (slice_index weights (first_weight (span_actions s) (t.set - s.start) + t.action)) 1) there)

-- so the weights of the spliced table on a path are the table's before, and the weights put in inside
path_spliced : (s : Span) (table weights : List ℕ) → FitsSpan (actions_in s.sets) s.start s.end table weights → (path : List SetAction) → AllByRecursion (λ t. t.action < slice_index (actions_in s.sets) t.set) path
    → product_over (factor (actions_in s.sets) (spliced (actions_in s.sets) s.start s.end table weights)) path
    ≡ product_over (factor (actions_in s.sets) table) (before s path) * product_over (factor (span_actions s) weights) (renumbered s (inside s path))
path_spliced s table weights fits [] h = refl
path_spliced s table weights fits (t ∷ ts) h = at (is_inside s t) refl (path_spliced s table weights fits ts h.1)
  where
    old : SetAction → ℕ
    old = factor (actions_in s.sets) table

    new : SetAction → ℕ
    new = factor (span_actions s) weights

    whole : SetAction → ℕ
    whole = factor (actions_in s.sets) (spliced (actions_in s.sets) s.start s.end table weights)

    regroup : (a b c d : ℕ) → a ≡ c → a * (b * d) ≡ b * (c * d)
    regroup a b c d e = ap (λ x. x * (b * d)) e ∙ omega arith

    regroup' : (a b c d : ℕ) → a ≡ c → a * (b * d) ≡ c * b * d
    regroup' a b c d e = ap (λ x. x * (b * d)) e ∙ omega arith

    at : (b : Bool) → is_inside s t ≡ b → product_over whole ts ≡ product_over old (before s ts) * product_over new (renumbered s (inside s ts))
        → whole t * product_over whole ts ≡ product_over old (cond (not b) (t ∷ before s ts) (before s ts)) * product_over new (renumbered s (cond b (t ∷ inside s ts) (inside s ts)))
    at true e rest =
        ap (λ x. whole t * x) rest
        ∙ regroup (whole t) (product_over old (before s ts)) (new (record { set = t.set - s.start; action = t.action })) (product_over new (renumbered s (inside s ts))) (factor_inside s table weights fits t h.0 e)
    at false e rest =
        ap (λ x. whole t * x) rest
        ∙ regroup' (whole t) (product_over old (before s ts)) (old t) (product_over new (renumbered s (inside s ts))) (factor_outside (actions_in s.sets) s.start s.end table weights fits t h.0 (not_inside s.start s.end t.set e))

-- ---- the row of a subgame

-- it has the keeper's path inside
inner_path : (p : Part) (z : Row) → path_of (subgame_row p z) p.keeper ≡ renumbered (span_of p p.keeper) (inside (span_of p p.keeper) (path_of z p.keeper))
inner_path p z = at (eqb p.keeper 1)
  where
    at : (b : Bool) → cond b (renumbered p.span1 (inside p.span1 z.path1)) (renumbered p.span2 (inside p.span2 z.path2)) ≡ renumbered (cond b p.span1 p.span2) (inside (cond b p.span1 p.span2) (cond b z.path1 z.path2))
    at true = refl
    at false = refl

-- and the keeper's pad
inner_pad : (p : Part) (z : Row) → (p.keeper ≡ 1) ⊎ (p.keeper ≡ 2) → pad_of (subgame_row p z) p.keeper ≡ pad_of z p.keeper
inner_pad p z seat = at seat
  where
    Kept : ℕ → Type 0
    Kept k =
        cond (eqb k 1) (cond (eqb 1 k) z.pad1 (p.factors - deciding (actions_in p.span1.sets) (inside p.span1 z.path1))) (cond (eqb 2 k) z.pad2 (p.factors - deciding (actions_in p.span2.sets) (inside p.span2 z.path2)))
        ≡ cond (eqb k 1) z.pad1 z.pad2

    at : (p.keeper ≡ 1) ⊎ (p.keeper ≡ 2) → Kept p.keeper
    at (inl e) = subst Kept (sym e) refl
    at (inr e) = subst Kept (sym e) refl

-- the law of the rows of a subgame
pub subgame_law : SubgameLaw
subgame_law p grid weights z seat fits there =
    let k = p.keeper in
    let s = span_of p k in
    let path = path_of z k in
    let old = weight_before p z in
    let new = product_over (factor (span_actions s) weights) (renumbered s (inside s path)) in
    let same = path_spliced s p.table weights fits path (recursion_from_All (λ (t : SetAction). t.action < slice_index (actions_in s.sets) t.set) path there) in
    ap (λ q. z.worth *ℤ pos old *ℤ pos (own_weight grid (span_actions s) weights q (pad_of (subgame_row p z) k))) (inner_path p z)
    ∙ ap (λ n. z.worth *ℤ pos old *ℤ pos (new * grid ^ n)) (inner_pad p z seat)
    ∙ mul_assoc_z z.worth (pos old) (pos (new * grid ^ pad_of z k))
    ∙ ap (λ x. z.worth *ℤ x) (sym (pos-mul old (new * grid ^ pad_of z k)))
    ∙ ap (λ n. z.worth *ℤ pos n) (mul_out old new (grid ^ pad_of z k) ∙ ap (λ n. n * grid ^ pad_of z k) (sym same))
  where
    mul_out : (a b c : ℕ) → a * (b * c) ≡ (a * b) * c
    mul_out a b c = omega arith
