-- The allowance of a set on the path, by the step that it follows.
use Rattle.std.proofs.Common.{◌≡◌, ℕ, ◌+◌, ◌^◌, ◌<◌, ◌≤◌, pos, ◌+ℤ◌, ◌-ℤ◌, ◌≤ℤ◌, List, [], ◌∷◌, ◌++◌, map, take, length, get_or, set, Some, sym, ap, ◌∙◌, subst, arith}
use Rattle.std.specs.Prelude.{unsigned_abs}
use Rattle.std.specs.List.{range_with_len}
use Rattle.std.proofs.lemmas.List.{take_more, take-set, get_or-set_same, length-set, map-append}
use Rattle.std.proofs.lemmas.List.FromFn.{map-range_with_len_more}
use Rattle.lab_defs_value.specs.Rounding.{share_size, even_part}
use Rattle.lab_defs_value.specs.Allowances.{reach}
use Rattle.lab_defs_value.specs.Views as views
use Rattle.lab_units.specs.declared.worth.Worth.{Worth}
use Rattle.lab_rule.specs.declared.view.View.{View}
use Rattle.lab_rule.specs.Paths.{path_set_model, path_step_model}
use Rattle.lab_rule.specs.Rules.{worths_of}
use Rattle.lab_rule.specs.Views.{view_model}
use Rattle.lab_rule.proofs.CallerLemmas.{no_path_set, no_path_step, valid, path_set_is, path_step_is, sets_many, steps_many}
use Rattle.lab_rule_laws.proofs.ViewShares.{reach_is, allowances_small}

-- the allowance by reach of the set at a place
abbrev pub allow : View → ℕ → ℕ
allow v i = views.view_allowance reach (view_model v) i

-- none is too large
pub allow_small : (v : View) (i : ℕ) → i < length v.sets.now → allow v i ≤ 2 ^ 123
allow_small v i l = allowances_small (view_model v) (valid v) reach i (omega (arith, l, sets_many v))

-- a set that follows a step: the step and the set that it leaves are there, its numbers are small, and the set has its part of the pool
pub record IsAbove (v : View) (place number at : ℕ) : Type 0 where
  pub step : number < length v.steps.now
  pub lower : (get_or v.steps.now number no_path_step).from < place
  pub part : at < (get_or v.steps.now number no_path_step).count
  pub bound : unsigned_abs (get_or v.sets.now (get_or v.steps.now number no_path_step).from no_path_set).bound.0 ≤ 2 ^ 117
  pub through : unsigned_abs (get_or v.steps.now number no_path_step).through.0 ≤ 2 ^ 117
  pub kept : (get_or v.steps.now number no_path_step).through.0 ≤ℤ (get_or v.sets.now (get_or v.steps.now number no_path_step).from no_path_set).bound.0
  pub value : allow v place ≡ even_part (share_size (pos (allow v (get_or v.steps.now number no_path_step).from)
      +ℤ ((get_or v.sets.now (get_or v.steps.now number no_path_step).from no_path_set).bound.0 -ℤ (get_or v.steps.now number no_path_step).through.0))) (get_or v.steps.now number no_path_step).count at

pub is_above : (v : View) (place number at : ℕ) → place < length v.sets.now → (get_or v.sets.now place no_path_set).follows ≡ Some (number, at) → IsAbove v place number at
is_above v place number at l e =
    let V = view_model v in
    let ok = valid v in
    let low : place < length V.sets = omega (arith, l, sets_many v) in
    let follows : (views.path_set V place).follows ≡ Some (number, at) = ap (λ (s : views.PathSet). s.follows) (path_set_is v place l) ∙ e in
    let f = subst (views.IsFollow V place) follows (ok.follows place low) in
    let step : number < length v.steps.now = omega (arith, f.0, steps_many v) in
    let is = path_step_is v number step in
    let x = get_or v.steps.now number no_path_step in
    let lower : x.from < place = subst (λ (s : views.PathStep). s.from < place) is f.1 in
    let there : x.from < length v.sets.now = omega (arith, lower, l) in
    let before = path_set_is v x.from there in
    record {
      step = step;
      lower = lower;
      part = subst (λ (s : views.PathStep). at < s.count) is f.3;
      bound = subst (λ (s : views.PathSet). unsigned_abs s.bound ≤ 2 ^ 117) before (ok.bounds x.from (path_set_model no_path_set) (omega (arith, there, sets_many v)));
      through = subst (λ (s : views.PathStep). unsigned_abs s.through ≤ 2 ^ 117) is (ok.throughs number (path_step_model no_path_step) f.0);
      kept =
          subst (λ (s : views.PathSet). x.through.0 ≤ℤ s.bound) before
          (subst (λ (s : views.PathStep). s.through ≤ℤ (views.path_set V s.from).bound) is (ok.through number (path_step_model no_path_step) f.0));
      value =
          reach_is V ok place low ∙ ap (views.step_share V (views.view_allowance reach V)) follows
          ∙ ap (λ (s : views.PathStep). even_part (views.step_pool V (views.view_allowance reach V) s) s.count at) is
          ∙ ap (λ (s : views.PathSet). even_part (share_size (pos (allow v x.from) +ℤ (s.bound -ℤ x.through.0))) x.count at) before;
    }

-- one more allowance is written
pub written_more : (f : ℕ → ℕ) (out : List Worth) (n : ℕ) (w : Worth) → n < length out → take n out ≡ worths_of (map f (range_with_len 0 n)) → w ≡ record { 0 = pos (f n) }
    → take (n + 1) (set out n w) ≡ worths_of (map f (range_with_len 0 (n + 1)))
written_more f out n w l e is =
    let nothing : Worth = record { 0 = pos 0 } in
    take_more (set out n w) n nothing (omega (arith, l, length-set out n w))
    ∙ ap (λ (ws : List Worth). ws ++ get_or (set out n w) n nothing ∷ []) (take-set out n w ∙ e)
    ∙ ap (λ (x : Worth). worths_of (map f (range_with_len 0 n)) ++ x ∷ []) (get_or-set_same out n w nothing l ∙ is)
    ∙ sym (map-append (λ n. record { 0 = pos n }) (map f (range_with_len 0 n)) (f n ∷ []))
    ∙ ap worths_of (sym (map-range_with_len_more f 0 n n (omega arith)))
