-- The two subgames have views.
use Rattle.std.proofs.Common.{◌≡◌, ℕ, zero, suc, ◌^◌, ◌<◌, ◌≤◌, inl, [], ◌∷◌, get_or, None, refl, arith}
use Rattle.std.specs.Prelude.{◌↔◌, unsigned_abs, ◌≤ℤ◌}
use Rattle.std.proofs.lemmas.Int.{ints}
use Rattle.lab_defs_game.specs.Keys.{count}
use Rattle.lab_defs_game.specs.Forms as model
use Rattle.lab_defs_value.specs.Replies.{factors_in}
use Rattle.lab_defs_value.specs.Smallness.{IsSmall, row_size, factors_at}
use Rattle.lab_defs_value.specs.Views as views
use Rattle.lab_defs_value.proofs.FormTests.{form_test_law}
use Rattle.lab_form.specs.Forms.{form_model}
use Rattle.lab_rule.specs.Paths.{view_in}
use Rattle.lab_rule_tests.specs.Examples.{two_form, two_path, two_steps, single_form, single_path}

-- ---- two root sets

abbrev pub two_view : views.View
two_view = view_in 1 (2 ∷ 3 ∷ []) two_form two_path two_steps 2

two_small : IsSmall 2 3 (form_model two_form)
two_small = record {
  grids = (omega arith, omega arith, omega arith, omega arith);
  few = omega arith;
  rows = rows;
  actions = (one, two);
  ways = (ways1, ways2);
}
  where
    rows : (k : ℕ) (d : model.Row) → k < 3 → row_size 2 3 (form_model two_form) (get_or (form_model two_form).rows k d) ≤ 2 ^ 77
    rows zero d l = omega arith
    rows (suc zero) d l = omega arith
    rows (suc (suc zero)) d l = omega arith
    rows (suc (suc (suc k))) d l = absurd (omega (arith, l))

    one : (k d : ℕ) → k < 1 → get_or (2 ∷ []) k d ≤ 2 ^ 16
    one zero d l = omega arith
    one (suc k) d l = absurd (omega (arith, l))

    two : (k d : ℕ) → k < 2 → get_or (2 ∷ 1 ∷ []) k d ≤ 2 ^ 16
    two zero d l = omega arith
    two (suc zero) d l = omega arith
    two (suc (suc k)) d l = absurd (omega (arith, l))

    ways1 : (I : ℕ) → I < 1 → 2 ^ model.decisions_to (form_model two_form).sets1 I ≤ 2 ^ 77
    ways1 zero l = omega arith
    ways1 (suc k) l = absurd (omega (arith, l))

    ways2 : (I : ℕ) → I < 2 → 3 ^ model.decisions_to (form_model two_form).sets2 I ≤ 2 ^ 77
    ways2 zero l = omega arith
    ways2 (suc zero) l = omega arith
    ways2 (suc (suc k)) l = absurd (omega (arith, l))

pub two_is : views.IsView two_view
two_is = record {
  seat = inl refl;
  form1 = (form_test_law (form_model two_form) 1).0 refl;
  form2 = (form_test_law (form_model two_form) 2).0 refl;
  small = two_small;
  some = omega arith;
  roots = omega arith;
  there = omega arith;
  first = first;
  follows = follows;
  places = places;
  through = through;
  bounds = bounds;
  throughs = throughs;
  depth = depth;
  row = omega arith;
  factors = factors;
  decisions = omega arith;
}
  where
    first : (I : ℕ) → I < 2 → (model.parent_of (form_model two_form) 2 I ≡ None) ↔ (I < 2)
    first zero l = (λ e. l, λ l. refl)
    first (suc zero) l = (λ e. l, λ l. refl)
    first (suc (suc k)) l = absurd (omega (arith, l))

    follows : (i : ℕ) → i < 3 → views.IsFollow two_view i (views.path_set two_view i).follows
    follows zero l = refl
    follows (suc zero) l = (omega arith, omega arith, omega arith, omega arith, omega arith)
    follows (suc (suc zero)) l = (omega arith, omega arith, omega arith, omega arith, omega arith)
    follows (suc (suc (suc k))) l = absurd (omega (arith, l))

    places : (k place : ℕ) → k < 1 → place < (views.path_step two_view k).count → count (λ (s : views.PathSet). views.follows_at k place s.follows) two_view.sets ≡ 1
    places zero zero l p = refl
    places zero (suc zero) l p = refl
    places zero (suc (suc place)) l p = absurd (omega (arith, p))
    places (suc k) place l p = absurd (omega (arith, l))

    through : (k : ℕ) (d : views.PathStep) → k < 1 → (get_or two_view.steps k d).through ≤ℤ (views.path_set two_view (get_or two_view.steps k d).from).bound
    through zero d l = omega (arith, ints)
    through (suc k) d l = absurd (omega (arith, l))

    bounds : (k : ℕ) (d : views.PathSet) → k < 3 → unsigned_abs (get_or two_view.sets k d).bound ≤ 2 ^ 117
    bounds zero d l = omega arith
    bounds (suc zero) d l = omega arith
    bounds (suc (suc zero)) d l = omega arith
    bounds (suc (suc (suc k))) d l = absurd (omega (arith, l))

    throughs : (k : ℕ) (d : views.PathStep) → k < 1 → unsigned_abs (get_or two_view.steps k d).through ≤ 2 ^ 117
    throughs zero d l = omega arith
    throughs (suc k) d l = absurd (omega (arith, l))

    depth : (i : ℕ) → i < 3 → views.steps_above two_view 3 i ≤ 32
    depth zero l = omega arith
    depth (suc zero) l = omega arith
    depth (suc (suc zero)) l = omega arith
    depth (suc (suc (suc k))) l = absurd (omega (arith, l))

    factors : (k : ℕ) (d : model.Row) → k < 3 → factors_at (form_model two_form) 2 (get_or (form_model two_form).rows k d) ≡ factors_in (form_model two_form) 2
    factors zero d l = refl
    factors (suc zero) d l = refl
    factors (suc (suc zero)) d l = refl
    factors (suc (suc (suc k))) d l = absurd (omega (arith, l))

-- ---- one root set

abbrev pub single_view : views.View
single_view = view_in 1 (2 ∷ 3 ∷ []) single_form single_path [] 1

single_small : IsSmall 2 3 (form_model single_form)
single_small = record {
  grids = (omega arith, omega arith, omega arith, omega arith);
  few = omega arith;
  rows = rows;
  actions = (one, one);
  ways = (ways1, ways2);
}
  where
    rows : (k : ℕ) (d : model.Row) → k < 2 → row_size 2 3 (form_model single_form) (get_or (form_model single_form).rows k d) ≤ 2 ^ 77
    rows zero d l = omega arith
    rows (suc zero) d l = omega arith
    rows (suc (suc k)) d l = absurd (omega (arith, l))

    one : (k d : ℕ) → k < 1 → get_or (2 ∷ []) k d ≤ 2 ^ 16
    one zero d l = omega arith
    one (suc k) d l = absurd (omega (arith, l))

    ways1 : (I : ℕ) → I < 1 → 2 ^ model.decisions_to (form_model single_form).sets1 I ≤ 2 ^ 77
    ways1 zero l = omega arith
    ways1 (suc k) l = absurd (omega (arith, l))

    ways2 : (I : ℕ) → I < 1 → 3 ^ model.decisions_to (form_model single_form).sets2 I ≤ 2 ^ 77
    ways2 zero l = omega arith
    ways2 (suc k) l = absurd (omega (arith, l))

pub single_is : views.IsView single_view
single_is = record {
  seat = inl refl;
  form1 = (form_test_law (form_model single_form) 1).0 refl;
  form2 = (form_test_law (form_model single_form) 2).0 refl;
  small = single_small;
  some = omega arith;
  roots = omega arith;
  there = omega arith;
  first = first;
  follows = follows;
  places = λ k place l p. absurd (omega (arith, l));
  through = λ k d l. absurd (omega (arith, l));
  bounds = bounds;
  throughs = λ k d l. absurd (omega (arith, l));
  depth = depth;
  row = omega arith;
  factors = factors;
  decisions = omega arith;
}
  where
    first : (I : ℕ) → I < 1 → (model.parent_of (form_model single_form) 2 I ≡ None) ↔ (I < 1)
    first zero l = (λ e. l, λ l. refl)
    first (suc k) l = absurd (omega (arith, l))

    follows : (i : ℕ) → i < 1 → views.IsFollow single_view i (views.path_set single_view i).follows
    follows zero l = refl
    follows (suc k) l = absurd (omega (arith, l))

    bounds : (k : ℕ) (d : views.PathSet) → k < 1 → unsigned_abs (get_or single_view.sets k d).bound ≤ 2 ^ 117
    bounds zero d l = omega arith
    bounds (suc k) d l = absurd (omega (arith, l))

    depth : (i : ℕ) → i < 1 → views.steps_above single_view 1 i ≤ 32
    depth zero l = omega arith
    depth (suc k) l = absurd (omega (arith, l))

    factors : (k : ℕ) (d : model.Row) → k < 2 → factors_at (form_model single_form) 2 (get_or (form_model single_form).rows k d) ≡ factors_in (form_model single_form) 2
    factors zero d l = refl
    factors (suc zero) d l = refl
    factors (suc (suc k)) d l = absurd (omega (arith, l))
