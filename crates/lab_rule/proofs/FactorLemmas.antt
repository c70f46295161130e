-- The first row of a view has as many factors of the opponent as any.
use Rattle.std.proofs.Common.{◌≡◌, ℕ, ◌+◌, ◌<◌, ◌≤◌, get_or, length, Option, List, [], pos, sym, ap, ◌∙◌, arith}
use Rattle.std.proofs.lemmas.List.{get_or-map, length-map}
use Rattle.lab_defs_game.specs.Forms as model
use Rattle.lab_defs_game.specs.Seats.{other}
use Rattle.lab_defs_value.specs.Replies.{factors_in}
use Rattle.lab_defs_value.specs.Smallness.{factors_at}
use Rattle.lab_form.specs.declared.items.SetId.{SetId}
use Rattle.lab_form.specs.declared.items.FormSet.{FormSet}
use Rattle.lab_form.specs.declared.items.FormRow.{FormRow}
use Rattle.lab_form.specs.Forms.{FormValue, sets_of, actions_in, last_of, whole_path, row_model, form_model}
use Rattle.lab_form.proofs.CallerLemmas.{form_actions, row_path}
use Rattle.lab_rule.specs.declared.view.View.{View}
use Rattle.lab_rule.specs.Factors.{pad_of}
use Rattle.lab_rule.specs.Views.{view_model}
use Rattle.lab_rule.proofs.ViewProps.{view_is}

-- what is read where there is no row
abbrev pub no_row : FormRow
no_row = record { worth = record { 0 = pos 0 }; last = []; pads = [] }

-- the factors that a seat brings to a row
abbrev pub row_factors : FormValue → ℕ → FormRow → ℕ
row_factors f seat r = model.deciding (actions_in (sets_of f seat)) (whole_path (sets_of f seat) (last_of r seat)) + pad_of r seat

-- they are those of the definitions
pub row_factors_are : (f : FormValue) (seat : ℕ) (r : FormRow) → factors_at (form_model f) seat (row_model f.sets1 f.sets2 r) ≡ row_factors f seat r
row_factors_are f seat r =
    ap (λ ns. model.deciding ns (model.path_of (row_model f.sets1 f.sets2 r) seat) + pad_of r seat) (form_actions f seat)
    ∙ ap (λ path. model.deciding (actions_in (sets_of f seat)) path + pad_of r seat) (row_path f seat r)

-- the first row of a view is there, and has as many factors of the opponent as any, 32 at most
pub record HasFirst (v : View) : Type 0 where
  pub some : 0 < length v.form.now.rows
  pub factors : row_factors v.form.now (other v.keeper) (get_or v.form.now.rows 0 no_row) ≡ factors_in (form_model v.form.now) (other v.keeper)
  pub few : factors_in (form_model v.form.now) (other v.keeper) ≤ 32

pub has_first : (v : View) → HasFirst v
has_first v =
    let ok = view_is (view_model v) v.valid in
    let f = v.form.now in
    let o = other v.keeper in
    let made = row_model f.sets1 f.sets2 in
    let some : 0 < length f.rows = omega (arith, ok.row, length-map f.rows made) in
    let there : 0 < length (form_model f).rows = omega (arith, ok.row) in
    let first = get_or-map made f.rows 0 no_row (made no_row) some in
    record {
      some = some;
      factors = sym (row_factors_are f o (get_or f.rows 0 no_row)) ∙ ap (factors_at (form_model f) o) (sym first) ∙ ok.factors 0 (made no_row) there;
      few = ok.decisions;
    }

-- so are those that are counted on it, where rows, seat, sets and step are known by equations
pub factors_are : (v : View) (rows : List FormRow) (seat : ℕ) (sets : List FormSet) (last : Option (SetId × ℕ)) (decisions pad : ℕ) → rows ≡ v.form.now.rows → seat ≡ other v.keeper → sets ≡ sets_of v.form.now seat
    → last ≡ last_of (get_or rows 0 no_row) seat → decisions ≡ model.deciding (actions_in sets) (whole_path sets last) → pad ≡ pad_of (get_or rows 0 no_row) seat
    → (decisions + pad ≡ factors_in (form_model v.form.now) (other v.keeper)) × (decisions + pad ≤ 32)
factors_are v rows seat sets last decisions pad r s ss l d p =
    let f = v.form.now in
    let by = λ (rows : List FormRow) (sets : List FormSet) (last : Option (SetId × ℕ)) (seat : ℕ). model.deciding (actions_in sets) (whole_path sets last) + pad_of (get_or rows 0 no_row) seat in
    let first = has_first v in
    let same : decisions + pad ≡ factors_in (form_model f) (other v.keeper) =
    ap (λ n. n + pad) d ∙ ap (λ n. model.deciding (actions_in sets) (whole_path sets last) + n) p
    ∙ ap (λ o. by rows sets o seat) l
    ∙ ap (λ ss. by rows ss (last_of (get_or rows 0 no_row) seat) seat) ss
    ∙ ap (λ (rs : List FormRow). by rs (sets_of f seat) (last_of (get_or rs 0 no_row) seat) seat) r
    ∙ ap (λ k. row_factors f k (get_or f.rows 0 no_row)) s
    ∙ first.factors in
    (same, omega (arith, same, first.few))
