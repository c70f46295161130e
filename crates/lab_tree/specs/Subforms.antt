-- The form of a subgame, as a tree writes it.
use Rattle.std.specs.Prelude.{ℕ, ◌-◌, ◌*ℤ◌, pos, List, [], ◌∷◌, map, Option, Some, None, Bool, ◌&&◌, ◌==◌, nat_lt, nat_le, if◌then◌else◌, slice_index_or, slice_range}
use Rattle.std.specs.Option.{option_and_then}
use Rattle.lab_math.specs.Sums.{product_over}
use Rattle.lab_defs_game.specs.Forms.{actions_in, decisions_to, deciding}
use Rattle.lab_defs_value.specs.Tables.{factor}
use Rattle.lab_defs_value.specs.Subgames as value
use Rattle.lab_form.specs.declared.items.SetId.{SetId}
use Rattle.lab_form.specs.declared.items.Span.{Span}
use Rattle.lab_form.specs.declared.items.FormSet.{FormSet}
use Rattle.lab_form.specs.declared.items.FormRow.{FormRow}
use Rattle.lab_form.specs.Forms.{sets_model, whole_path}
use Rattle.lab_tree.specs.declared.info.SetInfo.{SetInfo}
use Rattle.lab_tree.specs.declared.info.RowInfo.{RowInfo}
use Rattle.lab_tree.specs.Trees.{set_id}
use Rattle.lab_tree.specs.TreeForms.{form_sets, last_set}

-- ---- sets

-- whether a number is that of a set of a span
abbrev pub is_within : Span → ℕ → Bool
is_within s set = nat_le s.from set && nat_lt set s.to

-- a step with the number of its set less that of the first one of a span; none where it is not inside
abbrev pub inner_step : Span → SetId × ℕ → Option (SetId × ℕ)
inner_step s t = if is_within s t.0.0 then Some (set_id (t.0.0 - s.from), t.1) else None

-- a set of a span as one of the subgame, where the weights inside begin with this one
abbrev pub inner_set : Span → (first : ℕ) → SetInfo → FormSet
inner_set s first x = record { parent = option_and_then (inner_step s) x.parent; actions = x.actions; first_weight = x.first_weight - first }

-- the first weight of some sets, 0 where there are none
abbrev pub first_of : List SetInfo → ℕ
first_of sets = (slice_index_or sets 0 (record { id = set_id 0; node = record { 0 = 0 }; parent = None; actions = 0; first_weight = 0 })).first_weight

-- the sets of a span
abbrev pub inner_sets : List SetInfo → Span → List FormSet
inner_sets sets s = let part = slice_range sets s.from s.to in map (inner_set s (first_of part)) part

-- ---- rows

-- a span of sets, as the definitions have it
abbrev pub span_model : List SetInfo → Span → value.Span
span_model sets s = record { start = s.from; end = s.to; sets = sets_model (form_sets sets) }

-- the numbers of actions of sets, as the definitions have them
abbrev pub model_actions : List SetInfo → List ℕ
model_actions sets = actions_in (sets_model (form_sets sets))

-- the weights of a table before a span, along the path that ends with a step
abbrev pub weight_before : List SetInfo → Span → List ℕ → Option (SetId × ℕ) → ℕ
weight_before sets s weights step = product_over (factor (model_actions sets) weights) (value.before (span_model sets s) (whole_path (form_sets sets) step))

-- how many deciding sets of a span are on the path that ends with a step
abbrev pub decisions_inside : List SetInfo → Span → Option (SetId × ℕ) → ℕ
decisions_inside sets s step = deciding (model_actions sets) (value.inside (span_model sets s) (whole_path (form_sets sets) step))

-- what a subgame is made of: the keeper and its weights, and for each seat its sets, those inside, and the most decisions that it has on a row
pub record SubgameParts : Type 0 where
  pub keeper : ℕ
  pub weights : List ℕ
  pub one : List SetInfo
  pub two : List SetInfo
  pub span1 : Span
  pub span2 : Span
  pub most1 : ℕ
  pub most2 : ℕ

-- the same, seat by seat
abbrev pub parts_with : (keeper : ℕ) → (weights : List ℕ) → (one : List SetInfo) → Span → (most1 : ℕ) → (two : List SetInfo) → Span → (most2 : ℕ) → SubgameParts
parts_with keeper weights one span1 most1 two span2 most2 = record { keeper = keeper; weights = weights; one = one; two = two; span1 = span1; span2 = span2; most1 = most1; most2 = most2 }

-- the weights of the keeper before the subgame on a row
abbrev pub keeper_weight : SubgameParts → RowInfo → ℕ
keeper_weight p r = if p.keeper == 1 then weight_before p.one p.span1 p.weights (Some (last_set r 1)) else weight_before p.two p.span2 p.weights (Some (last_set r 2))

-- how many decisions a row lacks: of the keeper those that the whole row has fewer than the most, of the other seat those inside
abbrev pub inner_pad : (keeps : Bool) → List SetInfo → Span → (most : ℕ) → SetId × ℕ → ℕ
inner_pad keeps sets s most last = most - (if keeps then decisions_to (sets_model (form_sets sets)) last.0.0 else decisions_inside sets s (Some last))

-- a row of a tree as one of the subgame
abbrev pub inner_row : SubgameParts → RowInfo → FormRow
inner_row p r = record {
  worth = record { 0 = r.worth.0 *ℤ pos (keeper_weight p r) };
  last = inner_step p.span1 (last_set r 1) ∷ inner_step p.span2 (last_set r 2) ∷ [];
  pads = inner_pad (p.keeper == 1) p.one p.span1 p.most1 (last_set r 1) ∷ inner_pad (p.keeper == 2) p.two p.span2 p.most2 (last_set r 2) ∷ [];
}
