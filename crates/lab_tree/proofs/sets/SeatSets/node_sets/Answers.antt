use Rattle.std.proofs.Common.{◌<◌, ◌+◌, ◌-◌, ◌∙◌, ap, sym, List, [], ℕ, length, get_or, arith}
use Rattle.std.specs.Prelude.{slice_range}
use Rattle.lab_tree.specs.declared.info.SetInfo.{SetInfo}
use Rattle.lab_tree.specs.SetValues.{SetsValue}
use Rattle.lab_tree.proofs.SpanLemmas.{between_at, between_long}
use Rattle.lab_tree.proofs.sets.SeatSets.node_sets.Goals as goal

pub between-requires-clause-there : goal.between-requires-clause-there
between-requires-clause-there c =
    let sets = c.self.inside.sets.items in
    let starts = c.self.inside.starts.items in
    omega (arith, c.requires, ap (λ (v : SetsValue). length v.node_sets) c.self.view_is, between_long sets starts, ap length c.as_slice-2.ensures.value)

pub returns : goal.returns
returns c =
    let sets = c.self.inside.sets.items in
    let starts = c.self.inside.starts.items in
    let n = c.args.node.0 in
    let l : n < length starts - 1 = omega (arith, c.requires, ap (λ (v : SetsValue). length v.node_sets) c.self.view_is, between_long sets starts) in
    c.between.ensures
    ∙ ap (λ (xs : List SetInfo). slice_range xs (get_or c.as_slice-2.result.now n 0) (get_or c.as_slice-2.result.now (n + 1) 0)) c.as_slice.ensures.value
    ∙ ap (λ (ns : List ℕ). slice_range sets (get_or ns n 0) (get_or ns (n + 1) 0)) c.as_slice-2.ensures.value
    ∙ sym (between_at sets starts n l) ∙ ap (λ (v : SetsValue). get_or v.node_sets n []) c.self.view_is
