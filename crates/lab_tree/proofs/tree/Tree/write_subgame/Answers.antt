use Rattle.std.proofs.Common.{◌≡◌, ◌<◌, ◌≤◌, ◌^◌, length, map, ap, sym, subst, ◌∙◌}
use Rattle.std.specs.Prelude.{unsigned_abs, All}
use Rattle.lab_math.proofs.Members.{In}
use Rattle.lab_form.specs.declared.items.FormRow.{FormRow}
use Rattle.lab_form.specs.Forms.{FormValue}
use Rattle.lab_tree.specs.declared.info.RowInfo.{RowInfo}
use Rattle.lab_tree.specs.Subforms.{inner_row, parts_with}
use Rattle.lab_tree.specs.TreeForms.{all_rows}
use Rattle.lab_tree.specs.TreeParts.{IsSpan}
use Rattle.lab_tree.specs.TreeSubgames.{parts_at, rows_inside, span_of}
use Rattle.lab_tree.specs.Trees.{TreeValue}
use Rattle.lab_tree.proofs.RowRanges.{part_in}
use Rattle.lab_tree.proofs.SubgameLemmas.{rows_last, rows_inner, worths_small}
use Rattle.lab_tree.proofs.tree.Tree.write_subgame.Goals as goal

pub add_inner_rows-requires-clause-last : goal.add_inner_rows-requires-clause-last
add_inner_rows-requires-clause-last c =
    let v = c.self.inside in
    let rows = c.rows_inside.result.now in
    let there = λ (r : RowInfo) (i : In r rows). subst (λ (t : TreeValue). In r (all_rows t)) (sym c.self.view_is) (part_in c.args.self.now.node_rows c.args.node.0 _ r (subst (In r) c.rows_inside.ensures i)) in
    rows_last c.part-one.result.sets.now v.one.sets c.part-two.result.sets.now v.two.sets _ rows c.part-one.ensures.sets c.part-two.ensures.sets c.self.invariant.form there

pub add_inner_rows-requires-clause-there : goal.add_inner_rows-requires-clause-there
add_inner_rows-requires-clause-there c =
    let v = c.self.inside in
    let n = c.args.node.0 in
    let one = c.part-one.result in
    let two = c.part-two.result in
    let rows = c.rows_inside.result.now in
    let node : n < length v.nodes.nodes = subst (λ (t : TreeValue). n < length t.nodes) (sym c.self.view_is) c.requires.there in
    let there = λ (r : RowInfo) (i : In r rows). subst (λ (t : TreeValue). In r (all_rows t)) (sym c.self.view_is) (part_in c.args.self.now.node_rows n _ r (subst (In r) c.rows_inside.ensures i)) in
    let span1 = subst (IsSpan (length v.one.sets)) (sym c.part-one.ensures.span) (c.self.invariant.one.inside n (subst (λ k. n < k) (sym c.self.invariant.one.spans) node)) in
    let span2 = subst (IsSpan (length v.two.sets)) (sym c.part-two.ensures.span) (c.self.invariant.two.inside n (subst (λ k. n < k) (sym c.self.invariant.two.spans) node)) in
    rows_inner (parts_with c.args.keeper c.weights.result.now one.sets.now one.span one.most two.sets.now two.span two.most) v.one.sets v.two.sets _ rows
    c.add_inner_sets-2.new.form.sets1 c.add_inner_sets-2.new.form.sets2 c.part-one.ensures.sets c.part-two.ensures.sets
    (ap (λ (f : FormValue). f.sets1) c.add_inner_sets-2.ensures ∙ ap (λ (f : FormValue). f.sets1) c.add_inner_sets.ensures) (ap (λ (f : FormValue). f.sets2) c.add_inner_sets-2.ensures)
    (subst (λ ss. IsSpan (length ss) one.span) (sym c.part-one.ensures.sets) span1) (subst (λ ss. IsSpan (length ss) two.span) (sym c.part-two.ensures.sets) span2)
    c.self.invariant.form there

pub add_inner_rows-requires-clause-small : goal.add_inner_rows-requires-clause-small
add_inner_rows-requires-clause-small c =
    let one = c.part-one.result in
    let two = c.part-two.result in
    let t = c.args.self.now in
    let n = c.args.node.0 in
    let most = ap (λ (x : TreeValue). x.unfolded.scale) c.self.view_is in
    let given = parts_at t c.args.keeper n c.args.table.now.weights in
    let held = parts_with c.args.keeper c.weights.result.now one.sets.now one.span one.most two.sets.now two.span two.most in
    let sets1 : one.sets.now ≡ t.one.sets = c.part-one.ensures.sets ∙ ap (λ (x : TreeValue). x.one.sets) c.self.view_is in
    let sets2 : two.sets.now ≡ t.two.sets = c.part-two.ensures.sets ∙ ap (λ (x : TreeValue). x.two.sets) c.self.view_is in
    let span1 : one.span ≡ span_of t.one n = c.part-one.ensures.span ∙ ap (λ (x : TreeValue). span_of x.one n) c.self.view_is in
    let span2 : two.span ≡ span_of t.two n = c.part-two.ensures.span ∙ ap (λ (x : TreeValue). span_of x.two n) c.self.view_is in
    let most1 : one.most ≡ t.unfolded.scale.most1 = c.part-one.ensures.most ∙ ap (λ s. s.most1) (c.scale-scale.ensures ∙ most) in
    let most2 : two.most ≡ t.unfolded.scale.most2 = c.part-two.ensures.most ∙ ap (λ s. s.most2) (c.scale-scale.ensures ∙ most) in
    let weights = c.weights.ensures.weights in
    let same : given ≡ held = cc in
    subst (λ rows. All (λ (r : FormRow). unsigned_abs r.worth.0 ≤ 2 ^ 64) (map (inner_row held) rows)) (sym c.rows_inside.ensures)
    (subst (λ p. All (λ (r : FormRow). unsigned_abs r.worth.0 ≤ 2 ^ 64) (map (inner_row p) (rows_inside t n))) same
    (worths_small _ _ (2 ^ 64) (map (inner_row given) (rows_inside t n)) c.requires.small))
