use Rattle.std.proofs.Common.{◌+◌, ◌-◌, length, ap, ◌∙◌, arith, rules, length-append}
use Rattle.lab_world.specs.declared.place.Row.{Row}
use Rattle.lab_unfold.specs.Children.{row_children, second_children}
use Rattle.lab_unfold.proofs.ChildLemmas.{moved, passed, row_length, row_parts, second_next}
use Rattle.lab_unfold.proofs.steps.push_seconds.Goals as goal

pub returns-in_err-push_row-clause-full : goal.returns-in_err-push_row-clause-full
returns-in_err-push_row-clause-full c e =
    let full = c.in_err-push_row.ensures.full (search rules) in
    let row = row_children c.args.parent c.args.depth c.args.place1 c.loop-place2.place2 0 c.as_slice.result.now in
    passed c.loop-place2.items.items row (second_children c.args.parent c.args.depth c.args.world.now c.args.place1 (c.loop-place2.place2 + 1) (length c.args.world.now.two - (c.loop-place2.place2 + 1)))
    c.args.items.now.items (second_children c.args.parent c.args.depth c.args.world.now c.args.place1 0 (length c.args.world.now.two)) 65536
    (second_next c.args.parent c.args.depth c.args.world.now c.args.place1 c.loop-place2.place2 (length c.args.world.now.two) c.as_slice.result.now c.loop-place2.items.items _
    (omega (arith, c.loop-place2-test.true)) (c.as_slice.ensures ∙ ap (λ (r : Row). r.outcomes) c.row-row.ensures.row) c.loop-place2.invariant.so_far)
    (omega (arith, full, row_length c.args.parent c.args.depth c.args.place1 c.loop-place2.place2 0 c.as_slice.result.now))

pub loop-place2-preserved : goal.loop-place2-preserved
loop-place2-preserved c =
    let row = row_children c.args.parent c.args.depth c.args.place1 c.loop-place2.place2 0 c.as_slice.result.now in
    record {
      so_far = moved c.loop-place2.items.items row _ c.push_row.new.items.items _
          (second_next c.args.parent c.args.depth c.args.world.now c.args.place1 c.loop-place2.place2 (length c.args.world.now.two) c.as_slice.result.now c.loop-place2.items.items _
          (omega (arith, c.loop-place2-test.true)) (c.as_slice.ensures ∙ ap (λ (r : Row). r.outcomes) c.row-row.ensures.row) c.loop-place2.invariant.so_far)
          c.in_ok-push_row.ensures.ok;
      few = c.in_ok-push_row.ensures.few;
      count =
          let n = ap length c.in_ok-push_row.ensures.ok in
          omega (
            arith,
            n,
            length-append c.loop-place2.items.items row,
            row_length c.args.parent c.args.depth c.args.place1 c.loop-place2.place2 0 c.as_slice.result.now,
            c.loop-place2.invariant.count,
            ap length c.as_slice.ensures,
            (row_parts c.row-row.result.now c.row-row.ensures.filled).0,
          );
    }
