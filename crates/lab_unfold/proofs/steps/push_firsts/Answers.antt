use Rattle.std.proofs.Common.{◌+◌, ◌-◌, length, arith, rules}
use Rattle.lab_unfold.specs.Children.{second_children, first_children}
use Rattle.lab_unfold.proofs.ChildLemmas.{moved, passed, first_next}
use Rattle.lab_unfold.proofs.steps.push_firsts.Goals as goal

pub returns-in_err-push_seconds-clause-full : goal.returns-in_err-push_seconds-clause-full
returns-in_err-push_seconds-clause-full c e =
    let full = c.in_err-push_seconds.ensures.full (search rules) in
    passed c.loop-place1.items.items _ (first_children c.args.parent c.args.depth c.args.world.now (c.loop-place1.place1 + 1) (length c.args.world.now.one - (c.loop-place1.place1 + 1)))
    c.args.items.now.items (first_children c.args.parent c.args.depth c.args.world.now 0 (length c.args.world.now.one)) 65536
    (first_next c.args.parent c.args.depth c.args.world.now c.loop-place1.place1 (length c.args.world.now.one) c.loop-place1.items.items _
    (omega (arith, c.loop-place1-test.true)) c.loop-place1.invariant.so_far)
    full

pub loop-place1-preserved : goal.loop-place1-preserved
loop-place1-preserved c =
    record {
      so_far = moved c.loop-place1.items.items (second_children c.args.parent c.args.depth c.args.world.now c.loop-place1.place1 0 (length c.args.world.now.two)) _ c.push_seconds.new.items.items _
          (first_next c.args.parent c.args.depth c.args.world.now c.loop-place1.place1 (length c.args.world.now.one) c.loop-place1.items.items _
          (omega (arith, c.loop-place1-test.true)) c.loop-place1.invariant.so_far)
          c.in_ok-push_seconds.ensures.ok;
      few = c.in_ok-push_seconds.ensures.few;
      count = omega (arith, c.in_ok-push_seconds.ensures.more, c.loop-place1.invariant.count);
    }
