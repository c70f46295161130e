use Rattle.std.proofs.Common.{◌≡◌, ◌<◌, length, get_or, subst}
use Rattle.lab_world.proofs.FilledLemmas.{filled, ids_known}
use Rattle.lab_world.proofs.game.Game.world.Goals as goal

pub returns-in-Some-World-clause-filled : goal.returns-in-Some-World-clause-filled
returns-in-Some-World-clause-filled c =
    let found = c.in-Some-World.ensures.lookup in
    filled c.args.self.now c.args.id.0 c.in-Some-World.field-0.now c.in-Some-World.world
    (subst (λ ps. c.args.id.0 < length ps) c.as_slice.ensures found.3.0)
    (subst (λ ps. c.in-Some-World.field-0.now ≡ get_or ps c.args.id.0 c.in-Some-World.field-0.now) c.as_slice.ensures found.1)
    c.in-Some-World.field-0-is

pub returns-in-Some-World-clause-ids : goal.returns-in-Some-World-clause-ids
returns-in-Some-World-clause-ids c =
    let found = c.in-Some-World.ensures.lookup in
    ids_known c.args.self.now c.args.id.0 c.in-Some-World.field-0.now c.in-Some-World.world
    (subst (λ ps. c.args.id.0 < length ps) c.as_slice.ensures found.3.0)
    (subst (λ ps. c.in-Some-World.field-0.now ≡ get_or ps c.args.id.0 c.in-Some-World.field-0.now) c.as_slice.ensures found.1)
    c.in-Some-World.field-0-is
