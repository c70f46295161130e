use Rattle.std.proofs.Common.{◌≡◌, ◌<◌, ◌+◌, ◌++◌, List, length, sym, subst}
use Rattle.std.specs.Prelude.{OnOk}
use Rattle.lab_world.specs.Games.{game_model}
use Rattle.lab_unfold.specs.declared.history.History.{History}
use Rattle.lab_unfold.proofs.ChildLemmas.{children_is}
use Rattle.lab_unfold.proofs.steps.push_children.Goals as goal

pub returns-in-Some-clause-ok : goal.returns-in-Some-clause-ok
returns-in-Some-clause-ok c =
    subst (λ (hs : List History). OnOk c.push_firsts.result (c.push_firsts.new.items.items ≡ c.args.items.now.items ++ hs))
    (sym (children_is (game_model c.args.game.now) c.args.game.now.actions c.in-Some.world.now c.args.parent c.args.history.world.0 (c.args.history.depth + 1) c.in-Some.ensures.some))
    c.push_firsts.ensures.ok

pub returns-in-Some-clause-full : goal.returns-in-Some-clause-full
returns-in-Some-clause-full c e =
    subst (λ (hs : List History). 65536 < length c.args.items.now.items + length hs)
    (sym (children_is (game_model c.args.game.now) c.args.game.now.actions c.in-Some.world.now c.args.parent c.args.history.world.0 (c.args.history.depth + 1) c.in-Some.ensures.some))
    (c.push_firsts.ensures.full e)
