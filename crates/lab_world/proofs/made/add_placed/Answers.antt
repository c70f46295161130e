use Rattle.std.proofs.Common.{◌≡◌, true, false, refl, rules, arith}
use Rattle.std.specs.Option.{is_some}
use Rattle.lab_world.specs.Drafts.{assemble_fault}
use Rattle.lab_world.specs.Stages.{placed_place_of, ordered_place_of}
use Rattle.lab_world.proofs.MadeLemmas.{on_ok, ordered_kept, ordered_next, ordered_fault}
use Rattle.lab_world.proofs.SizeLemmas.{ordered_same}
use Rattle.lab_world.proofs.made.add_placed.Goals as goal

pub returns-then-is_some-clause-places : goal.returns-then-is_some-clause-places
returns-then-is_some-clause-places c qs h =
    let made = c.args.made.now in
    let kept : is_some made.missing ≡ true = search rules in
    ordered_kept made.missing made.numbered qs (placed_place_of c.args.place) kept h

pub returns-in-Ok-clause-places : goal.returns-in-Ok-clause-places
returns-in-Ok-clause-places c =
    let made = c.args.made.now in
    let none : is_some made.missing ≡ false = search rules in
    on_ok c.add_numbered.result (λ step qs h. ordered_next made.missing made.numbered c.add_numbered.new.found qs (placed_place_of c.args.place) (ordered_place_of c.in-Ok.ordered) none c.in-Ok.ensures.place step h)
    c.add_numbered.ensures.numbered

pub add_numbered-requires-clause-few : goal.add_numbered-requires-clause-few
add_numbered-requires-clause-few c =
    let same = ordered_same (placed_place_of c.args.place) (ordered_place_of c.in-Ok.ordered) c.in-Ok.ensures.place in
    omega (arith, same, c.requires.few)

pub returns-in-Ok-clause-few : goal.returns-in-Ok-clause-few
returns-in-Ok-clause-few c =
    let same = ordered_same (placed_place_of c.args.place) (ordered_place_of c.in-Ok.ordered) c.in-Ok.ensures.place in
    on_ok c.add_numbered.result (λ few. omega (arith, same, few)) c.add_numbered.ensures.few

pub returns-in-Err : goal.returns-in-Err
returns-in-Err c =
    let made = c.args.made.now in
    let none : is_some made.missing ≡ false = search rules in
    record { extra = refl; places = λ qs h. ordered_fault (assemble_fault c.in-Err.fault) made.missing made.numbered qs (placed_place_of c.args.place) none c.in-Err.ensures.place h; few = omega arith }
