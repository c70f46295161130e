use Rattle.std.proofs.Common.{◌≡◌, ◌++◌, ◌∷◌, [], true, false, Option, rules, subst, sym, arith}
use Rattle.std.specs.Option.{is_some}
use Rattle.lab_world.specs.declared.parts.AssembleFault.{AssembleFault}
use Rattle.lab_world.specs.Drafts.{assemble_fault}
use Rattle.lab_world.specs.Stages.{known_place_of, placed_place_of}
use Rattle.lab_world.specs.Made.{PlacedBy}
use Rattle.lab_world.proofs.MadeLemmas.{on_ok, placed_kept, placed_next, placed_fault}
use Rattle.lab_world.proofs.SizeLemmas.{placed_same}
use Rattle.lab_world.proofs.made.add_place.Goals as goal

pub returns-then-is_some-clause-made : goal.returns-then-is_some-clause-made
returns-then-is_some-clause-made c ks h =
    let made = c.args.made.now in
    let kept : is_some made.extra ≡ true = search rules in
    placed_kept made.extra made ks (known_place_of c.args.place) kept h

pub returns-in-Ok-clause-made : goal.returns-in-Ok-clause-made
returns-in-Ok-clause-made c =
    let made = c.args.made.now in
    let after = c.add_placed.new.made in
    let none : is_some made.extra ≡ false = search rules in
    on_ok c.add_placed.result (λ step ks h. subst (λ (o : Option AssembleFault). PlacedBy o after (ks ++ known_place_of c.args.place ∷ [])) (sym c.add_placed.ensures.extra)
    (placed_next made.extra made after ks (known_place_of c.args.place) (placed_place_of c.in-Ok.placed) none c.in-Ok.ensures.place step h)) c.add_placed.ensures.places

pub add_placed-requires-clause-few : goal.add_placed-requires-clause-few
add_placed-requires-clause-few c =
    let same = placed_same (known_place_of c.args.place) (placed_place_of c.in-Ok.placed) c.in-Ok.ensures.place in
    omega (arith, same, c.requires.few)

pub returns-in-Ok-clause-few : goal.returns-in-Ok-clause-few
returns-in-Ok-clause-few c =
    let same = placed_same (known_place_of c.args.place) (placed_place_of c.in-Ok.placed) c.in-Ok.ensures.place in
    on_ok c.add_placed.result (λ few. omega (arith, same, few)) c.add_placed.ensures.few

pub returns-in-Err-clause-made : goal.returns-in-Err-clause-made
returns-in-Err-clause-made c ks h =
    let made = c.args.made.now in
    let none : is_some made.extra ≡ false = search rules in
    placed_fault (assemble_fault c.in-Err.fault) made.extra made ks (known_place_of c.args.place) none c.in-Err.ensures.place h
