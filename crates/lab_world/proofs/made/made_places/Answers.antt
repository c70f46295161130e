use Rattle.std.proofs.Common.{◌≡◌, ◌+◌, ◌<◌, ◌^◌, [], ◌∷◌, ◌++◌, List, length, map, true, refl, ap, sym, subst, ◌∙◌, rules, arith}
use Rattle.std.specs.List.{list_all}
use Rattle.std.specs.Vec.Iter.{into_iter_items}
use Rattle.std.specs.Borrow.{Bor}
use Rattle.lab_defs_text.specs.Words.{Bytes}
use Rattle.lab_defs_text.specs.Steps.{each}
use Rattle.lab_defs_text.specs.Assembly.{known_place}
use Rattle.lab_defs_text.specs.Parts.{part_ok}
use Rattle.lab_world.specs.declared.parts.PartPlace.{PartPlace}
use Rattle.lab_world.specs.Drafts.{part_place_of}
use Rattle.lab_math.specs.Sums.{sum_over}
use Rattle.lab_world.specs.Sizes.{place_size}
use Rattle.lab_world.specs.Stages.{known_place_of}
use Rattle.lab_world.proofs.EachLemmas.{each_on, each_first, each_next}
use Rattle.lab_world.proofs.PlaceLemmas.{none_numbered}
use Rattle.lab_world.proofs.SizeLemmas.{next_known, sizes_few}
use Rattle.lab_world.proofs.made.made_places.Goals as goal

pub loop-place-init : goal.loop-place-init
loop-place-init c =
    let all : into_iter_items c.into_iter-place-iterator.result ≡ c.args.places.items = search rules in
    let step = known_place c.args.names.now c.args.tokens.now in
    record {
      known = [];
      all = ap (λ (xs : List (PartPlace (Bor Bytes))). each_on step [] (map (part_place_of []) xs)) all ∙ each_first step (map (part_place_of []) c.args.places.items);
      made = record {
        rows = [];
        placed = refl;
        ordered = record {
          places = [];
          in_order = refl;
          numbered = none_numbered (record { actions = c.in_ok-new.field-0; places = c.in_ok-with_capacity.field-0 }) c.in_ok-new.ensures c.in_ok-with_capacity.ensures.items;
        };
      };
      fine = subst (λ (xs : List (PartPlace (Bor Bytes))). list_all part_ok (map (part_place_of []) xs) ≡ true) (sym all) c.requires.fine;
      few = let none = ap length c.in_ok-new.ensures in let count = sizes_few (map (part_place_of []) c.args.places.items) c.requires.few in
          subst (λ (xs : List (PartPlace (Bor Bytes))). length c.in_ok-new.field-0 + sum_over place_size (map (part_place_of []) xs) < 2 ^ 32) (sym all) (omega (arith, none, count));
    }

pub loop-place-preserved : goal.loop-place-preserved
loop-place-preserved c =
    let step = known_place c.args.names.now c.args.tokens.now in
    let k = known_place_of c.in_ok-known.known in
    let found = c.loop-place.invariant.known in
    let left = into_iter_items c.loop-place.place-iterator in
    let rest = into_iter_items c.next.new.self in
    let here : left ≡ c.in-Some.place ∷ rest = c.in-Some.ensures.steps.0 in
    let next = next_known c.args.names.now c.args.tokens.now (length c.loop-place.made.numbered.actions) c.in-Some.place rest left k here c.loop-place.invariant.fine c.loop-place.invariant.few c.in_ok-known.ensures in
    record {
      known = found ++ k ∷ [];
      all = each_next step found (found ++ k ∷ []) (part_place_of [] c.in-Some.place) (map (part_place_of []) rest) k (each step (map (part_place_of []) c.args.places.items)) c.in_ok-known.ensures refl
          (ap (λ (xs : List (PartPlace (Bor Bytes))). each_on step found (map (part_place_of []) xs)) (sym here) ∙ c.loop-place.invariant.all);
      made = c.in_ok-add_place.ensures.made found c.loop-place.invariant.made;
      fine = next.fine;
      few = next.rest _ c.in_ok-add_place.ensures.few;
    }

pub add_place-requires-clause-fits : goal.add_place-requires-clause-fits
add_place-requires-clause-fits c =
    (next_known c.args.names.now c.args.tokens.now (length c.loop-place.made.numbered.actions) c.in-Some.place (into_iter_items c.next.new.self) (into_iter_items c.loop-place.place-iterator) (known_place_of c.in_ok-known.known)
    c.in-Some.ensures.steps.0 c.loop-place.invariant.fine c.loop-place.invariant.few c.in_ok-known.ensures).fits

pub add_place-requires-clause-few : goal.add_place-requires-clause-few
add_place-requires-clause-few c =
    (next_known c.args.names.now c.args.tokens.now (length c.loop-place.made.numbered.actions) c.in-Some.place (into_iter_items c.next.new.self) (into_iter_items c.loop-place.place-iterator) (known_place_of c.in_ok-known.known)
    c.in-Some.ensures.steps.0 c.loop-place.invariant.fine c.loop-place.invariant.few c.in_ok-known.ensures).few
