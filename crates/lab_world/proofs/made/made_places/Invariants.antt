use Rattle.std.proofs.Common.{◌≡◌, ◌+◌, ◌<◌, ◌^◌, [], List, length, map, true}
use Rattle.std.specs.List.{list_all}
use Rattle.std.specs.Vec.Iter.{into_iter_items}
use Rattle.lab_defs_text.specs.Parts.{part_ok}
use Rattle.lab_defs_text.specs.Steps.{each}
use Rattle.lab_defs_text.specs.Assembly.{KnownPlace, known_place}
use Rattle.lab_world.specs.Drafts.{part_place_of}
use Rattle.lab_math.specs.Sums.{sum_over}
use Rattle.lab_world.specs.Made.{AreMade}
use Rattle.lab_world.specs.Sizes.{place_size}
use Rattle.lab_world.proofs.EachLemmas.{each_on}
use Rattle.lab_world.proofs.made.made_places.Given as goal

abbrev pub invariant-loop-place : goal.invariant-loop-place
invariant-loop-place l = record {
  known : List KnownPlace;
  all : each_on (known_place l.names l.tokens) known (map (part_place_of []) (into_iter_items l.place-iterator)) ≡ each (known_place l.names l.tokens) (map (part_place_of []) l.fn.places.items);
  made : AreMade l.made known;
  fine : list_all part_ok (map (part_place_of []) (into_iter_items l.place-iterator)) ≡ true;
  few : length l.made.numbered.actions + sum_over place_size (map (part_place_of []) (into_iter_items l.place-iterator)) < 2 ^ 32;
}
