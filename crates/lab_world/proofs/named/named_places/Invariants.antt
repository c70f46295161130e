use Rattle.std.proofs.Common.{◌≡◌, ◌++◌, [], map, drop, string_bytes}
use Rattle.lab_world.specs.Drafts.{part_place_by, part_place_of}
use Rattle.lab_world.proofs.named.named_places.Given as goal

abbrev pub invariant-loop-place : goal.invariant-loop-place
invariant-loop-place l = map (part_place_of []) l.found.items ++ map (part_place_by string_bytes []) (drop l.place-index l.places) ≡ map (part_place_by string_bytes []) l.places
