use Rattle.std.proofs.Common.{◌≡◌, ◌++◌, map, drop, string_bytes}
use Rattle.lab_lex.specs.Names.{name_bytes}
use Rattle.lab_world.proofs.named.named_actions.Given as goal

abbrev pub invariant-loop-name : goal.invariant-loop-name
invariant-loop-name l = map name_bytes l.found.items ++ map string_bytes (drop l.name-index l.names) ≡ map string_bytes l.names
