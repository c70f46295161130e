use Rattle.std.proofs.Common.{◌≡◌, ◌++◌, length, map, drop, true}
use Rattle.lab_defs_text.specs.Words.{apart_after}
use Rattle.lab_lex.specs.Names.{name_bytes}
use Rattle.lab_world.proofs.placed.table_of.Given as goal

abbrev pub invariant-loop-i : goal.invariant-loop-i
invariant-loop-i l = record {
  names : l.table ++ map name_bytes (drop l.i l.names) ≡ map name_bytes l.names;
  apart : apart_after l.table (map name_bytes (drop l.i l.names)) ≡ true;
  count : length l.table ≡ l.i;
}
