use Rattle.std.proofs.Common.{◌≡◌, ◌++◌, map, drop, string_bytes}
use Rattle.lab_world.specs.Drafts.{part_row_by, part_row_of}
use Rattle.lab_world.proofs.named.named_rows.Given as goal

abbrev pub invariant-loop-row : goal.invariant-loop-row
invariant-loop-row l = map part_row_of l.found.items ++ map (part_row_by string_bytes) (drop l.row-index l.rows) ≡ map (part_row_by string_bytes) l.rows
