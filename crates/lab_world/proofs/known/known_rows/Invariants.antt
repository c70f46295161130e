use Rattle.std.proofs.Common.{◌≡◌, map, drop}
use Rattle.lab_defs_text.specs.Steps.{each}
use Rattle.lab_defs_text.specs.Assembly.{known_row}
use Rattle.lab_world.specs.Drafts.{part_row_of}
use Rattle.lab_world.specs.Stages.{known_row_of}
use Rattle.lab_world.proofs.EachLemmas.{each_on}
use Rattle.lab_world.proofs.known.known_rows.Given as goal

abbrev pub invariant-loop-row : goal.invariant-loop-row
invariant-loop-row l =
    each_on (known_row l.names l.tokens) (map known_row_of l.found.items) (map part_row_of (drop l.row-index l.rows)) ≡ each (known_row l.names l.tokens) (map part_row_of l.rows)
