use Rattle.std.proofs.Common.{◌≡◌, ◌++◌, ◌-◌, length}
use Rattle.std.specs.List.{range_with_len}
use Rattle.lab_defs_text.specs.Lines.{text_of}
use Rattle.lab_defs_text.specs.Texts.{row_lines}
use Rattle.lab_world.specs.Models.{world_model}
use Rattle.lab_world.specs.Games.{game_model}
use Rattle.lab_text.proofs.places.push_rows.Given as goal

abbrev pub invariant-loop-number : goal.invariant-loop-number
invariant-loop-number l =
    l.text.items ++ text_of (row_lines (game_model l.game) (world_model l.game.actions l.world) (range_with_len l.number (length l.world.rows - l.number)))
    ≡ l.fn.text.items ++ text_of (row_lines (game_model l.game) (world_model l.game.actions l.world) (range_with_len 0 (length l.world.rows)))
