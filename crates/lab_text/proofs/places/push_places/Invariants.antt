use Rattle.std.proofs.Common.{◌≡◌, ◌++◌, drop}
use Rattle.lab_defs_text.specs.Lines.{text_of}
use Rattle.lab_text.specs.Parts.{places_part}
use Rattle.lab_text.proofs.places.push_places.Given as goal

abbrev pub invariant-loop-number : goal.invariant-loop-number
invariant-loop-number l =
    l.text.items ++ text_of (places_part l.game (drop l.number l.game.names) (drop l.number l.game.places))
    ≡ l.fn.text.items ++ text_of (places_part l.game l.game.names l.game.places)
