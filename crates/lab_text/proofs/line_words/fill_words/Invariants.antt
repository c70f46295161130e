use Rattle.std.proofs.Common.{◌≡◌, ◌≤◌, ◌+◌, ◌*◌, ◌++◌, length, vec_len}
use Rattle.lab_defs_text.specs.Words.{words, first_empty}
use Rattle.lab_text.specs.Drafts.{pieces}
use Rattle.lab_text.proofs.WordLemmas.{words_left, room_left}
use Rattle.lab_text.proofs.line_words.fill_words.Given as goal

abbrev pub invariant-loop-rest : goal.invariant-loop-rest
invariant-loop-rest l = record {
  made : pieces l.found.items ++ words_left l.rest ≡ words l.fn.line;
  empty : first_empty l.place (words_left l.rest) ≡ first_empty 1 (words l.fn.line);
  count : vec_len l.found + 1 ≡ l.place;
  few : 2 * l.place + room_left l.rest ≤ length l.fn.line + 3;
}

abbrev pub decreases-loop-rest : goal.decreases-loop-rest
decreases-loop-rest l = room_left l.rest
