use Rattle.std.proofs.Common.{◌≡◌, ◌≤◌, ◌+◌, drop, true, false}
use Rattle.lab_lex.proofs.EmptyPlaces.{empty_from}
use Rattle.lab_lex.proofs.word.empty_place.Given as goal

abbrev pub invariant-loop-c : goal.invariant-loop-c
invariant-loop-c l = record {
  answer : empty_from l.empty l.place (drop l.c-index l.line) ≡ empty_from true 1 l.fn.line;
  few : l.place ≤ l.c-index + 1;
  fewer : l.empty ≡ false → l.place ≤ l.c-index;
}
