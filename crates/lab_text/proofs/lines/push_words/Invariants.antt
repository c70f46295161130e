use Rattle.std.proofs.Common.{◌≡◌, ◌++◌, drop, take, length, map}
use Rattle.lab_text.specs.Parts.{spaced}
use Rattle.lab_text.proofs.lines.push_words.Given as goal

abbrev pub invariant-loop-word : goal.invariant-loop-word
invariant-loop-word l = record {
  rest : l.text.items ++ spaced (map (λ w. w.now) (drop l.word-index l.words)) ≡ l.fn.text.items ++ spaced (map (λ w. w.now) l.words);
  kept : take (length l.fn.text.items) l.text.items ≡ l.fn.text.items;
}
