use Rattle.std.proofs.Common.{◌≡◌, ◌++◌, drop}
use Rattle.lab_defs_text.specs.Lines.{text_of}
use Rattle.lab_defs_text.specs.Texts.{token_lines}
use Rattle.lab_text.proofs.write.push_tokens.Given as goal

abbrev pub invariant-loop-number : goal.invariant-loop-number
invariant-loop-number l =
    l.text.items ++ text_of (token_lines (drop l.number l.tokens)) ≡ l.fn.text.items ++ text_of (token_lines l.tokens)
