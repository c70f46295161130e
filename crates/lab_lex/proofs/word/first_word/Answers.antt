use Rattle.std.proofs.Common.{sym, ◌==◌}
use Rattle.std.proofs.lemmas.List.{take_rest}
use Rattle.lab_math.proofs.ListParts.{split_none, split_some}
use Rattle.lab_lex.proofs.word.first_word.Goals as goal

pub returns-in-None-clause-words : goal.returns-in-None-clause-words
returns-in-None-clause-words c = split_none (λ c. c == 32) c.args.line.now (sym c.in-None.ensures)

pub returns-in-Some-clause-words : goal.returns-in-Some-clause-words
returns-in-Some-clause-words c = rw take_rest (split_some (λ c. c == 32) c.in-Some.at c.args.line.now (sym c.in-Some.ensures))
