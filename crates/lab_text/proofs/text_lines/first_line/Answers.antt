use Rattle.std.proofs.Common.{sym, ◌==◌}
use Rattle.std.proofs.lemmas.List.{take_rest}
use Rattle.lab_math.proofs.ListParts.{split_none, split_some}
use Rattle.lab_text.proofs.text_lines.first_line.Goals as goal

pub returns-in_err-end-clause-lines : goal.returns-in_err-end-clause-lines
returns-in_err-end-clause-lines c = rw (c.from_residual.ensures) (split_none (λ b. b == 10) c.args.bytes.now (sym c.in_err-end.ensures))

pub returns-clause-lines : goal.returns-clause-lines
returns-clause-lines c = rw take_rest (split_some (λ b. b == 10) c.in_ok-end.end c.args.bytes.now (sym c.in_ok-end.ensures))
