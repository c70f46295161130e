use Rattle.std.proofs.Common.{sym, ◌==◌}
use Rattle.std.proofs.lemmas.List.{take_rest}
use Rattle.lab_math.proofs.ListParts.{split_none, split_some}
use Rattle.lab_input.proofs.pieces.cut.Goals as goal

pub returns-in-None-clause-pieces : goal.returns-in-None-clause-pieces
returns-in-None-clause-pieces c = split_none (λ x. x == c.args.separator) c.args.bytes.now (sym c.in-None.ensures)

pub returns-in-Some-clause-pieces : goal.returns-in-Some-clause-pieces
returns-in-Some-clause-pieces c = rw take_rest (split_some (λ x. x == c.args.separator) c.in-Some.at c.args.bytes.now (sym c.in-Some.ensures))
