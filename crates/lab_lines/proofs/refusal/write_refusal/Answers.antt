use Rattle.std.proofs.Common.{subst, OnErr}
use Rattle.lab_io.specs.Causes.{AppendsFront}
use Rattle.lab_defs_text.specs.Numbers.{numeral}
use Rattle.lab_lines.specs.Codes.{code_name}
use Rattle.lab_lines.proofs.RefusalLemmas.{line_pieces}
use Rattle.lab_lines.proofs.refusal.write_refusal.Goals as goal

pub returns-clause-front : goal.returns-clause-front
returns-clause-front g c =
    subst (λ t. OnErr c.finish.result (AppendsFront (g.K.Sink.written c.args.sink.now) (g.K.Sink.written c.finish.new.sink) t))
    (line_pieces c.head.result (numeral c.args.refusal.now.line) (code_name c.args.refusal.now.code) c.args.refusal.now.rest.now c.head.ensures)
    c.finish.ensures.front
