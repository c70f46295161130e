-- Where a write fails, the writes before it and a prefix of its piece are a prefix of the line.
use Rattle.std.proofs.Common.{[], ◌∷◌}
use Rattle.std.proofs.lemmas.Result.{err_from_is_err_and, on_err_weaker}
use Rattle.lab_lines.proofs.PrefixLemmas.{AppendsFront-first, AppendsFront-second}
use Rattle.lab_lines.proofs.line_buffer.LineBuffer.finish.Goals as goal

pub returns-in_err-write_whole-2-clause-front : goal.returns-in_err-write_whole-2-clause-front
returns-in_err-write_whole-2-clause-front g c =
    let failed = err_from_is_err_and c.from_residual-in_err-write_whole-2.result c.from_residual-in_err-write_whole-2.ensures.1 in
    rw failed.1 (AppendsFront-second _ _ _ c.args.self _ (rw c.bytes-2.ensures at c.in_ok-write_whole.ensures.whole) (AppendsFront-first _ _ c.args.rest.now (10 ∷ []) c.in_err-write_whole-2.ensures.front))

pub returns-clause-front : goal.returns-clause-front
returns-clause-front g c =
    on_err_weaker c.write_whole-4.result (λ prefix. AppendsFront-second _ _ _ c.args.self _ (rw c.bytes-2.ensures at c.in_ok-write_whole.ensures.whole) (AppendsFront-second _ _ _ c.args.rest.now (10 ∷ []) c.in_ok-write_whole-2.ensures.whole prefix)) c.write_whole-4.ensures.front
