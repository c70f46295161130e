-- Each turn adds a word, and the end writes what is held.
use Rattle.std.proofs.Common.{[], ◌∷◌, ◌++◌, ◌+◌, ◌∙◌, subst}
use Rattle.std.proofs.lemmas.List.{take_all}
use Rattle.std.proofs.lemmas.Result.{err_from_is_err_and, on_err_weaker}
use Rattle.lab_io.specs.Causes.{AppendsFront}
use Rattle.lab_defs_text.specs.Lines.{joined}
use Rattle.lab_session.specs.Answers.{show_words}
use Rattle.lab_lines.specs.Lines.{Adds}
use Rattle.lab_lines.proofs.AddLemmas.{Adds-trans, Adds-front}
use Rattle.lab_lines.proofs.PrefixLemmas.{AppendsFront-first}
use Rattle.lab_lines.proofs.ShownLemmas.{shown_more, shown_parts}
use Rattle.lab_lines.proofs.reply.write_weights.Goals as goal

pub loop-weight-preserved : goal.loop-weight-preserved
loop-weight-preserved g c = record {
  no_fault = c.in_ok-add_number.ensures.no_fault ∙ c.loop-weight.invariant.no_fault;
  added =
      subst (Adds [] _ _ _) (shown_more c.args.seat c.loop-weight.weight-index _ c.args.weights.now c.loop-weight-test.true)
      (Adds-trans _ _ _ _ _ _ _ _ c.loop-weight.invariant.added c.in_ok-add_number.ensures.added);
}

pub returns-in_err-add_number-clause-front : goal.returns-in_err-add_number-clause-front
returns-in_err-add_number-clause-front g c =
    let failed = err_from_is_err_and c.from_residual.result c.from_residual.ensures.1 in
    rw failed.1 (subst (AppendsFront _ _) (shown_parts c.args.seat (c.loop-weight.weight-index + 1) c.args.weights.now)
    (AppendsFront-first _ _ _ _ (subst (AppendsFront _ _) (shown_more c.args.seat c.loop-weight.weight-index _ c.args.weights.now c.loop-weight-test.true)
    (Adds-front [] _ _ _ _ _ _ c.loop-weight.invariant.added c.in_err-add_number.ensures.front))))

pub returns-clause-front : goal.returns-clause-front
returns-clause-front g c =
    on_err_weaker c.finish.result (λ front. subst (λ us. AppendsFront (g.K.Sink.written c.args.sink.now) (g.K.Sink.written c.finish.new.sink) (joined (show_words c.args.seat us) ++ (10 ∷ []))) (take_all c.loop-weight.weight-index c.args.weights.now c.loop-weight-test.false)
    (Adds-front [] _ _ _ _ _ (10 ∷ []) c.loop-weight.invariant.added front)) c.finish.ensures.front
