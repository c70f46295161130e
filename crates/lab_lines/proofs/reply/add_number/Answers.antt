-- A space is added, and then the digits.
use Rattle.std.proofs.Common.{[], ◌∷◌, ◌++◌, subst, append_assoc}
use Rattle.std.proofs.lemmas.Result.{err_from_is_err_and, on_ok_weaker, on_err_weaker}
use Rattle.lab_io.specs.Causes.{AppendsFront}
use Rattle.lab_defs_text.specs.Numbers.{numeral}
use Rattle.lab_lines.specs.Lines.{Adds}
use Rattle.lab_lines.proofs.AddLemmas.{Adds-trans, Adds-front}
use Rattle.lab_lines.proofs.PrefixLemmas.{AppendsFront-first}
use Rattle.lab_lines.proofs.reply.add_number.Goals as goal

pub returns-in_err-add-clause-front : goal.returns-in_err-add-clause-front
returns-in_err-add-clause-front g c =
    let failed = err_from_is_err_and c.from_residual.result c.from_residual.ensures.1 in
    rw failed.1 (subst (AppendsFront _ _) (append_assoc c.args.line.now (32 ∷ []) (numeral c.args.number)) (AppendsFront-first _ _ _ (numeral c.args.number) c.in_err-add.ensures.front))

pub returns-clause-added : goal.returns-clause-added
returns-clause-added g c =
    on_ok_weaker c.add-2.result (λ added. Adds-trans _ _ _ _ _ _ (32 ∷ []) (numeral c.args.number) c.in_ok-add.ensures.added (subst (Adds _ _ _ _) c.number_word.ensures.word added)) c.add-2.ensures.added

pub returns-clause-front : goal.returns-clause-front
returns-clause-front g c =
    on_err_weaker c.add-2.result (λ front. subst (AppendsFront _ _) (append_assoc c.args.line.now (32 ∷ []) (numeral c.args.number))
    (Adds-front _ c.add.new.self _ _ _ (32 ∷ []) (numeral c.args.number) c.in_ok-add.ensures.added (subst (λ t. AppendsFront (g.K.Sink.written c.add.new.sink) (g.K.Sink.written c.add-2.new.sink) (c.add.new.self ++ t)) c.number_word.ensures.word front))) c.add-2.ensures.front
