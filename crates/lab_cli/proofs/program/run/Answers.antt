use Rattle.std.proofs.Common.{refl, sym, ◌∙◌, map, string_bytes}
use Rattle.lab_laws.proofs.SessionSteps.{headline_law}
use Rattle.lab_laws.proofs.SessionPrinted.{printed_law}
use Rattle.lab_cli.specs.ModeNames.{mode_model}
use Rattle.lab_cli.proofs.RunLemmas.{tells_answered, tells_rejected, is_answer, is_rejection, line_written, read_fault_is, read_fault_status, write_fault_status, write_fault_cause, not_bad_words}
use Rattle.lab_cli.proofs.program.run.Goals as goal

pub returns-in-Some-clause-told : goal.returns-in-Some-clause-told
returns-in-Some-clause-told g c = tells_answered (map string_bytes c.args.words.now) (mode_model c.in-Some.mode) c.answer-ended.result _ _ _ _ _ _ (sym c.in-Some.ensures) c.answer-ended.ensures.answered c.finish.ensures.finishes

pub returns-in-Some-clause-read_fault : goal.returns-in-Some-clause-read_fault
returns-in-Some-clause-read_fault g c = λ e. c.answer-ended.ensures.read_fault (read_fault_is c.answer-ended.result _ _ _ c.finish.ensures.finishes e)

pub returns-in-Some-clause-write_fault : goal.returns-in-Some-clause-write_fault
returns-in-Some-clause-write_fault g c = write_fault_cause c.answer-ended.result _ _ _ _ c.answer-ended.ensures.write_later c.finish.ensures.later c.answer-ended.ensures.write_fault c.finish.ensures.fault

pub returns-in-Some-clause-no_read_fault : goal.returns-in-Some-clause-no_read_fault
returns-in-Some-clause-no_read_fault g c = λ other. c.answer-ended.ensures.no_read_fault (λ e. other (read_fault_status c.answer-ended.result _ _ _ c.finish.ensures.finishes e))

pub returns-in-Some-clause-no_write_fault : goal.returns-in-Some-clause-no_write_fault
returns-in-Some-clause-no_write_fault g c =
    λ other. c.finish.ensures.no_fault other ∙ c.answer-ended.ensures.no_write_fault (λ e. other (write_fault_status c.answer-ended.result _ _ _ c.finish.ensures.finishes e))

pub returns-in-Some-clause-answer : goal.returns-in-Some-clause-answer
returns-in-Some-clause-answer g c =
    λ _. is_answer (map string_bytes c.args.words.now) c.finish.result _ _ _ _ _ _
    (tells_answered (map string_bytes c.args.words.now) (mode_model c.in-Some.mode) c.answer-ended.result _ _ _ _ _ _ (sym c.in-Some.ensures) c.answer-ended.ensures.answered c.finish.ensures.finishes)
    (λ e. c.answer-ended.ensures.read_fault (read_fault_is c.answer-ended.result _ _ _ c.finish.ensures.finishes e))
    (write_fault_cause c.answer-ended.result _ _ _ _ c.answer-ended.ensures.write_later c.finish.ensures.later c.answer-ended.ensures.write_fault c.finish.ensures.fault)
    (not_bad_words c.answer-ended.result _ _ _ c.finish.ensures.finishes)

pub returns-in-Some-clause-bad_words : goal.returns-in-Some-clause-bad_words
returns-in-Some-clause-bad_words g c = λ e. absurd (not_bad_words c.answer-ended.result _ _ _ c.finish.ensures.finishes e)

pub returns-in-None-clause-told : goal.returns-in-None-clause-told
returns-in-None-clause-told g c = tells_rejected _ (g.S.Source.left c.args.source.now) _ _ _ (sym c.in-None.ensures) c.usage.ensures.line

pub returns-in-None-clause-bad_words : goal.returns-in-None-clause-bad_words
returns-in-None-clause-bad_words g c = λ e. (sym c.in-None.ensures, line_written _ _ _ _ c.usage.ensures.line e)

pub returns-in-None-clause-no_mode : goal.returns-in-None-clause-no_mode
returns-in-None-clause-no_mode g c = λ _. (refl, is_rejection _ _ _ _ c.usage.ensures.line)

pub returns-in-Some-clause-headline : goal.returns-in-Some-clause-headline
returns-in-Some-clause-headline g c = headline_law

pub returns-in-Some-clause-printed : goal.returns-in-Some-clause-printed
returns-in-Some-clause-printed g c = printed_law

pub returns-in-None-clause-headline : goal.returns-in-None-clause-headline
returns-in-None-clause-headline g c = headline_law

pub returns-in-None-clause-printed : goal.returns-in-None-clause-printed
returns-in-None-clause-printed g c = printed_law
