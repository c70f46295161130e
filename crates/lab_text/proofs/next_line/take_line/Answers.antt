use Rattle.std.proofs.Common.{◌≡◌, ◌∷◌, ◌∙◌, Some, Ok, rules}
use Rattle.std.specs.Prelude.{◌==◌}
use Rattle.std.proofs.lemmas.Result.{err_from_is_err_and}
use Rattle.lab_defs_text.specs.Faults.{lexical, bad_space_at}
use Rattle.lab_defs_text.specs.Words.{words, first_empty}
use Rattle.lab_defs_text.specs.Reading.{kind_among, next_kinds}
use Rattle.lab_defs_text.proofs.StepLemmas.{passed, ok_is}
use Rattle.lab_text.specs.Faults.{line_fault}
use Rattle.lab_text.specs.Drafts.{draft_is, kind_is, pieces}
use Rattle.lab_text.proofs.TakeSteps.{take_ok, take_err}
use Rattle.lab_text.proofs.next_line.take_line.Goals as goal

pub returns-in_err-rest_line-clause-line : goal.returns-in_err-rest_line-clause-line
returns-in_err-rest_line-clause-line c =
    let p = err_from_is_err_and c.from_residual-in_err-rest_line.result c.from_residual-in_err-rest_line.ensures.1 in
    let read = passed (first_empty 1 (words c.args.bytes.now) == 0) (Ok (words c.args.bytes.now)) (lexical (bad_space_at (first_empty 1 (words c.args.bytes.now)))) (pieces c.fill_words.new.found.items) c.in_ok-fill_words.ensures.words in
    let first : pieces c.fill_words.new.found.items ≡ c.in-Some.first.now.now ∷ pieces c.in-Some.rest.now = search rules in
    let kind : kind_among (next_kinds (kind_is c.args.last)) c.in-Some.first.now.now ≡ Some (kind_is c.in-Some-kind_in.kind) = search rules in
    rw (p.1, p.2) (take_err c.args.line (kind_is c.args.last) (kind_is c.in-Some-kind_in.kind) (draft_is c.args.draft.now) c.args.bytes.now c.in-Some.first.now.now (pieces c.in-Some.rest.now)
    (line_fault c.in_err-rest_line.field-0.0) read.0 (ok_is (words c.args.bytes.now) (pieces c.fill_words.new.found.items) read.1 ∙ first) kind c.in_err-rest_line.ensures.line)

pub returns-clause-line : goal.returns-clause-line
returns-clause-line c =
    let read = passed (first_empty 1 (words c.args.bytes.now) == 0) (Ok (words c.args.bytes.now)) (lexical (bad_space_at (first_empty 1 (words c.args.bytes.now)))) (pieces c.fill_words.new.found.items) c.in_ok-fill_words.ensures.words in
    let first : pieces c.fill_words.new.found.items ≡ c.in-Some.first.now.now ∷ pieces c.in-Some.rest.now = search rules in
    let kind : kind_among (next_kinds (kind_is c.args.last)) c.in-Some.first.now.now ≡ Some (kind_is c.in-Some-kind_in.kind) = search rules in
    take_ok c.args.line (kind_is c.args.last) (kind_is c.in-Some-kind_in.kind) (draft_is c.args.draft.now) (draft_is c.rest_line.new.draft) c.args.bytes.now c.in-Some.first.now.now (pieces c.in-Some.rest.now)
    read.0 (ok_is (words c.args.bytes.now) (pieces c.fill_words.new.found.items) read.1 ∙ first) kind c.in_ok-rest_line.ensures.line
