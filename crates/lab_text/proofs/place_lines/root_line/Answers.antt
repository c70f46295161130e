use Rattle.lab_text.specs.Drafts.{pieces}
use Rattle.lab_text.proofs.PlaceSteps.{root_named}
use Rattle.lab_text.proofs.place_lines.root_line.Goals as goal

pub returns-clause-line : goal.returns-clause-line
returns-clause-line c =
    root_named c.args.line c.args.last c.args.draft.now c.close.new.draft (pieces c.args.rest.now) c.in_ok-word.word.now c.in_ok-name.name.now
    c.requires c.in_ok-close.ensures c.in_ok-word.ensures c.in_ok-name.ensures
