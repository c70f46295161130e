use Rattle.std.proofs.Common.{◌∙◌, sym}
use Rattle.std.specs.Str.{bytes_eq}
use Rattle.lab_lex.specs.Names.{name_bytes}
use Rattle.lab_lex.proofs.Positions.{position-map}
use Rattle.lab_lex.proofs.names.place_of_name.Goals as goal

pub returns-in_err-place : goal.returns-in_err-place
returns-in_err-place c =
    c.from_residual.ensures ∙ sym c.in_err-place.was ∙ c.first_named.ensures
    ∙ sym (position-map (bytes_eq c.args.name.now) name_bytes c.args.names.now)

pub returns : goal.returns
returns c =
    sym c.in_ok-place.was ∙ c.first_named.ensures
    ∙ sym (position-map (bytes_eq c.args.name.now) name_bytes c.args.names.now)
