use Rattle.std.proofs.Common.{◌∙◌, sym, ap, string_bytes, position}
use Rattle.std.specs.Str.{bytes_eq}
use Rattle.lab_lex.proofs.Positions.{position-map}
use Rattle.lab_lex.proofs.names.NameTable.find.Goals as goal

pub returns-in_err-number : goal.returns-in_err-number
returns-in_err-number c =
    c.from_residual.ensures ∙ sym c.in_err-number.was ∙ c.get_index_of.ensures.index
    ∙ sym (position-map (bytes_eq c.args.name.now) string_bytes c.self.inside.names.keys) ∙ ap (position (bytes_eq c.args.name.now)) c.self.view_is

pub returns : goal.returns
returns c =
    sym c.in_ok-number.was ∙ c.get_index_of.ensures.index
    ∙ sym (position-map (bytes_eq c.args.name.now) string_bytes c.self.inside.names.keys) ∙ ap (position (bytes_eq c.args.name.now)) c.self.view_is
