use Rattle.std.proofs.Common.{refl}
use Rattle.std.specs.Str.{is_utf8, chars}
use lib.Utf8.{encode}
use Rattle.json.specs.Json.{items, members, value}
use Rattle.json.specs.Lex.{lex, punctuate}
use Rattle.json.specs.Text.{code_unit, short_escape, content}
use Rattle.json.specs.Word.{after_number, word}
use Rattle.fast_float.specs.Text.{scan}
use Rattle.serde_json.specs.Read.{number_of}
use Rattle.lab_examples.proofs.certificates.verified.Goals as goal

pub returns : goal.returns
unfolding is_utf8 chars encode lex punctuate content code_unit short_escape word after_number value items members number_of scan
returns c = refl
