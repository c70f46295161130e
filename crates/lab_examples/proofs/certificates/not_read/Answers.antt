use Rattle.std.proofs.Common.{refl}
use Rattle.std.specs.Str.{is_utf8, chars}
use lib.Utf8.{encode}
use Rattle.json.specs.Json.{items, members, value}
use Rattle.json.specs.Lex.{lex, punctuate}
use Rattle.json.specs.Text.{code_unit, short_escape, content}
use Rattle.json.specs.Word.{after_number, word}
use Rattle.fast_float.specs.Text.{scan}
use Rattle.serde_json.specs.Read.{number_of}
use Rattle.lab_examples.proofs.certificates.not_read.Goals as goal

pub returns-clause-nothing : goal.returns-clause-nothing
unfolding is_utf8 chars encode lex punctuate content code_unit short_escape word after_number value items members number_of scan
returns-clause-nothing c = refl

pub returns-clause-unended : goal.returns-clause-unended
unfolding is_utf8 chars encode lex punctuate content code_unit short_escape word after_number value items members number_of scan
returns-clause-unended c = refl

pub returns-clause-a_list : goal.returns-clause-a_list
unfolding is_utf8 chars encode lex punctuate content code_unit short_escape word after_number value items members number_of scan
returns-clause-a_list c = refl

pub returns-clause-a_weight_too_few : goal.returns-clause-a_weight_too_few
unfolding is_utf8 chars encode lex punctuate content code_unit short_escape word after_number value items members number_of scan
returns-clause-a_weight_too_few c = refl

pub returns-clause-a_key_too_many : goal.returns-clause-a_key_too_many
unfolding is_utf8 chars encode lex punctuate content code_unit short_escape word after_number value items members number_of scan
returns-clause-a_key_too_many c = refl
