use Rattle.std.proofs.Common.{refl}
use Rattle.std.specs.Str.{is_utf8, chars}
use lib.Utf8.{encode}
use Rattle.json.specs.Json.{items, members, value}
use Rattle.json.specs.Lex.{lex, punctuate}
use Rattle.json.specs.Text.{code_unit, short_escape, content}
use Rattle.json.specs.Word.{after_number, word}
use Rattle.fast_float.specs.Text.{scan}
use Rattle.serde_json.specs.Read.{number_of}
use Rattle.lab_examples.proofs.certificates.widest_bounds.Goals as goal

pub returns-clause-above : goal.returns-clause-above
unfolding is_utf8 chars encode lex punctuate content code_unit short_escape word after_number value items members number_of scan
returns-clause-above c = refl

pub returns-clause-too_far_above : goal.returns-clause-too_far_above
unfolding is_utf8 chars encode lex punctuate content code_unit short_escape word after_number value items members number_of scan
returns-clause-too_far_above c = refl

pub returns-clause-below : goal.returns-clause-below
unfolding is_utf8 chars encode lex punctuate content code_unit short_escape word after_number value items members number_of scan
returns-clause-below c = refl

pub returns-clause-too_far_below : goal.returns-clause-too_far_below
unfolding is_utf8 chars encode lex punctuate content code_unit short_escape word after_number value items members number_of scan
returns-clause-too_far_below c = refl
