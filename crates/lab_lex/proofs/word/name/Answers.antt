use Rattle.std.proofs.Common.{sym}
use Rattle.std.proofs.lemmas.Str.{IsUtf8-from_ascii}
use Rattle.lab_defs_text.proofs.NameLemmas.{IsAscii-name}
use Rattle.lab_lex.proofs.word.name.Goals as goal

pub from_utf8_unchecked-requires : goal.from_utf8_unchecked-requires
from_utf8_unchecked-requires c = IsUtf8-from_ascii c.args.word.now (IsAscii-name c.args.word.now (sym c.if-not-spells_name.ensures))
