use Rattle.std.proofs.Common.{◌==◌}
use Rattle.lab_text.proofs.FirstPlaces.{first_is}
use Rattle.lab_text.proofs.text_lines.first_feed.Goals as goal

pub returns : goal.returns
returns c = first_is (λ b. b == 10) c.args.bytes.now c.memchr.result c.memchr.ensures
