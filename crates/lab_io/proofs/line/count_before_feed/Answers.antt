-- So many bytes stand before the first line feed.
use Rattle.std.proofs.Common.{◌∙◌}
use Rattle.lab_io.proofs.Feeds.{before_is}
use Rattle.lab_io.proofs.line.count_before_feed.Goals as goal

pub returns : goal.returns
returns c = c.unwrap_or.ensures ∙ before_is c.args.bytes.now c.memchr.result c.memchr.ensures
