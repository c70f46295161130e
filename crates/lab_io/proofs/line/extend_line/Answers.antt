-- A line that would grow past its limit or the allowance stops there.
use Rattle.std.proofs.Common.{◌≡◌, ◌+◌, ◌++◌, ◌≤◌, length, take, min, arith}
use Rattle.std.proofs.lemmas.Grind.{common_steps}
use Rattle.lab_io.specs.declared.line_reader.TheConstants.{LINE_LIMIT}
use Rattle.lab_io.proofs.Stops.{PassesLimit-grown, PassesAllowance-grown}
use Rattle.lab_io.proofs.Feeds.{IsBefore-from, IsLine-grown}
use Rattle.lab_io.proofs.line.extend_line.Goals as goal

pub returns-then-allowance-clause-stop : goal.returns-then-allowance-clause-stop
returns-then-allowance-clause-stop c =
    let kept = c.args.line.now.ok in
    let before = IsBefore-from c.args.ahead.now c.count_before_feed-count.result c.count_before_feed-count.ensures in
    λ _. PassesLimit-grown _ _ c.count_before_feed-count.result _ c.requires.line.unended before (omega arith) (omega arith)

pub returns-then-len-given-clause-stop : goal.returns-then-len-given-clause-stop
returns-then-len-given-clause-stop c =
    let kept = c.args.line.now.ok in
    let before = IsBefore-from c.args.ahead.now c.count_before_feed-count.result c.count_before_feed-count.ensures in
    let first : min (length c.args.line.now.items + c.count_before_feed-count.result) (c.args.allowance + 1) ≤ LINE_LIMIT = grind arith in
    λ _. PassesAllowance-grown _ _ c.count_before_feed-count.result _ c.requires.line.unended before first (omega arith)

pub returns-clause-line : goal.returns-clause-line
returns-clause-line c =
    let kept = c.args.line.now.ok in
    let before = IsBefore-from c.args.ahead.now c.count_before_feed-count.result c.count_before_feed-count.ensures in
    let within = before.within in
    let items : c.extend_from_slice.new.self.items ≡ c.args.line.now.items ++ take c.count_before_feed-count.result c.args.ahead.now = grind (arith, common_steps) in
    let fits : length c.args.line.now.items + c.count_before_feed-count.result ≤ LINE_LIMIT = grind arith in
    rw items (IsLine-grown c.args.line.now.items c.args.ahead.now c.count_before_feed-count.result c.requires.line before fits)

pub returns-clause-feed : goal.returns-clause-feed
returns-clause-feed c = (IsBefore-from c.args.ahead.now c.count_before_feed-count.result c.count_before_feed-count.ensures).feed
