-- Where the reader stops, it has taken the line so far and what is read ahead.
use Rattle.std.proofs.Common.{◌≡◌, ◌≢◌, ◌<◌, ◌∙◌, [], arith, length}
use Rattle.std.proofs.lemmas.Grind.{common_steps}
use Rattle.std.proofs.lemmas.Result.{err_from_is_err_and}
use Rattle.lab_io.proofs.Feeds.{some_feed, feed_left}
use Rattle.lab_io.proofs.Givings.{Takes-ahead, Takes-more, Takes-line}
use Rattle.lab_io.proofs.Stops.{StoppedAfter-given}
use Rattle.lab_io.proofs.line.read_line.Goals as goal

pub returns-in_err-count-clause-stop : goal.returns-in_err-count-clause-stop
returns-in_err-count-clause-stop g c =
    let kept = c.loop-ready.line.ok in
    let why = c.in_err-count.ensures.stop (g.S.Source.left c.fill.new.source) in
    let p = err_from_is_err_and c.from_residual.result c.from_residual.ensures.1 in
    rw (p.1, p.2) (StoppedAfter-given _ (Takes-ahead c.loop-ready.invariant.given c.in-Ok.ensures.bytes) (omega arith) c.in-Ok.ensures.short (rw (← c.bytes.ensures.bytes) why))

pub returns-then-count-ready-clause-bytes : goal.returns-then-count-ready-clause-bytes
returns-then-count-ready-clause-bytes g c =
    let feed = rw c.bytes.ensures.bytes at c.in_ok-count.ensures.feed in
    let within : c.in_ok-count.count < length c.fill.new.self = omega (arith, c.in-Ok.ensures.count) in
    rw (c.skip.ensures, c.in_ok-count.ensures.items, c.bytes.ensures.bytes) (Takes-line c.in_ok-count.count (Takes-ahead c.loop-ready.invariant.given c.in-Ok.ensures.bytes) within (feed within))

pub loop-ready-preserved : goal.loop-ready-preserved
loop-ready-preserved g c = record {
  within = grind (arith, common_steps);
  whole = c.in_ok-count.ensures.line;
  no_fault = grind (arith, common_steps);
  at_hand = λ feed.
      let same = c.loop-ready.invariant.at_hand feed in
      let some : c.loop-ready.ahead ≢ [] = rw same.1 (some_feed c.args.ahead.now feed) in
      let kept : c.fill.new.self ≡ c.args.ahead.now = c.in-Ok.ensures.same_ahead some ∙ same.1 in
      let none = rw (c.in_ok-count.ensures.items, c.bytes.ensures.bytes, kept) at c.in_ok-count.ensures.line.unended in
      let all : c.in_ok-count.count ≡ length c.args.ahead.now = grind (arith, common_steps) in
      absurd (feed_left c.loop-ready.line.items c.args.ahead.now c.in_ok-count.count feed none all);
  given = rw (c.skip-in-loop-ready.ensures, c.in_ok-count.ensures.items, c.bytes.ensures.bytes) (Takes-more c.in_ok-count.count (Takes-ahead c.loop-ready.invariant.given c.in-Ok.ensures.bytes));
}
